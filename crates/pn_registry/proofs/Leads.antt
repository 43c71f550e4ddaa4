-- Entries of a folder that are taken in one after the other.
use Rattle.std.proofs.Common.{◌≡◌, ◌++◌, ℕ, List, [], ◌∷◌, refl, sym, ap, ◌∙◌, append_assoc, append-nil}
use Rattle.pn_text.specs.Path.{Path}
use Rattle.pn_fs.specs.Tree.{Tree}
use Rattle.pn_registry.specs.Files.{File}
use Rattle.pn_registry.specs.Turns.{without_line_feeds, folder_at, file_at, folders_in, files_in, Takes, TakesAll}

-- what is left leads from what was taken in to the whole
pub record Leads (t : Tree) (at p : Path) (rest names : List (List ℕ)) (todo todo' : List Path) (found found' : List File) : Type 0 where
  pub folders : todo' ++ folders_in t p rest ≡ todo ++ folders_in t p names
  pub files : found' ++ files_in (without_line_feeds at t) p rest ≡ found ++ files_in (without_line_feeds at t) p names

pub at_start : (t : Tree) (at p : Path) (names : List (List ℕ)) (todo : List Path) (found : List File) → Leads t at p names names todo todo found found
at_start t at p names todo found = record { folders = refl; files = refl }

pub one_more : (t : Tree) (at p : Path) (x : List ℕ) (left rest names : List (List ℕ)) (todo mid todo' : List Path) (found here found' : List File) → left ≡ x ∷ rest
    → Leads t at p left names todo mid found here → Takes t at p x mid todo' here found' → Leads t at p rest names todo todo' found found'
one_more t at p x left rest names todo mid todo' found here found' cut l k = record {
  folders =
      ap (λ d. d ++ folders_in t p rest) k.folders
      ∙ append_assoc mid (folder_at (t (x ∷ p)) (x ∷ p)) (folders_in t p rest)
      ∙ ap (λ ns. mid ++ folders_in t p ns) (sym cut)
      ∙ l.folders;
  files =
      ap (λ d. d ++ files_in (without_line_feeds at t) p rest) k.files
      ∙ append_assoc here (file_at (without_line_feeds at t (x ∷ p)) (x ∷ p)) (files_in (without_line_feeds at t) p rest)
      ∙ ap (λ ns. here ++ files_in (without_line_feeds at t) p ns) (sym cut)
      ∙ l.files;
}

pub all_taken : (t : Tree) (at p : Path) (rest names : List (List ℕ)) (todo todo' : List Path) (found found' : List File) → rest ≡ [] → Leads t at p rest names todo todo' found found' → TakesAll t at p names todo todo' found found'
all_taken t at p rest names todo todo' found found' none l = record {
  folders = sym (append-nil todo') ∙ ap (λ ns. todo' ++ folders_in t p ns) (sym none) ∙ l.folders;
  files = sym (append-nil found') ∙ ap (λ ns. found' ++ files_in (without_line_feeds at t) p ns) (sym none) ∙ l.files;
}
