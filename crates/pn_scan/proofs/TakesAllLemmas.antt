-- Entries of a folder that are looked at one after the other.
use Rattle.std.proofs.Common.{◌≡◌, ◌++◌, ℕ, List, [], ◌∷◌, refl, sym, ap, ◌∙◌, append_assoc, append-nil}
use Rattle.pn_fs.specs.Tree.{Tree}
use Rattle.pn_text.specs.Path.{Path}
use Rattle.pn_scan.specs.Scans.{Found}
use Rattle.pn_scan.specs.Turns.{folder_at, found_at, folders_in, found_in, Takes, TakesAll}

-- what is left leads from what was taken in to the whole
pub record Leads (t : Tree) (p : Path) (rest names : List (List ℕ)) (todo todo' : List Path) (found found' : List Found) : Type 0 where
  pub folders : todo' ++ folders_in t p rest ≡ todo ++ folders_in t p names
  pub entries : found' ++ found_in t p rest ≡ found ++ found_in t p names

pub at_start : (t : Tree) (p : Path) (names : List (List ℕ)) (todo : List Path) (found : List Found) → Leads t p names names todo todo found found
at_start t p names todo found = record { folders = refl; entries = refl }

pub one_more : (t : Tree) (p : Path) (x : List ℕ) (left rest names : List (List ℕ)) (todo mid todo' : List Path) (found here found' : List Found) → left ≡ x ∷ rest
    → Leads t p left names todo mid found here → Takes t p x mid todo' here found' → Leads t p rest names todo todo' found found'
one_more t p x left rest names todo mid todo' found here found' cut l k = record {
  folders = ap (λ d. d ++ folders_in t p rest) k.folders ∙ append_assoc mid (folder_at (t (x ∷ p)) (x ∷ p)) (folders_in t p rest) ∙ ap (λ ns. mid ++ folders_in t p ns) (sym cut) ∙ l.folders;
  entries = ap (λ d. d ++ found_in t p rest) k.entries ∙ append_assoc here (found_at (t (x ∷ p)) (x ∷ p)) (found_in t p rest) ∙ ap (λ ns. here ++ found_in t p ns) (sym cut) ∙ l.entries;
}

pub all_taken : (t : Tree) (p : Path) (rest names : List (List ℕ)) (todo todo' : List Path) (found found' : List Found) → rest ≡ [] → Leads t p rest names todo todo' found found' → TakesAll t p names todo todo' found found'
all_taken t p rest names todo todo' found found' none l = record {
  folders = sym (append-nil todo') ∙ ap (λ ns. todo' ++ folders_in t p ns) (sym none) ∙ l.folders;
  entries = sym (append-nil found') ∙ ap (λ ns. found' ++ found_in t p ns) (sym none) ∙ l.entries;
}
