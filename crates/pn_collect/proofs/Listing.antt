-- A package's files.
use Rattle.std.proofs.Common.{◌≡◌, ◌≢◌, ℕ, List, [], ◌∷◌, ◌++◌, true, false, Option, Some, None, IfSome, map, length, refl, sym, ap, ◌∙◌, subst, nat_cmp, ◌≤◌}
use Rattle.std.specs.Prelude.{if◌then◌else◌}
use Rattle.std.specs.Cmp.Lexicographic.{slice_cmp}
use Rattle.std.specs.List.{All, Contains}
use Rattle.std.specs.List.Sorted.{IsStrictlySortedBy}
use Rattle.std.proofs.lemmas.List.Elements.{All-contains}
use Rattle.pn_text.specs.declared.limits.TheConstants.{PATH_LIMIT}
use Rattle.pn_text.specs.Path.{Path, path_text, text_below, SpellsParts}
use Rattle.pn_text.specs.Ids.{is_id}
use Rattle.pn_text.specs.Name.{holds_modules}
use Rattle.pn_text.proofs.Members.{from_map, to_map}
use Rattle.pn_fs.specs.Tree.{Tree, file}
use Rattle.pn_registry.specs.Files.{File, holds_line_feed, entry_below, IsFilesOf, IsClean, IsRising, IsShortBelow, IsOneLine}
use Rattle.pn_registry.specs.Apart.{AreApart}
use Rattle.pn_registry.specs.Below.{HasFew}
use Rattle.pn_registry.specs.FilesFaults.{entry_limit}
use Rattle.pn_registry.specs.Places.{package_folder}
use Rattle.pn_package.specs.Links.{Id}
use Rattle.pn_package.specs.Sound.{AreSoundLinks}
use Rattle.pn_package.specs.declared.packages.Package.{Package}
use Rattle.pn_collect.specs.Outline.{outline, dressed, HasFiles, AreFilesBelow, AreSoundFiles, IsMade, IsBelow, path_of}
use Rattle.pn_collect.specs.declared.bare.Bare.{Bare}

texts_of : (files : List File) → map text_below (map path_of files) ≡ map (λ (f : File). text_below f.0) files
texts_of [] = refl
texts_of (f ∷ files) = ap (λ (l : List (List ℕ)). text_below f.0 ∷ l) (texts_of files)

pub sound_files : (folder : Path) (files : List File) (paths : List Path) → paths ≡ map path_of files → All IsBelow paths → All IsClean files
    → AreApart files → All (IsShortBelow folder) files → All IsOneLine files → IsRising files → AreSoundFiles folder paths
sound_files folder files paths same below clean apart short lines rising =
    let at = λ (f : Path) (c : Contains paths f). from_map path_of files f (subst (λ (l : List Path). Contains l f) same c) in
    record {
      rising = subst (IsStrictlySortedBy (slice_cmp nat_cmp)) (sym (ap (map text_below) same ∙ texts_of files)) rising;
      each = λ f c. record {
        below = All-contains IsBelow paths f below c;
        clean = subst (λ (p : Path). holds_modules p ≡ false) (at f c).2 (All-contains IsClean files (at f c).0 clean (at f c).1).plain;
      };
      apart = λ s f c k.
          let x = at f c in
          let y = at (s ++ f) k in
          apart s f x.0.1 y.0.1 (subst (λ (p : Path). Contains files (p, x.0.1)) x.2 x.1) (subst (λ (p : Path). Contains files (p, y.0.1)) y.2 y.1);
      short = λ f c.
          let x = at f c in
          subst (λ (p : Path). length (path_text (p ++ folder)) ≤ PATH_LIMIT) x.2 (All-contains (IsShortBelow folder) files x.0 short x.1);
      lines = λ f c.
          let x = at f c in
          subst (λ (p : Path). holds_line_feed p ≡ false) x.2 (All-contains IsOneLine files x.0 lines x.1);
    }

-- a file that counts has no line feed in its path
pub entry_there : (t : Tree) (folder f : Path) (bytes : List ℕ) → entry_below t folder f ≡ Some (file bytes) → (holds_line_feed f ≡ false) × (t (f ++ folder) ≡ Some (file bytes))
entry_there t folder f bytes h = elim (holds_line_feed f) as (λ c. holds_line_feed f ≡ c → (if c then None else t (f ++ folder)) ≡ Some (file bytes) → (holds_line_feed f ≡ false) × (t (f ++ folder) ≡ Some (file bytes))) [
  | true ↦ λ is e. cc
  | false ↦ λ is e. (is, e)
] refl h

pub there_entry : (t : Tree) (folder f : Path) (bytes : List ℕ) → holds_line_feed f ≡ false → t (f ++ folder) ≡ Some (file bytes) → entry_below t folder f ≡ Some (file bytes)
there_entry t folder f bytes plain h = ap (λ c. if c then None else t (f ++ folder)) plain ∙ h

-- a told file stands, and has no line feed in its path
told_file : (t : Tree) (folder : Path) (files : List File) (paths : List Path) → paths ≡ map path_of files → IsFilesOf t folder files → (f : Path) → Contains paths f
    → (bytes : List ℕ) × (holds_line_feed f ≡ false) × (t (f ++ folder) ≡ Some (file bytes))
told_file t folder files paths same h f c =
    let x = from_map path_of files f (subst (λ (l : List Path). Contains l f) same c) in
    let s = h.stands f x.0.1 (subst (λ (p : Path). Contains files (p, x.0.1)) x.2 x.1) in
    let e = entry_there t folder f s.0 s.1 in
    (s.0, e.0, e.1)

pub below : (t : Tree) (folder : Path) (files : List File) (paths : List Path) → paths ≡ map path_of files → All IsClean files → IsFilesOf t folder files → HasFew t folder entry_limit → AreFilesBelow t folder paths
below t folder files paths same clean h few = record {
  stand = λ f c. let s = told_file t folder files paths same h f c in (s.0, s.2);
  plain = λ f c. (told_file t folder files paths same h f c).1;
  all = λ f plain is.
      subst (λ (l : List Path). Contains l f) (sym same) (to_map path_of files (f, length is.0) (h.all f is.0 (there_entry t folder f is.0 plain is.1)));
  short = λ f bytes c is.
      let plain = (told_file t folder files paths same h f c).1 in
      (All-contains IsClean files (f, length bytes) clean (h.all f bytes (there_entry t folder f bytes plain is))).short;
  few = few;
}

pub made : (p : Package) (folder : Path) (files : List Path) → is_id p.id ≡ true → AreSoundLinks p.links → p.folder ≡ folder → p.files.items ≡ files → AreSoundFiles folder files → IsMade p
made p folder files id links at is h = record {
  id = id;
  links = links;
  files = subst (λ (a : Path). AreSoundFiles a p.files.items) (sym at) (subst (AreSoundFiles folder) (sym is) h);
}

pub has_files : (t : Tree) (p : Package) (folder : Path) (files : List Path) → p.folder ≡ folder → p.files.items ≡ files → AreFilesBelow t folder files → HasFiles t p
has_files t p folder files at is h = subst (λ (a : Path). AreFilesBelow t a p.files.items) (sym at) (subst (AreFilesBelow t folder) (sym is) h)

pub outlined : (b : Bare) (p : Package) (folder : Path) → p.id ≡ b.id → p.links ≡ b.links → p.folder ≡ folder → folder ≡ package_folder b.id → outline p ≡ dressed b
outlined b p folder id links at here = λ i. record { id = id i; links = links i; folder = (at ∙ here) i }

-- a path's text begins behind a slash, so it has a part
pub has_part : (text : List ℕ) (p : Path) → SpellsParts text p → p ≢ []
has_part text [] s = λ e. absurd (cc s.spelled)
has_part text (x ∷ p) s = λ e. absurd (cc e)

-- the same where the tree is told
pub below_if : (id : Id) (folder : Path) (files : List File) (paths : List Path) (o : Option Tree) → folder ≡ package_folder id → All IsClean files
    → IfSome o (λ t. IsFilesOf t (package_folder id) files) → IfSome o (λ t. HasFew t (package_folder id) entry_limit) → paths ≡ map path_of files → IfSome o (λ t. AreFilesBelow t folder paths)
below_if id folder files paths None here clean h few same = tt
below_if id folder files paths (Some t) here clean h few same = below t folder files paths same clean (subst (λ (p : Path). IsFilesOf t p files) (sym here) h) (subst (λ (p : Path). HasFew t p entry_limit) (sym here) few)
