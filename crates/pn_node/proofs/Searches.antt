-- Lemmas on the folders that are searched.
use Rattle.std.proofs.Common.{◌≡◌, ◌≢◌, ℕ, List, [], ◌∷◌, ◌++◌, refl, ap, ◌∙◌, Bool, true, false, Some, None}
use Rattle.std.specs.Prelude.{Option, if◌then◌else◌}
use Rattle.std.specs.Str.{bytes_eq}
use Rattle.std.proofs.lemmas.Slice.Eq.{bytes_eq-Decides}
use Rattle.pn_text.specs.Path.{Path}
use Rattle.pn_text.specs.Name.{modules}
use Rattle.pn_fs.specs.Tree.{folder, Tree, IsTree}
use Rattle.pn_node.specs.Find.{at_entry, real, dirs, find_in, find, folder_or}
use Rattle.pn_node.specs.Finds.{ends_in_modules}
use Rattle.pn_node.proofs.Walks.{real_missing}

-- In the parts of a path above a folder, none of the folders on the way holds `node_modules`.
abbrev pub HoldsNoModules : Tree → Path → Path → Type 0
HoldsNoModules t [] d = Unit {0}
HoldsNoModules t (x ∷ p) d = (t (modules ∷ x ∷ (p ++ d)) ≡ None) × HoldsNoModules t p d

-- a choice between a folder that is searched in vain and none
skip : (b : Bool) (t : Tree) (d : Path) (ds : List Path) (name : Path) → real t (name ++ d) ≡ None → find_in t (if b then ds else d ∷ ds) name ≡ find_in t ds name
skip true t d ds name h = refl
skip false t d ds name h = ap (λ r. folder_or t r (find_in t ds name)) h

-- the search goes up to the folder below which nothing holds `node_modules`
find_above : (t : Tree) → IsTree t → (inner d name : Path) → t (inner ++ d) ≡ Some folder → HoldsNoModules t inner d → find_in t (dirs (inner ++ d)) name ≡ find_in t (dirs d) name
find_above t tree [] d name h none = refl
find_above t tree (y ∷ inner) d name h none =
    skip (bytes_eq y modules) t (modules ∷ y ∷ (inner ++ d)) (dirs (inner ++ d)) name (real_missing t tree (y ∷ (inner ++ d)) modules name h none.0)
    ∙ find_above t tree inner d name (tree.parents y (inner ++ d) folder h) none.1

-- two parts that aren't one
apart : (x y : List ℕ) → x ≢ y → bytes_eq x y ≡ false
apart x y h = elim (bytes_eq x y) as (λ b. bytes_eq x y ≡ b → bytes_eq x y ≡ false) [
  | true ↦ λ is. absurd (h ((bytes_eq-Decides x y).0 is))
  | false ↦ λ is. is
] refl

-- the search from a folder at or below an instance's `node_modules` begins there, and goes on from the
-- virtual store
pub begins_beside : (t : Tree) → IsTree t → (inner store : Path) (dir : List ℕ) (name : Path) → dir ≢ modules → t (inner ++ modules ∷ dir ∷ store) ≡ Some folder → HoldsNoModules t inner (modules ∷ dir ∷ store)
    → find t (inner ++ modules ∷ dir ∷ store) name ≡ folder_or t (real t (name ++ modules ∷ dir ∷ store)) (find t store name)
begins_beside t tree inner store dir name other h none =
    find_above t tree inner (modules ∷ dir ∷ store) name h none
    ∙ ap (λ b. find_in t (if b then dirs store else (modules ∷ dir ∷ store) ∷ dirs store) name) (apart dir modules other)

-- the search from a folder begins in its `node_modules`
pub begins_in : (t : Tree) (from name : Path) → ends_in_modules from ≡ false → (other : Option Path) × (find t from name ≡ folder_or t (real t (name ++ modules ∷ from)) other)
begins_in t [] name h = (None, refl)
begins_in t (x ∷ p) name h = (find_in t (dirs p) name, ap (λ b. find_in t (if b then dirs p else (modules ∷ x ∷ p) ∷ dirs p) name) h)

-- a folder is found
pub found : (t : Tree) (r : Option Path) (target : Path) (other : Option Path) → r ≡ Some target → t target ≡ Some folder → folder_or t r other ≡ Some target
found t r target other h there = ap (λ r. folder_or t r other) h ∙ ap (λ e. at_entry e other (Some target) other (λ text. other)) there

pub passed : (t : Tree) (r other : Option Path) → r ≡ None → folder_or t r other ≡ other
passed t r other h = ap (λ r. folder_or t r other) h
