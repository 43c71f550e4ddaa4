-- A tree of folders, files and links, and what each call makes of it.
use Rattle.std.specs.Prelude.{◌≡◌, ◌⊎◌, ◌≤◌, IsTrue, length, ℕ, List, [], ◌∷◌, ◌++◌, Option, Some, None, if◌then◌else◌}
use Rattle.std.specs.List.{Contains}
use Rattle.std.proofs.Props.{props}
use mathlib.Core.Sum.{⊎_set}
use mathlib.Core.HLevel.{collapsible→set}
use Rattle.std.proofs.Common.{sym, ap, ◌∙◌, refl, inl, inr}
use Rattle.pn_text.specs.Path.{Path, same_path, is_path, path_text}
use Rattle.pn_text.specs.declared.limits.TheConstants.{PATH_LIMIT}

-- what may stand at a path: a folder, a file with these bytes, or a link with this text
pub data Entry : Type 0 where
  folder : Entry
  file : List ℕ → Entry
  link : List ℕ → Entry

-- what stands at each path
abbrev pub Tree : Type 0
Tree = Path → Option Entry

-- `/` is a folder, and so is the parent of each entry. An entry's path is in the grammar of paths.
pub record IsTree (t : Tree) : Type 0 where
  pub root : t [] ≡ Some folder
  pub paths : (p : Path) (e : Entry) → t p ≡ Some e → IsTrue (is_path p) × (length (path_text p) ≤ PATH_LIMIT)
  pub parents : (x : List ℕ) (p : Path) (e : Entry) → t (x ∷ p) ≡ Some e → t p ≡ Some folder

-- All entries stand at the paths of a list.
abbrev pub IsFinite : Tree → Type 0
IsFinite t = (paths : List Path) × ((p : Path) (e : Entry) → t p ≡ Some e → Contains paths p)

-- entries are data, so an equation between two has one proof
Coding : Type 0
Coding = Unit {0} ⊎ (List ℕ ⊎ List ℕ)

to_coding : Entry → Coding
unfolding Coding
to_coding folder = inl tt
to_coding (file bytes) = inr (inl bytes)
to_coding (link text) = inr (inr text)

from_coding : Coding → Entry
unfolding Coding
from_coding (inl u) = folder
from_coding (inr (inl bytes)) = file bytes
from_coding (inr (inr text)) = link text

back : (e : Entry) → from_coding (to_coding e) ≡ e
unfolding Coding to_coding from_coding
back folder = refl
back (file bytes) = refl
back (link text) = refl

Coding-set : IsSet Coding
unfolding Coding
Coding-set = hlevel (props, ⊎_set)

pub Entry-set : IsSet Entry
Entry-set = collapsible→set (λ x y p. sym (back x) ∙ ap from_coding (ap to_coding p) ∙ back y)
    (λ x y p q. ap (λ z. sym (back x) ∙ ap from_coding z ∙ back y) (Coding-set (to_coding x) (to_coding y) (ap to_coding p) (ap to_coding q)))

-- there is one proof of it
pub IsTree-prop : (t : Tree) → IsProp (IsTree t)
IsTree-prop t = hlevel (props, Entry-set)

-- a file with some bytes
abbrev pub IsFile : Tree → Path → Type 0
IsFile t p = (bytes : List ℕ) × (t p ≡ Some (file bytes))

abbrev pub IsLink : Tree → Path → Type 0
IsLink t p = (text : List ℕ) × (t p ≡ Some (link text))

-- the parent is a folder; `/` has none
abbrev pub HasParent : Tree → Path → Type 0
HasParent t [] = ⊥
HasParent t (x ∷ p) = t p ≡ Some folder

-- nothing stands there, and something may
pub record IsFree (t : Tree) (p : Path) : Type 0 where
  pub absent : t p ≡ None
  pub parent : HasParent t p

-- a file may be made there
pub record CanCreate (t : Tree) (p : Path) : Type 0 where
  pub absent : (t p ≡ None) ⊎ IsFile t p
  pub parent : HasParent t p

-- a file, a link, or an empty folder other than `/`
abbrev pub CanRemove : Tree → Path → Type 0
CanRemove t [] = ⊥
CanRemove t (x ∷ p) = IsFile t (x ∷ p) ⊎ IsLink t (x ∷ p) ⊎ ((t (x ∷ p) ≡ Some folder) × ((y : List ℕ) → t (y ∷ x ∷ p) ≡ None))

pub record CanRename (t : Tree) (from to : Path) : Type 0 where
  pub source : IsFile t from
  pub target : CanCreate t to

-- the tree with something else at a path
abbrev pub put : Tree → Path → Option Entry → Tree
put t p e = λ q. if same_path p q then e else t q

-- a file with more bytes
abbrev pub grown : Option Entry → List ℕ → Option Entry
grown None more = None
grown (Some folder) more = Some folder
grown (Some (file bytes)) more = Some (file (bytes ++ more))
grown (Some (link text)) more = Some (link text)

abbrev pub moved : Tree → Path → Path → Tree
moved t from to = put (put t from None) to (t from)
