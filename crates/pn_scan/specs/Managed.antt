-- Managed folders: those whose contents an installer answers for.
use Rattle.std.specs.Prelude.{◌≡◌, ◌⊎◌, ◌||◌, ℕ, Bool, true, false, List, [], ◌∷◌, ◌++◌, map, take, codes, Some}
use Rattle.std.specs.List.{Contains, list_any}
use Rattle.pn_text.specs.Path.{Path, same_path}
use Rattle.pn_fs.specs.Tree.{Entry, folder, file, Tree}

-- a managed folder, and the text of its marker
abbrev pub Managed : Type 0
Managed = Path × List ℕ

-- whether a path is strictly below another one
abbrev pub is_below : Path → Path → Bool
is_below a [] = false
is_below a (x ∷ p) = same_path p a || is_below a p

-- whether it is at or below the other one
abbrev pub is_within : Path → Path → Bool
is_within a p = same_path p a || is_below a p

-- whether a path is at or below one of the folders
abbrev pub is_managed : List Managed → Path → Bool
is_managed managed q = list_any (λ (m : Managed). is_within m.0 q) managed

-- whether a path is strictly above one of them
abbrev pub is_above : List Managed → Path → Bool
is_above managed q = list_any (λ (m : Managed). is_below q m.0) managed

-- none of the folders is at or below another one
abbrev pub AreApart : List Managed → Type 0
AreApart managed = (before : List Managed) (m : Managed) (after : List Managed) → managed ≡ before ++ m ∷ after
    → (n : Managed) → Contains (before ++ after) n → is_within n.0 m.0 ≡ false

-- the name of a marker
abbrev pub marker_name : List ℕ
marker_name = codes ".pnpm-rs"

-- The folder's marker is a file whose bytes are a front of its text: so it is while it is being written, too.
abbrev pub IsMarked : Tree → Managed → Type 0
IsMarked t m = (n : ℕ) × (t (marker_name ∷ m.0) ≡ Some (file (take n m.1)))

-- an entry stands in the folder
abbrev pub HasEntry : Tree → Path → Type 0
HasEntry t p = (x : List ℕ) × (e : Entry) × (t (x ∷ p) ≡ Some e)

-- The folder is the installer's to change: what stands on its path, from `/` down to itself, is folders, and it is empty
-- or marked.
pub record IsOurs (t : Tree) (m : Managed) : Type 0 where
  pub folders : (q : Path) (e : Entry) → is_within q m.0 ≡ true → t q ≡ Some e → e ≡ folder
  pub marked : IsMarked t m ⊎ (HasEntry t m.0 → ⊥)

-- all of them are
abbrev pub AreOurs : Tree → List Managed → Type 0
AreOurs t managed = (m : Managed) → Contains managed m → IsOurs t m
