-- A file that is written over what stands there, by a temporary file beside it.
use Rattle.std.specs.Prelude.{◌≡◌, ◌≢◌, ◌⊎◌, ◌∷◌, ℕ, List, Option, Some, None}
use Rattle.std.specs.Option.{ForSome, MatchOption}
use Rattle.pn_text.specs.Path.{Path}
use Rattle.pn_fs.specs.Tree.{Tree, file}
use Rattle.pn_replace.specs.Removes.{IsWithin}

-- Two names in one folder.
pub record AreBeside (path temp : Path) : Type 0 where
  pub folder : Path
  pub name : List ℕ
  pub other : List ℕ
  pub path_is : path ≡ name ∷ folder
  pub temp_is : temp ≡ other ∷ folder
  pub differ : name ≢ other

-- A file with these bytes stands there, nothing at or below the temporary path, and all else is as it was.
pub record IsRewritten (path temp : Path) (bytes : List ℕ) (t u : Tree) : Type 0 where
  pub there : u path ≡ Some (file bytes)
  pub gone : (q : Path) → IsWithin temp q → u q ≡ None
  pub others : (q : Path) → q ≢ path → (IsWithin temp q → ⊥) → u q ≡ t q

-- What stood at the path stands there, or a file with these bytes; elsewhere only what is at or below the temporary path may
-- differ.
pub record IsHalfRewritten (path temp : Path) (bytes : List ℕ) (t u : Tree) : Type 0 where
  pub there : (u path ≡ t path) ⊎ (u path ≡ Some (file bytes))
  pub others : (q : Path) → q ≢ path → (IsWithin temp q → ⊥) → u q ≡ t q

-- a tree that isn't told stays so
abbrev pub Rewritten : Path → Path → List ℕ → Option Tree → Option Tree → Type 0
Rewritten path temp bytes old new = MatchOption old (new ≡ None) (λ t. (u : Tree) × (new ≡ Some u) × IsRewritten path temp bytes t u)

abbrev pub HalfRewritten : Path → Path → List ℕ → Option Tree → Option Tree → Type 0
HalfRewritten path temp bytes old new = ForSome old (λ t. (u : Tree) × (new ≡ Some u) × IsHalfRewritten path temp bytes t u)
