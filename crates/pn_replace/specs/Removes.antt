-- All that stands at a path and below it, taken away.
use Rattle.std.specs.Prelude.{◌≡◌, ◌⊎◌, ◌++◌, Option, Some, None}
use Rattle.std.specs.Option.{ForSome, MatchOption}
use Rattle.pn_text.specs.Path.{Path}
use Rattle.pn_fs.specs.Tree.{Tree}
use Rattle.pn_fs.specs.Seen.{Seen}
use Rattle.pn_replace.specs.Writes.{Touched}

-- q is at or below p
abbrev pub IsWithin : Path → Path → Type 0
IsWithin p q = (r : Path) × (q ≡ r ++ p)

-- At and below p nothing stands, and all else is as it was.
pub record IsCut (p : Path) (t u : Tree) : Type 0 where
  pub gone : (q : Path) → IsWithin p q → u q ≡ None
  pub others : (q : Path) → (IsWithin p q → ⊥) → u q ≡ t q

-- Each entry is as it was, or it was at or below p and is gone.
abbrev pub IsHalfCut : Path → Tree → Tree → Type 0
IsHalfCut p t u = (q : Path) → (u q ≡ t q) ⊎ ((u q ≡ None) × IsWithin p q)

-- a tree that isn't told stays so
abbrev pub Removed : Path → Option Tree → Option Tree → Type 0
Removed p old new = MatchOption old (new ≡ None) (λ t. (u : Tree) × (new ≡ Some u) × IsCut p t u)

abbrev pub HalfRemoved : Path → Option Tree → Option Tree → Type 0
HalfRemoved p old new = ForSome old (λ t. (u : Tree) × (new ≡ Some u) × IsHalfCut p t u)

-- Calls cut there, whatever they answered, and were made at and below p alone.
pub record CutTold (p : Path) (t : Tree) (old new : Seen) : Type 0 where
  pub tree : Tree
  pub is : new.tree ≡ Some tree
  pub half : IsHalfCut p t tree
  pub touched : Touched (IsWithin p) old new

pub record Cuts (p : Path) (old new : Seen) : Type 0 where
  pub untold : old.tree ≡ None → new.tree ≡ None
  pub told : ForSome old.tree (λ t. CutTold p t old new)
