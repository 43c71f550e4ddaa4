-- What writing calls leave, whatever they answered.
use Rattle.std.specs.Prelude.{◌≡◌, ◌++◌, List, Some}
use Rattle.std.specs.List.{Contains}
use Rattle.pn_text.specs.Path.{Path}
use Rattle.pn_fs.specs.Tree.{Tree}
use Rattle.pn_fs.specs.Seen.{Seen, GaveNothing}

-- Writing calls were made on such paths alone.
pub record Touched (Why : Path → Type 0) (old new : Seen) : Type 0 where
  pub added : List Path
  pub touched : new.touched ≡ old.touched ++ added
  pub why : (p : Path) → Contains added p → Why p

-- The told tree is one still and differs at such paths at most, calls were made on them alone, and nothing was given.
pub record WroteTold (Why : Path → Type 0) (t : Tree) (old new : Seen) : Type 0 where
  pub tree : Tree
  pub is : new.tree ≡ Some tree
  pub others : (q : Path) → (Why q → ⊥) → tree q ≡ t q
  pub touched : Touched Why old new
  pub gave : GaveNothing old new
