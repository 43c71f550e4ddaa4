-- What calls on one path leave, whatever they answered.
use Rattle.std.specs.Prelude.{◌≡◌, ◌≤◌, ◌++◌, List, Option, Some, None}
use Rattle.std.specs.List.{Contains}
use Rattle.std.specs.Option.{ForSome}
use Rattle.pn_text.specs.Path.{Path}
use Rattle.pn_fs.specs.Tree.{Entry, Tree}
use Rattle.pn_fs.specs.Seen.{Seen, GaveNothing}
use Rattle.pn_storecore.specs.Seen.{Seen as StoreSeen}
use Rattle.pn_storecore.specs.Grew.{Grew}
use Rattle.pn_store.specs.Leaves.{LeavesAll}
use Rattle.pn_repair.specs.Repairs.{DiffersAt}

-- The told tree differs at this path at most, writing calls were made on it alone, and nothing was given.
pub record WroteTold (p : Path) (t : Tree) (old new : Seen) : Type 0 where
  pub tree : Tree
  pub is : new.tree ≡ Some tree
  pub differs : DiffersAt p t tree
  pub added : List Path
  pub touched : new.touched ≡ old.touched ++ added
  pub alone : (q : Path) → Contains added q → q ≡ p
  pub gave : GaveNothing old new

pub record WroteAt (p : Path) (old new : Seen) : Type 0 where
  pub later : old.faults ≤ new.faults
  pub untold : old.tree ≡ None → new.tree ≡ None
  pub told : ForSome old.tree (λ t. WroteTold p t old new)

-- where the tree is told, this stands at a path
abbrev pub HasAt : Path → (Option Entry → Type 0) → Option Tree → Type 0
HasAt p What tree = ForSome tree (λ u. What (u p))

-- what stands at a path, and what stood there
abbrev pub IsAt : Path → (Option Entry → Option Entry → Type 0) → Option Tree → Option Tree → Type 0
IsAt p What old new = ForSome old (λ t. ForSome new (λ u. What (t p) (u p)))

-- Calls that only read the store.
pub record ReadsStore (old new : StoreSeen) : Type 0 where
  pub grew : Grew old new
  pub left : LeavesAll old new
  pub later : old.faults ≤ new.faults
