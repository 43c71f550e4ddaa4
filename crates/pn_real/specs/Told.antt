-- The real outside tells nothing of what it holds.
use Rattle.std.specs.Prelude.{◌≡◌, ℕ, [], Some, None}
use Rattle.pn_fs.specs.Tree.{Tree, IsTree, IsFinite}
use Rattle.pn_fs.specs.Seen.{Seen, Taken}
use Rattle.pn_storecore.specs.Seen.{Seen as Stored}

-- only the count of faults
abbrev pub untold_tree : ℕ → Seen
untold_tree faults = record { tree = None; touched = []; faults = faults; bytes = 0; names = 0 }

-- only the counts of calls and of faults
abbrev pub untold_bytes : ℕ → ℕ → Taken
untold_bytes calls faults = record { bytes = None; calls = calls; faults = faults }

-- only the count of faults of a store
abbrev pub untold_store : ℕ → Stored
untold_store faults = record { journal = None; me = 0; faults = faults }

pub no_tree : (t : Tree) → None ≡ Some t → IsTree t
no_tree t e = absurd (cc)

pub no_finite_tree : (t : Tree) → None ≡ Some t → IsFinite t
no_finite_tree t e = absurd (cc)
