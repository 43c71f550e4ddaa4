-- How many bytes are read of a tree that comes to have a plan.
use Rattle.std.specs.Prelude.{◌≤◌, ◌+◌, ℕ, List, length}
use Rattle.std.specs.List.{sum_by}
use Rattle.pn_fs.specs.Tree.{Tree}
use Rattle.pn_fs.specs.Seen.{Seen as Shown}
use Rattle.pn_fs.specs.Calls.{kind_of}
use Rattle.pn_scan.specs.Managed.{Managed}
use Rattle.pn_repair.specs.Repairs.{most_read}
use Rattle.pn_clear.specs.Items.{Item}

-- what stands where something is planned, each file of a right length once
abbrev pub most_planned : List Item → Tree → ℕ
most_planned plan t = sum_by (λ (e : Item). most_read e.1 (kind_of (t e.0))) plan

-- markers, each once
abbrev pub most_marked : List Managed → ℕ
most_marked managed = sum_by (λ (m : Managed). length m.1) managed

-- What calls gave, with what may be read of the plan behind them, is at most what might be read of it before, and that many
-- bytes more. They gave no names.
pub record IsWithin (plan : List Item) (more : ℕ) (t u : Tree) (old new : Shown) : Type 0 where
  pub bytes : new.bytes + most_planned plan u ≤ old.bytes + (most_planned plan t + more)
  pub names : new.names ≤ old.names
