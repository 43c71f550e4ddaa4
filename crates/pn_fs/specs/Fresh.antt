-- What the outside shows before the first call.
use Rattle.std.specs.Prelude.{[], ◌∷◌, Some, None}
use Rattle.pn_fs.specs.Tree.{folder, Tree}
use Rattle.pn_fs.specs.Seen.{Seen, Taken}

-- `/` alone
abbrev pub bare : Tree
bare [] = Some folder
bare (x ∷ p) = None

abbrev pub fresh : Seen
fresh = record { tree = Some bare; touched = []; faults = 0; bytes = 0; names = 0 }

-- what a sink shows before the first call
abbrev pub untaken : Taken
untaken = record { bytes = Some []; calls = 0; faults = 0 }
