use Rattle.std.proofs.Common.{take}
use Rattle.std.specs.List.{All}
use Rattle.pn_fs.specs.Calls.{IsEntryName}
use Rattle.pn_real.proofs.names.all_good.Given as goal

abbrev pub invariant-loop-name : goal.invariant-loop-name
invariant-loop-name l = All (IsEntryName l.folder) (take l.name-index l.names)
