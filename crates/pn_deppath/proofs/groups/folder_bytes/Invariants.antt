use Rattle.std.proofs.Common.{◌≡◌, map, take}
use Rattle.pn_deppath.specs.Groups.{folder_byte}
use Rattle.pn_deppath.proofs.groups.folder_bytes.Given as goal

abbrev pub invariant-loop-b : goal.invariant-loop-b
invariant-loop-b l = l.bytes.items ≡ map folder_byte (take l.b-index l.folder)
