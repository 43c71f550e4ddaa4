use Rattle.std.proofs.Common.{◌≡◌, map, take}
use Rattle.pn_deppath.specs.Folders.{folder_name}
use Rattle.pn_deppath.proofs.folder.in_order.Given as goal

abbrev pub invariant-loop-path : goal.invariant-loop-path
invariant-loop-path l = l.names.items ≡ map (folder_name l.paths) (take l.path-index l.paths)
