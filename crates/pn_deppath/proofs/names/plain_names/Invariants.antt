use Rattle.std.proofs.Common.{map, take}
use Rattle.pn_deppath.specs.Folders.{plain_name}
use Rattle.pn_deppath.specs.Numbers.{HasNumbers}
use Rattle.pn_deppath.proofs.names.plain_names.Given as goal

abbrev pub invariant-loop-path : goal.invariant-loop-path
invariant-loop-path l = HasNumbers l.names (map plain_name (take l.path-index l.paths)) (λ q. 0)
