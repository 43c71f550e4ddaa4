use Rattle.std.proofs.Common.{◌≡◌, ◌-◌, ◌+◌, length, map}
use Rattle.pn_deppath.specs.Folders.{free_from, plain_name}
use Rattle.pn_deppath.proofs.names.free_from.Given as goal

abbrev pub invariant-loop-path : goal.invariant-loop-path
invariant-loop-path l = record {
  rest : free_from (map plain_name l.paths) l.name (length l.paths - l._path-index) l.n ≡ free_from (map plain_name l.paths) l.name (length (map plain_name l.paths)) l.first;
  far : l.n ≡ l.first + l._path-index;
}
