use Rattle.std.proofs.Common.{◌≡◌, ◌++◌, take, drop}
use Rattle.pn_deppath.specs.Cuts.{before, from}
use Rattle.pn_deppath.proofs.path.split_path.Given as goal

-- nothing before that place is a parenthesis
abbrev pub invariant-loop-i : goal.invariant-loop-i
invariant-loop-i l = record {
  id : take l.i l.path ++ before 40 (drop l.i l.path) ≡ before 40 l.path;
  groups : from 40 (drop l.i l.path) ≡ from 40 l.path;
}
