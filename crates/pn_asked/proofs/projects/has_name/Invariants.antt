use Rattle.std.proofs.Common.{◌≡◌, drop}
use Rattle.pn_asked.specs.Differences.{rows_of}
use Rattle.pn_asked.specs.Rows.{is_in, keys}
use Rattle.pn_asked.proofs.projects.has_name.Given as goal

abbrev pub invariant-loop-dependency : goal.invariant-loop-dependency
invariant-loop-dependency l = is_in (keys (rows_of (drop l.dependency-index l.dependencies))) l.alias ≡ is_in (keys (rows_of l.fn.dependencies)) l.fn.alias
