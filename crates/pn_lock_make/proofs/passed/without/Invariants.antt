use Rattle.std.proofs.Common.{◌≡◌, ◌++◌, drop, not, ℕ, List}
use Rattle.std.specs.List.{filter}
use Rattle.pn_graph.specs.Graphs.{has_name, peer_names}
use Rattle.pn_lock_make.specs.Names.{AreNames}
use Rattle.pn_lock_make.proofs.passed.without.Given as goal

-- what is left completes what was found
abbrev pub invariant-loop-name : goal.invariant-loop-name
invariant-loop-name l = record {
  made : l.others ++ filter (λ (n : List ℕ). not (has_name n (peer_names l.peers))) (drop l.name-index l.names) ≡ filter (λ (n : List ℕ). not (has_name n (peer_names l.peers))) l.names;
  named : AreNames l.others;
}
