use Rattle.std.proofs.Common.{◌≡◌, ◌⊎◌, length, take}
use Rattle.std.specs.List.{Contains}
use Rattle.pn_dep_paths.specs.Steps.{AreWritten, IsBelow}
use Rattle.pn_dep_paths.proofs.base.write_texts.Given as goal

abbrev pub invariant-loop-at : goal.invariant-loop-at
invariant-loop-at l = record {
  count : length l.texts.items ≡ length l.instances;
  written : AreWritten l.folders l.instances (λ i. IsBelow l.instances l.relation.numbers.items l.c i ⊎ Contains (take l.at-index l.row) i) l.texts.items;
}
