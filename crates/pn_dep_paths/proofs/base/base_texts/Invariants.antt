use Rattle.std.proofs.Common.{◌≡◌, length}
use Rattle.pn_dep_paths.specs.Steps.{AreWritten, IsBelow}
use Rattle.pn_dep_paths.proofs.base.base_texts.Given as goal

abbrev pub invariant-loop-c : goal.invariant-loop-c
invariant-loop-c l = record {
  count : length l.texts.items ≡ length l.instances;
  written : AreWritten l.folders l.instances (IsBelow l.instances l.relation.numbers.items l.c) l.texts.items;
}
