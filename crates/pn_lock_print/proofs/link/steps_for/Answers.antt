use Rattle.std.specs.Prelude.{string_bytes}
use Rattle.std.proofs.Common.{ap, ◌∙◌}
use Rattle.pn_text.proofs.Relatives.{slash_more, other_more}
use Rattle.pn_lock_print.proofs.link.steps_for.Goals.{then-b-eq47+in_ok-push_str, else-b-eq47}
use Rattle.pn_lock_print.proofs.link.steps_for.Goals as goal

pub loop-b-preserved : goal.loop-b-preserved
loop-b-preserved c = elim c.if-b-eq47.branch [
  | then-b-eq47+in_ok-push_str w ↦ slash_more c.args.text.now c.loop-b.b-index c.loop-b-test.true w.if-b-eq47.true _ _ c.loop-b.invariant (ap string_bytes w.steps-is ∙ w.in_ok-push_str.ensures.bytes)
  | else-b-eq47 w ↦ ap string_bytes w.steps-is ∙ other_more c.args.text.now c.loop-b.b-index c.loop-b-test.true w.if-b-eq47.false _ c.loop-b.invariant
]
