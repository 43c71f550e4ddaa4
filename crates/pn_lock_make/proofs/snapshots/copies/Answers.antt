use Rattle.std.proofs.Common.{◌≡◌, ℕ, List, true}
use Rattle.pn_text.specs.Name.{is_name}
use Rattle.pn_lock_make.proofs.StepLemmas.{all_more, copied_step}
use Rattle.pn_lock_make.proofs.snapshots.copies.Goals as goal

pub loop-name-preserved : goal.loop-name-preserved
loop-name-preserved c = record {
  same = copied_step c.args.names.now c.loop-name.name-index c.name-item.result c.in_ok-name_copy.field-0 c.loop-name.all c.push.new.self c.loop-name-test.true c.name-item.is
      c.in_ok-name_copy.ensures.same c.in_ok-push.ensures.ok c.loop-name.invariant.same;
  named = all_more (λ (n : List ℕ). is_name n ≡ true) c.loop-name.all c.push.new.self c.in_ok-name_copy.field-0 c.in_ok-push.ensures.ok c.loop-name.invariant.named c.in_ok-name_copy.ensures.named;
}
