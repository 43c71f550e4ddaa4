use Rattle.std.proofs.Common.{arith, refl}
use Rattle.pn_memstore.specs.Kept.{objects_in}
use Rattle.pn_memstore.proofs.IsWholeLemmas.{copied_none, copied_some, one_lacks, one_more}
use Rattle.pn_memstore.proofs.conditions.all_stand.Goals as goal

pub returns-then-is_none : goal.returns-then-is_none
returns-then-is_none c =
    one_lacks (objects_in c.args.files.now) c.args.listing.now c.loop-digest.digest-index c.loop-digest-item.result c.loop-digest-item.is c.loop-digest-test.true
    (copied_none c.at.result _ c.at.ensures c.if-is_none.ensures)

pub loop-digest-preserved : goal.loop-digest-preserved
loop-digest-preserved c =
    one_more (objects_in c.args.files.now) c.args.listing.now c.loop-digest.digest-index c.loop-digest-item.result c.loop-digest-item.is c.loop-digest-test.true
    (copied_some c.at.result _ c.at.ensures c.if-is_none.ensures) c.loop-digest.invariant

pub returns : goal.returns
returns c = (λ yes k d within. c.loop-digest.invariant k d (omega (arith, within, c.loop-digest-test.false)), λ all. refl)
