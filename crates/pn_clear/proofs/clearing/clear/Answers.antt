use Rattle.std.proofs.Common.{◌≡◌, ◌+◌, ◌-◌, ◌<◌, length, arith, true}
use Rattle.pn_text.proofs.Results.{any_err, if_some}
use Rattle.pn_repair.proofs.GaveLemmas.{nothing_none, nothing_both}
use Rattle.pn_clear.specs.Items.{is_gone}
use Rattle.pn_clear.specs.Clearing.{Touched}
use Rattle.pn_clear.proofs.WithoutLemmas.{none_left, without_told, removable, differs_gone, goes_on, touched_none, touched_more}
use Rattle.pn_clear.proofs.clearing.clear.Goals as goal

pub entries-init : goal.entries-init
entries-init g c =
    let seen = g.P.ReadFs.seen in
    record {
      gone = none_left c.args.plan.now (seen c.args.fs.now).tree c.args.entries.now;
      touched = if_some (λ t. Touched (λ p. is_gone c.args.plan.now c.args.entries.now p ≡ true) (seen c.args.fs.now) (seen c.args.fs.now)) (seen c.args.fs.now).tree (λ t told. touched_none (λ p. is_gone c.args.plan.now c.args.entries.now p ≡ true) (seen c.args.fs.now));
      gave = nothing_none (seen c.args.fs.now);
      within = omega arith;
      later = omega arith;
    }

pub clear_one-requires-clause-clear : goal.clear_one-requires-clause-clear
clear_one-requires-clause-clear g c =
    let left = c.entries.left in
    let at : left ≡ (left - 1) + 1 = omega (arith, c.entries-test.true) in
    let below : left - 1 < length c.args.entries.now = omega (arith, c.entries-test.true, c.entries.invariant.within) in
    removable c.args.plan.now (g.P.ReadFs.seen c.args.fs.now).tree (g.P.ReadFs.seen c.entries.fs).tree c.args.entries.now (left - 1) left c.index-entries-left.result at below c.index-entries-left.is c.requires.order c.requires.clear c.entries.invariant.gone

pub entries-preserved : goal.entries-preserved
entries-preserved g c =
    let seen = g.P.ReadFs.seen in
    let inv = c.entries.invariant in
    let left = c.entries.left in
    let at : left ≡ (left - 1) + 1 = omega (arith, c.entries-test.true) in
    let below : left - 1 < length c.args.entries.now = omega (arith, c.entries-test.true, inv.within) in
    record {
      gone = goes_on c.args.plan.now (seen c.args.fs.now).tree (seen c.entries.fs).tree (seen c.clear_one.new.fs).tree c.args.entries.now (left - 1) left c.index-entries-left.result at below c.index-entries-left.is inv.gone c.in_ok-clear_one.ensures.ok;
      touched = touched_more c.args.plan.now c.args.entries.now (left - 1) left c.index-entries-left.result (seen c.args.fs.now) (seen c.entries.fs) (seen c.clear_one.new.fs) below c.index-entries-left.is inv.gone inv.touched c.in_ok-clear_one.ensures.touched;
      gave = nothing_both (seen c.args.fs.now) (seen c.entries.fs) (seen c.clear_one.new.fs) (without_told c.args.plan.now _ _ _ inv.gone) inv.gave c.in_ok-clear_one.ensures.gave;
      within = omega (arith, inv.within);
      later = omega (arith, inv.later, c.in_ok-clear_one.ensures.later);
    }

pub returns-in_err-clear_one-clause-err : goal.returns-in_err-clear_one-clause-err
returns-in_err-clear_one-clause-err g c =
    let left = c.entries.left in
    let at : left ≡ (left - 1) + 1 = omega (arith, c.entries-test.true) in
    let below : left - 1 < length c.args.entries.now = omega (arith, c.entries-test.true, c.entries.invariant.within) in
    any_err _ (differs_gone c.args.plan.now (g.P.ReadFs.seen c.args.fs.now).tree (g.P.ReadFs.seen c.entries.fs).tree (g.P.ReadFs.seen c.clear_one.new.fs).tree c.args.entries.now (left - 1) left c.index-entries-left.result at below c.index-entries-left.is c.entries.invariant.gone c.in_err-clear_one.ensures.err)

pub returns-in_err-clear_one-clause-touched : goal.returns-in_err-clear_one-clause-touched
returns-in_err-clear_one-clause-touched g c =
    let seen = g.P.ReadFs.seen in
    let left = c.entries.left in
    let below : left - 1 < length c.args.entries.now = omega (arith, c.entries-test.true, c.entries.invariant.within) in
    touched_more c.args.plan.now c.args.entries.now (left - 1) left c.index-entries-left.result (seen c.args.fs.now) (seen c.entries.fs) (seen c.clear_one.new.fs) below c.index-entries-left.is c.entries.invariant.gone c.entries.invariant.touched c.in_err-clear_one.ensures.touched

pub returns-in_err-clear_one-clause-gave : goal.returns-in_err-clear_one-clause-gave
returns-in_err-clear_one-clause-gave g c =
    let seen = g.P.ReadFs.seen in
    nothing_both (seen c.args.fs.now) (seen c.entries.fs) (seen c.clear_one.new.fs) (without_told c.args.plan.now _ _ _ c.entries.invariant.gone) c.entries.invariant.gave c.in_err-clear_one.ensures.gave
