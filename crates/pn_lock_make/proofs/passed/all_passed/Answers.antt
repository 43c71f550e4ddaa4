use Rattle.std.proofs.Common.{◌≡◌, ◌∙◌, ◌+◌, ◌++◌, ◌∷◌, [], length, length-append, ap, arith}
use Rattle.pn_lock_make.specs.Names.{AreNames}
use Rattle.pn_lock_make.proofs.PassedLemmas.{passed_more}
use Rattle.pn_lock_make.proofs.StepLemmas.{all_more}
use Rattle.pn_lock_make.proofs.passed.all_passed.Goals as goal

pub loop-n-preserved : goal.loop-n-preserved
loop-n-preserved c =
    let old = c.loop-n.all.items in
    let new = c.push.new.self.items in
    let one = c.in_ok-one.one in
    let is : new ≡ old ++ one ∷ [] = c.in_ok-push.ensures.items in
    let count : length old ≡ c.loop-n.n = c.loop-n.invariant.count in
    let longer : length (old ++ one ∷ []) ≡ length old + 1 = length-append old (one ∷ []) in
    let now : length new ≡ length old + 1 = ap length is ∙ longer in
    record {
      count = omega (arith, now, count);
      each = passed_more c.args.plain.now.packages old new c.loop-n.n one count is c.loop-n.invariant.each c.in_ok-one.ensures.passed;
      named = all_more AreNames old new one is c.loop-n.invariant.named c.in_ok-one.ensures.named;
    }
