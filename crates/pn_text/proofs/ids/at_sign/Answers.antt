use Rattle.pn_text.proofs.IdTexts.{split_name, whole_name, has_no_at}
use Rattle.std.proofs.Common.{◌≡◌, drop, true, subst}
use Rattle.std.proofs.lemmas.List.{take_all}
use Rattle.pn_text.proofs.ids.at_sign.Goals as goal

pub returns-then-b-eq64 : goal.returns-then-b-eq64
returns-then-b-eq64 c =
    let s = split_name c.args.text.now c.loop-i.i c.if-i-gt0.true c.loop-i-test.true c.if-b-eq64.true c.loop-i.invariant in
    record { within = c.loop-i-test.true; sign = c.if-b-eq64.true; name = s.0; version = s.1 }

pub returns : goal.returns
returns c = whole_name c.args.text.now (subst (λ t. has_no_at (drop 1 t) ≡ true) (take_all c.loop-i.i c.args.text.now c.loop-i-test.false) c.loop-i.invariant)
