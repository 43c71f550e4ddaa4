use Rattle.pn_spec.proofs.Ats.{filled, front-empty, no-at, no-part, no-part-front, none-parted, part-at}
use Rattle.pn_spec.proofs.parts.parted.Goals as goal

pub returns-in_err-front : goal.returns-in_err-front
returns-in_err-front c = none-parted c.args.text.now _ c.from_residual.ensures (no-part c.args.text.now (no-at c.args.text.now c.in_err-front.ensures.cases))

pub returns-then-is_empty : goal.returns-then-is_empty
returns-then-is_empty c =
    let p = part-at c.args.text.now c.in_ok-front.front.now c.in_ok-front.behind.now c.in_ok-front.ensures.cases in
    no-part-front c.args.text.now c.in_ok-front.behind.now (front-empty c.args.text.now c.in_ok-front.front.now c.in_ok-front.behind.now p.0 c.if-is_empty.ensures) p.1

pub returns : goal.returns
returns c =
    let p = part-at c.args.text.now c.in_ok-front.front.now c.in_ok-front.behind.now c.in_ok-front.ensures.cases in
    record { split = p.0; some = filled c.in_ok-front.front.now c.if-is_empty.ensures; last = p.1 }
