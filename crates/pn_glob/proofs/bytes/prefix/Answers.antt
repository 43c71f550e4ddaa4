use Rattle.std.proofs.Common.{ℕ, List, length, ap, arith, ◌∙◌, refl, sym}
use Rattle.pn_glob.specs.Matching.{byte_rules}
use Rattle.pn_glob.proofs.Gaps.{eq-false, eq-true, on-gap, on-step}
use Rattle.pn_glob.proofs.bytes.prefix.Goals as goal

pub returns-then-c-eq42-clause-first : goal.returns-then-c-eq42-clause-first
returns-then-c-eq42-clause-first c = λ h.
    (on-gap (byte_rules c.args.kind) c.bytes.left.now c.in-Some.behind.now c.bytes.rest.now c.in-Some.c c.in-Some.ensures (eq-true c.in-Some.c 42 c.if-c-eq42.true)).1
    (c.bytes.invariant.first h)

pub bytes-preserved : goal.bytes-preserved
bytes-preserved c =
    let i = c.bytes.invariant in
    let step = on-step (byte_rules c.args.kind) (λ x a b g f s h. refl) c.bytes.left.now c.in-Some.behind.now c.bytes.rest.now c.in_ok-b.after.now c.in-Some.c c.in_ok-b.b
    c.in-Some.ensures c.in_ok-b.ensures (eq-false c.in-Some.c 42 c.if-c-eq42.false) (sym c.if-not-stands_for.ensures) in
    record {
      value = i.value ∙ step.0;
      first = λ h. step.1 (i.first h);
      shorter = let e = ap (λ (y : List ℕ). length y) c.in-Some.ensures in let s = i.shorter in omega arith;
    }
