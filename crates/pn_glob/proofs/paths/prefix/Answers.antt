use Rattle.std.proofs.Common.{ℕ, List, length, ap, arith, ◌∙◌, sym}
use Rattle.pn_glob.specs.Matching.{part_rules}
use Rattle.pn_glob.specs.WhatIsLeft.{left_of}
use Rattle.pn_glob.proofs.Gaps.{on-gap, on-step}
use Rattle.pn_glob.proofs.PartsLemmas.{part-steady}
use Rattle.pn_glob.proofs.paths.prefix.Goals as goal

pub returns-then-is_gap-clause-first : goal.returns-then-is_gap-clause-first
returns-then-is_gap-clause-first c = λ h.
    (on-gap part_rules (left_of c.parts.left) (left_of c.in-Some.behind) (left_of c.parts.rest) c.in-Some.piece.now c.in-Some.ensures (sym c.if-is_gap.ensures)).1
    (c.parts.invariant.first h)

pub parts-preserved : goal.parts-preserved
parts-preserved c =
    let i = c.parts.invariant in
    let step = on-step part_rules part-steady (left_of c.parts.left) (left_of c.in-Some.behind) (left_of c.parts.rest) (left_of c.in_ok-part.after) c.in-Some.piece.now c.in_ok-part.part.now
    c.in-Some.ensures c.in_ok-part.ensures (sym c.if-is_gap.ensures) (sym c.if-not-part_fits.ensures) in
    record {
      value = i.value ∙ step.0;
      first = λ h. step.1 (i.first h);
      shorter = let e = ap (λ (y : List (List ℕ)). length y) c.in-Some.ensures in let s = i.shorter in omega arith;
    }
