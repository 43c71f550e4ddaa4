use Rattle.std.proofs.Common.{arith, ◌≡◌, ◌<◌, length, length-append, ap, sym, ◌∙◌}
use Rattle.pn_text.proofs.Relatives.{shares_none, shares_with, next_is, forks, ends_there, none_up, none_down, none_by_parts, parts_differ, parts_same}
use Rattle.pn_text.proofs.relative.fork.Goals.{then-at-a-via-then-at-a, then-at-a-via-else-at-a+then-at-b}
use Rattle.pn_text.proofs.relative.fork.Goals as goal

pub parts-init : goal.parts-init
parts-init c = record { within_a = omega arith; within_b = omega arith; shares = shares_none _ _ }

pub returns-then-at-a : goal.returns-then-at-a
returns-then-at-a c =
    let s = c.parts.invariant.shares in
    elim c.then-at-a.branch [
      | then-at-a-via-then-at-a w ↦ forks _ _ _ s (none_up s.up s.down (ends_there _ _ _ s.base _ (c.as_bytes-a.ensures.value ∙ c.stem.ensures.stem) s.from_is s.place w.if-at-a.true))
      | then-at-a-via-else-at-a+then-at-b w ↦ forks _ _ _ s (none_down s.up s.down (ends_there _ _ _ s.base _ (c.as_bytes-b.ensures.value ∙ c.stem-2.ensures.stem) s.to_is s.place w.if-at-b.true))
    ]

pub returns-then-ne : goal.returns-then-ne
returns-then-ne c =
    let s = c.parts.invariant.shares in
    let here : c.parts.at < length c.as_bytes-a.result.now = omega (arith, c.parts.invariant.within_a, c.if-at-a.false) in
    let there : c.parts.at < length c.as_bytes-b.result.now = omega (arith, c.parts.invariant.within_b, c.if-at-b.false) in
    let up = next_is _ _ s.up s.base _ _ _ _ (c.as_bytes-a.ensures.value ∙ c.stem.ensures.stem) c.stem.ensures.good s.from_is s.place here c.split_at.ensures.back c.first_part.ensures.whole c.first_part.ensures.flat c.first_part.ensures.ends in
    let down = next_is _ _ s.down s.base _ _ _ _ (c.as_bytes-b.ensures.value ∙ c.stem-2.ensures.stem) c.stem-2.ensures.good s.to_is s.place there c.split_at-in-parts.ensures.back c.first_part-in-parts.ensures.whole c.first_part-in-parts.ensures.flat c.first_part-in-parts.ensures.ends in
    forks _ _ _ s (none_by_parts s.up s.down _ _ _ _ up down (parts_differ _ _ (sym c.ne.ensures ∙ c.if-ne.true)))

pub parts-preserved : goal.parts-preserved
parts-preserved c =
    let s = c.parts.invariant.shares in
    let x = c.first_part.result.0.now in
    let y = c.first_part-in-parts.result.0.now in
    let same : x ≡ y = parts_same x y (sym c.ne.ensures ∙ c.if-ne.false) in
    let here : c.parts.at < length c.as_bytes-a.result.now = omega (arith, c.parts.invariant.within_a, c.if-at-a.false) in
    let there : c.parts.at < length c.as_bytes-b.result.now = omega (arith, c.parts.invariant.within_b, c.if-at-b.false) in
    let up = next_is _ _ s.up s.base _ _ _ _ (c.as_bytes-a.ensures.value ∙ c.stem.ensures.stem) c.stem.ensures.good s.from_is s.place here c.split_at.ensures.back c.first_part.ensures.whole c.first_part.ensures.flat c.first_part.ensures.ends in
    let down = next_is _ _ s.down s.base _ _ _ _ (c.as_bytes-b.ensures.value ∙ c.stem-2.ensures.stem) c.stem-2.ensures.good s.to_is s.place there c.split_at-in-parts.ensures.back c.first_part-in-parts.ensures.whole c.first_part-in-parts.ensures.flat c.first_part-in-parts.ensures.ends in
    record {
      within_a = omega (arith, c.split_at.ensures.back_len, ap length c.first_part.ensures.whole, length-append x c.first_part.result.1.now);
      within_b = omega (arith, c.split_at-in-parts.ensures.back_len, ap length c.first_part-in-parts.ensures.whole, length-append y c.first_part-in-parts.result.1.now, ap length same);
      shares = shares_with _ _ _ s _ _ _ _ up down same;
    }
