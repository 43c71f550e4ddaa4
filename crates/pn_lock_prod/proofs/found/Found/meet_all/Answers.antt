use Rattle.std.proofs.Common.{◌<◌, ℕ, get_or, sym, ◌∙◌, subst}
use Rattle.std.proofs.lemmas.List.Elements.{Contains-get_or}
use Rattle.pn_lock_prod.proofs.FoundLemmas.{adds_next}
use Rattle.pn_lock_prod.proofs.found.Found.meet_all.Goals as goal

pub meet-requires-clause-within : goal.meet-requires-clause-within
meet-requires-clause-within c =
    let at = get_or c.args.row.now c.loop-at.at-index 0 in
    subst (λ (n : ℕ). at < n) (sym c.loop-at.invariant.count) (c.requires.within at (Contains-get_or c.args.row.now c.loop-at.at-index 0 c.loop-at-test.true))

pub loop-at-preserved : goal.loop-at-preserved
loop-at-preserved c = record {
  marked = c.in_ok-meet.ensures.marked;
  added = adds_next c.args.row.now c.loop-at.at-index c.args.self.now.order.items c.loop-at.self.order.items c.meet.new.self.order.items c.loop-at-test.true c.loop-at.invariant.added c.in_ok-meet.ensures.added;
  count = c.meet.ensures.count ∙ c.loop-at.invariant.count;
}
