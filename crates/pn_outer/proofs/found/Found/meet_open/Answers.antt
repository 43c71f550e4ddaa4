use Rattle.std.proofs.Common.{◌<◌, ℕ, length, get_or, sym, ◌∙◌, subst}
use Rattle.std.proofs.lemmas.List.Elements.{Contains-get_or}
use Rattle.pn_outer.proofs.FoundLemmas.{open_next}
use Rattle.pn_outer.proofs.found.Found.meet_open.Goals as goal

pub meet_one-requires-clause-within : goal.meet_one-requires-clause-within
meet_one-requires-clause-within c = c.requires.within (get_or c.args.row.now c.loop-at.at-index 0) (Contains-get_or c.args.row.now c.loop-at.at-index 0 c.loop-at-test.true)

pub loop-at-preserved : goal.loop-at-preserved
loop-at-preserved c = record {
  marked = c.in_ok-meet_one.ensures.marked;
  added = open_next c.args.instances.now c.args.name.now c.args.row.now c.loop-at.at-index c.args.self.now.order.items c.loop-at.self.order.items c.meet_one.new.self.order.items c.loop-at-test.true
      c.loop-at.invariant.added c.in_ok-meet_one.ensures.added;
  count = c.meet_one.ensures.count ∙ c.loop-at.invariant.count;
}
