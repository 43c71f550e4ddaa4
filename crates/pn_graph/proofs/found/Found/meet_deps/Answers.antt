use Rattle.std.proofs.Common.{◌<◌, ℕ, ◌∙◌, sym, subst}
use Rattle.pn_graph.proofs.FoundLemmas.{adds_more, leads_by}
use Rattle.pn_graph.proofs.found.Found.meet_deps.Goals as goal

pub meet_dep-requires-clause-within : goal.meet_dep-requires-clause-within
meet_dep-requires-clause-within c = λ k to.
    subst (λ (n : ℕ). k < n) (sym c.loop-dep.invariant.count)
    (c.requires.within k (leads_by c.args.deps.now c.loop-dep.dep-index c.dep-item.result k c.loop-dep-test.true c.dep-item.is to))

pub loop-dep-preserved : goal.loop-dep-preserved
loop-dep-preserved c = record {
  marked = c.in_ok-meet_dep.ensures.marked;
  added = adds_more c.args.deps.now c.loop-dep.dep-index c.dep-item.result c.args.self.now.order.items c.loop-dep.self.order.items c.meet_dep.new.self.order.items
      c.loop-dep-test.true c.dep-item.is c.loop-dep.invariant.added c.in_ok-meet_dep.ensures.added;
  count = c.meet_dep.ensures.count ∙ c.loop-dep.invariant.count;
}
