use Rattle.std.proofs.Common.{List, sym, subst}
use Rattle.std.specs.List.{Contains}
use Rattle.pn_graph.specs.declared.links.Package.{Package as Node}
use Rattle.pn_collect.specs.Outline.{bare_of, IsSoundBare}
use Rattle.pn_collect.proofs.GraphFacts.{node_deps}
use Rattle.pn_collect.proofs.MoreLemmas.{listed_more, all_more}
use Rattle.pn_collect.proofs.bare.as_met.Goals as goal

pub bare_node-requires : goal.bare_node-requires
bare_node-requires c =
    node_deps c.args.plain.now c.node-item.result (subst (λ (l : List Node). Contains l c.node-item.result) c.as_slice-node-items.ensures (c.loop-node.node-index, c.loop-node-test.true, sym c.node-item.is))

pub loop-node-preserved : goal.loop-node-preserved
loop-node-preserved c = record {
  same = listed_more (bare_of c.args.plain.now.packages) c.as_slice-node-items.result.now c.loop-node.node-index c.node-item.result c.loop-node.all.items c.add.new.all.items c.in_ok-one.one
      c.loop-node-test.true c.node-item.is c.in_ok-add.ensures c.loop-node.invariant.same c.in_ok-one.ensures.same;
  sound = all_more IsSoundBare c.loop-node.all.items c.add.new.all.items c.in_ok-one.one c.in_ok-add.ensures c.loop-node.invariant.sound c.in_ok-one.ensures.sound;
}
