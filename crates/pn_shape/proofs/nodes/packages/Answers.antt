use Rattle.std.proofs.Common.{◌≡◌, List, [], length, arith, sym, ap, ◌∙◌, subst}
use Rattle.std.specs.Vec.Iter.{into_iter_items}
use Rattle.pn_graph.specs.declared.links.Package.{Package}
use Rattle.pn_shape.specs.DepLists.{ArePackagesWith}
use Rattle.pn_shape.proofs.ShapeLemmas.{none_left, package_next, packages_end, tails_long}
use Rattle.pn_shape.proofs.nodes.packages.Goals as goal

pub loop-node-preserved : goal.loop-node-preserved
loop-node-preserved c =
    let nodes = into_iter_items c.loop-node.node-iterator in
    let left = into_iter_items c.next.new.self in
    let lists = into_iter_items c.loop-node.lists in
    let rest = into_iter_items c.next-in-loop-node.new.self in
    let node = c.in-Some.node in
    let list = c.in-Some-next.list in
    record {
      all = package_next c.args.nodes.items nodes left c.args.lists.items lists rest node list c.in_ok-of_node.field-0 c.loop-node.items.items c.push.new.self.items
          c.in-Some.ensures.steps.0 c.in-Some-next.ensures.items c.in_ok-of_node.ensures c.in_ok-push.ensures.items c.loop-node.invariant.all;
      tied = (let h = c.in-Some.ensures.steps in let k = ap length h.0 in omega (arith, h, k, c.loop-node.invariant.tied));
      long = tails_long nodes left node lists rest list c.in-Some.ensures.steps.0 c.in-Some-next.ensures.items c.loop-node.invariant.long;
    }

pub returns : goal.returns
returns c =
    let none : into_iter_items c.loop-node.node-iterator ≡ [] = none_left (into_iter_items c.loop-node.node-iterator) (sym c.loop-node.invariant.tied ∙ c.in-None.ensures.steps.0) in
    subst (λ (ps : List Package). ArePackagesWith c.args.nodes.items c.args.lists.items ps) (sym c.of.ensures)
    (packages_end c.args.nodes.items (into_iter_items c.loop-node.node-iterator) c.args.lists.items (into_iter_items c.loop-node.lists) c.loop-node.items.items
    none c.loop-node.invariant.long c.loop-node.invariant.all)
