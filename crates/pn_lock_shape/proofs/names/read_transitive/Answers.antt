use Rattle.std.proofs.Common.{ap, sym, ◌∙◌}
use Rattle.pn_lock_shape.specs.Bare.{tree, tree_items}
use Rattle.pn_lock_shape.specs.Keys.{rising}
use Rattle.pn_lock_shape.proofs.NameLemmas.{transitive_ok, transitive_wrong}
use Rattle.pn_lock_shape.proofs.names.read_transitive.Goals as goal

pub returns-then-not-rises : goal.returns-then-not-rises
returns-then-not-rises c =
    transitive_wrong (tree c.args.node.now) (tree_items c.in_ok-nodes.nodes.now) c.in_ok-names.names.items c.in_ok-ordered.ordered c.here.result
    c.in_ok-nodes.ensures.ok c.in_ok-names.ensures c.in_ok-ordered.ensures.same c.in_ok-ordered.ensures.sorted (ap rising (sym c.as_slice.ensures) ∙ sym c.rises.ensures ∙ c.if-not-rises.true) c.here.ensures

pub returns : goal.returns
returns c =
    transitive_ok (tree c.args.node.now) (tree_items c.in_ok-nodes.nodes.now) c.in_ok-names.names.items c.in_ok-ordered.ordered
    c.in_ok-nodes.ensures.ok c.in_ok-names.ensures c.in_ok-ordered.ensures.same c.in_ok-ordered.ensures.sorted (ap rising (sym c.as_slice.ensures) ∙ sym c.rises.ensures ∙ c.if-not-rises.false)
