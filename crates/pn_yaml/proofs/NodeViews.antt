-- A node, level by level.
use Rattle.std.proofs.Common.{◌≡◌, ℕ, List, rules}
use Rattle.pn_yaml.specs.Data.{scalar, list, map}
use Rattle.pn_yaml.specs.View.{view, items_view, members_view}
use Rattle.pn_yaml.specs.declared.node.Node.{Node, the_lemmas}
use Rattle.pn_yaml.specs.declared.node.Node.TheVariants as node
use Rattle.pn_yaml.specs.declared.node.Scalar.{Scalar}

pub view-Scalar : (s : Scalar) → view (node.Scalar s) ≡ scalar s.text s.plain
view-Scalar s = search (rules, the_lemmas)

pub view-List : (ns : List Node) → view (node.List ns) ≡ list (items_view ns)
view-List ns = search (rules, the_lemmas)

pub view-Map : (ms : List (List ℕ × Node)) → view (node.Map ms) ≡ map (members_view ms)
view-Map ms = search (rules, the_lemmas)
