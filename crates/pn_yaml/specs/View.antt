-- The data that a `Node` stands for.
use Rattle.std.specs.Prelude.{ℕ, List, [], ◌∷◌, map as each}
use Rattle.pn_yaml.specs.Data.{Data, scalar, list, map, Items, no_items, item, Members, no_members, member}
use Rattle.pn_yaml.specs.declared.node.Node.{Node, fold-Node}
use Rattle.pn_yaml.specs.declared.node.Node.TheOpen.{Node-F}

abbrev pub items_of : List Data → Items
items_of [] = no_items
items_of (d ∷ ds) = item d (items_of ds)

abbrev pub members_of : List (List ℕ × Data) → Members
members_of [] = no_members
members_of (m ∷ ms) = member m.0 m.1 (members_of ms)

-- one level, with each node inside already seen as its data
abbrev pub view_step : Node-F Data → Data
view_step (Node-F.Scalar s) = scalar s.text s.plain
view_step (Node-F.List ds) = list (items_of ds)
view_step (Node-F.Map ms) = map (members_of ms)

abbrev pub view : Node → Data
view = fold-Node Data view_step

abbrev pub items_view : List Node → Items
items_view ns = items_of (each view ns)

abbrev pub members_view : List (List ℕ × Node) → Members
members_view ms = members_of (each (λ m. (m.0, view m.1)) ms)
