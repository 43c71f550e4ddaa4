-- Data where nothing is said of quotes but at `true` and `false`: what is read of a lockfile heeds no others.
use Rattle.std.specs.Prelude.{ℕ, ◌&&◌, ◌||◌, Bool, List, bytes_eq, codes}
use Rattle.pn_yaml.specs.Data.{Data, scalar, list, map, Items, no_items, item, Members, no_members, member}
use Rattle.pn_yaml.specs.View.{view, items_view, members_view}
use Rattle.pn_yaml.specs.declared.node.Node.{Node}

abbrev pub is_truth : List ℕ → Bool
is_truth text = bytes_eq text (codes "true") || bytes_eq text (codes "false")

abbrev mutual
  pub bare : Data → Data
  bare (scalar text plain) = scalar text (plain && is_truth text)
  bare (list ds) = list (bare_items ds)
  bare (map ms) = map (bare_members ms)

  pub bare_items : Items → Items
  bare_items no_items = no_items
  bare_items (item d ds) = item (bare d) (bare_items ds)

  pub bare_members : Members → Members
  bare_members no_members = no_members
  bare_members (member k d ms) = member k (bare d) (bare_members ms)

-- the data of a node
abbrev pub tree : Node → Data
tree n = bare (view n)

abbrev pub tree_members : List (List ℕ × Node) → Members
tree_members ms = bare_members (members_view ms)

abbrev pub tree_items : List Node → Items
tree_items ns = bare_items (items_view ns)
