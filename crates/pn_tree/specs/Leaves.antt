-- What is planned for its own sake, as a list.
use Rattle.std.specs.Prelude.{ℕ, List, ◌∷◌, ◌++◌, map}
use Rattle.std.specs.List.{flat_map}
use Rattle.pn_text.specs.Path.{Path}
use Rattle.pn_node.specs.Plan.{marker_name}
use Rattle.pn_digest.specs.declared.planned.Planned.{Planned}
use Rattle.pn_digest.specs.declared.planned.Planned.TheVariants.{Folder, Bytes, Stored, Link}
use Rattle.pn_tree.specs.declared.instance.Instance.{Instance}
use Rattle.pn_tree.specs.declared.instance.Target.{Target}
use Rattle.pn_tree.specs.declared.instance.Top.{Top}
use Rattle.pn_tree.specs.Trees.{Managed, Layout, home, link_place, top_place}
use Rattle.pn_tree.specs.Relatives.{link_text}

-- a path, and what is to stand there
abbrev pub Leaf : Type 0
Leaf = Path × Planned

abbrev pub marker_leaf : Managed → Leaf
marker_leaf m = (marker_name ∷ m.0, Bytes m.1)

abbrev pub top_leaf : Top → Leaf
top_leaf t = (top_place t, Link (link_text (top_place t) t.to))

abbrev pub file_leaf : Path → Instance → Path × List ℕ → Leaf
file_leaf store g f = (f.0 ++ home store g, Stored f.1)

abbrev pub target_leaf : Path → Instance → Target → Leaf
target_leaf store g k = (link_place store g k, Link (link_text (link_place store g k) k.to))

-- an instance's package folder, its files and its links
abbrev pub instance_leaves : Path → Instance → List Leaf
instance_leaves store g = (home store g, Folder) ∷ map (file_leaf store g) g.files ++ map (target_leaf store g) g.links

-- the markers, the links outside the instances, and the instances
abbrev pub leaves_of : Layout → List Leaf
leaves_of l = map marker_leaf l.managed ++ (map top_leaf l.tops ++ flat_map (instance_leaves l.store) l.instances)
