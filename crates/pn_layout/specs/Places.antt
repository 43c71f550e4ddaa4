-- The places of a layout's entries outside its instances.
use Rattle.std.specs.Prelude.{List, [], ◌∷◌, ◌++◌, map}
use Rattle.pn_text.specs.Path.{Path}
use Rattle.pn_text.specs.Name.{name_path}
use Rattle.pn_digest.specs.declared.planned.Planned.TheVariants.{Folder}
use Rattle.pn_node.specs.Plan.{marker_name}
use Rattle.pn_package.specs.Links.{Pair}
use Rattle.pn_package.specs.declared.packages.Package.{Package}
use Rattle.pn_tree.specs.Leaves.{Leaf}
use Rattle.pn_layout.specs.Store.{store_of}

-- a path that is drawn as a folder
abbrev pub folder_at : Path → Leaf
folder_at p = (p, Folder)

abbrev pub link_leaf : Path → Pair → Leaf
link_leaf top l = folder_at (name_path l.0 ++ top)

-- the virtual store, where there are packages
abbrev pub store_leaves : Path → List Package → List Leaf
store_leaves top [] = []
store_leaves top (p ∷ packages) = folder_at (store_of top) ∷ []

-- the marker, the virtual store, and the project's links
abbrev pub outer_leaves : Path → List Pair → List Package → List Leaf
outer_leaves top direct packages = folder_at (marker_name ∷ top) ∷ store_leaves top packages ++ map (link_leaf top) direct
