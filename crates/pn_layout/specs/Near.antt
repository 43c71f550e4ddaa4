-- Layouts whose links may lead elsewhere.
use Rattle.std.specs.Prelude.{nat_lt, List, [], ◌∷◌, map, zip, length, if◌then◌else◌}
use Rattle.pn_text.specs.declared.limits.TheConstants.{PATH_LIMIT}
use Rattle.pn_text.specs.Ids.{id_name}
use Rattle.pn_text.specs.Path.{Path, path_text}
use Rattle.pn_digest.specs.Listing.{Entry}
use Rattle.pn_package.specs.Links.{Id, Pair}
use Rattle.pn_package.specs.declared.packages.Package.{Package}
use Rattle.pn_tree.specs.declared.instance.Instance.{Instance}
use Rattle.pn_tree.specs.declared.instance.Target.{Target}
use Rattle.pn_tree.specs.declared.instance.Top.{Top}
use Rattle.pn_tree.specs.Trees.{Layout, laid}
use Rattle.pn_layout.specs.Store.{store_of, dir_name, home_of}
use Rattle.pn_layout.specs.Listed.{Listed}
use Rattle.pn_layout.specs.Layout.{marker_text}

-- the package folder, or the managed folder in place of one whose path is too long
abbrev pub near_home : Path → Id → Path
near_home top id = if nat_lt PATH_LIMIT (length (path_text (home_of top id))) then top else home_of top id

abbrev pub target_to : (Id → Path) → Pair → Target
target_to lead l = record { name = l.0; to = lead l.1 }

abbrev pub instance_to : (Id → Path) → Listed → Instance
instance_to lead x = record {
  dir = dir_name x.0.id;
  name = id_name x.0.id;
  files = x.1;
  links = map (target_to lead) x.0.links;
}

abbrev pub top_to : (Id → Path) → Path → Pair → Top
top_to lead top l = record { holder = top; name = l.0; to = lead l.1 }

-- the layout of an install, but that a link to an id leads to the folder that is said
abbrev pub layout_to : (Id → Path) → Path → List Pair → List Package → List (List Entry) → Layout
layout_to lead top direct packages listings = laid (store_of top) ((top, marker_text) ∷ []) (map (instance_to lead) (zip packages listings)) (map (top_to lead top) direct)
