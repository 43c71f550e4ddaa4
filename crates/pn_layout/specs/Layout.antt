-- The layout of an install of one project: packages in the virtual store of its `node_modules`.
use Rattle.std.specs.Prelude.{◌≡◌, ◌≤◌, ◌⊎◌, ℕ, List, [], ◌∷◌, ◌++◌, map, zip, length, codes}
use Rattle.std.specs.List.{Contains}
use Rattle.pn_text.specs.declared.limits.TheConstants.{PATH_LIMIT}
use Rattle.pn_text.specs.Ids.{id_name}
use Rattle.pn_text.specs.Path.{Path, path_text}
use Rattle.pn_digest.specs.Listing.{Entry}
use Rattle.pn_digest.specs.declared.planned.Planned.{Planned}
use Rattle.pn_digest.specs.declared.planned.Planned.TheVariants.{Folder, Bytes}
use Rattle.pn_node.specs.Plan.{marker_name}
use Rattle.pn_package.specs.Links.{Pair}
use Rattle.pn_package.specs.declared.packages.Package.{Package}
use Rattle.pn_tree.specs.declared.instance.Instance.{Instance}
use Rattle.pn_tree.specs.declared.instance.Target.{Target}
use Rattle.pn_tree.specs.declared.instance.Top.{Top}
use Rattle.pn_tree.specs.Trees.{Layout, laid, IsEntry}
use Rattle.pn_layout.specs.Store.{store_of, dir_name, home_of}
use Rattle.pn_layout.specs.Listed.{Listed}

-- the marker of a managed folder
abbrev pub marker_text : List ℕ
marker_text = codes "pnpm-rs 1" ++ 10 ∷ []

-- a link of a package, to a package folder
abbrev pub target_of : Path → Pair → Target
target_of top l = record { name = l.0; to = home_of top l.1 }

-- a package with its files by content, and its links
abbrev pub instance_of : Path → Listed → Instance
instance_of top x = record {
  dir = dir_name x.0.id;
  name = id_name x.0.id;
  files = x.1;
  links = map (target_of top) x.0.links;
}

-- a link of the project, to a package folder
abbrev pub top_of : Path → Pair → Top
top_of top l = record { holder = top; name = l.0; to = home_of top l.1 }

-- The `node_modules` at top is managed and marked.
abbrev pub layout_of : Path → List Pair → List Package → List (List Entry) → Layout
layout_of top direct packages listings = laid (store_of top) ((top, marker_text) ∷ []) (map (instance_of top) (zip packages listings)) (map (top_of top) direct)

-- no path of what is planned is too long
abbrev pub Fits : Layout → Type 0
Fits l = (q : Path) (w : Planned) → IsEntry l q w → length (path_text q) ≤ PATH_LIMIT

-- The folder at top and its marker are planned, and all that is planned is that folder or below it, in a folder that is
-- planned too.
pub record IsClosed (top : Path) (plan : List (Path × Planned)) : Type 0 where
  pub managed : Contains plan (top, Folder)
  pub marker : Contains plan (marker_name ∷ top, Bytes marker_text)
  pub within : (q : Path) (w : Planned) → Contains plan (q, w) → (r : Path) × (q ≡ r ++ top)
  pub parents : (x : List ℕ) (q : Path) (w : Planned) → Contains plan (x ∷ q, w) → (x ∷ q ≡ top) ⊎ Contains plan (q, Folder)
