-- The point at which the tree is planned.
use Rattle.std.specs.Prelude.{◌≤◌, List, length}
use Rattle.pn_text.specs.declared.limits.TheConstants.{PATH_LIMIT}
use Rattle.pn_text.specs.Path.{Path, path_text}
use Rattle.pn_digest.specs.declared.planned.Planned.{Planned}
use Rattle.pn_collect.specs.Outline.{direct_of}
use Rattle.pn_layout.specs.Layout.{layout_of, IsClosed}
use Rattle.pn_tree.specs.Trees.{Layout, IsEntry}
use Rattle.pn_tree.specs.Laws.{AreEntries}
use Rattle.pn_tree.specs.Refusals.{LayoutRefused}
use Rattle.pn_tree.specs.declared.fault.LayoutFault.TheVariants.{TooLong as FaultLong}
use Rattle.pn_status.specs.declared.status.Which.TheVariants.{Path as PathLength}
use Rattle.pn_status.specs.declared.status.Status.{Status}
use Rattle.pn_status.specs.declared.status.Status.TheVariants.{Limit}
use Rattle.pn_cmd.specs.World.{Shown}
use Rattle.pn_cmd.specs.Points.{Point}
use Rattle.pn_cmd.specs.Names.{modules_path}
use Rattle.pn_cmd.specs.Known.{Fetched}

-- the packages in the virtual store of the project's `node_modules`, with the files of their listings, and the project's links
abbrev pub layout_at : Fetched → Layout
layout_at k = layout_of (modules_path k.sources.graph.project.place) (direct_of k.sources.graph.plain) k.sources.packages k.listings

-- the first path of the layout, in byte order, that is too long
abbrev pub TooLong : Fetched → Shown → Status → Type 0
TooLong k w (Limit PathLength n) = LayoutRefused (layout_at k) (FaultLong n)
TooLong k w s = ⊥

-- What is planned is the layout, and no path of it is too long.
pub record IsPlanned (k : Fetched) (plan : List (Path × Planned)) : Type 0 where
  pub fits : (q : Path) (w : Planned) → IsEntry (layout_at k) q w → length (path_text q) ≤ PATH_LIMIT
  pub entries : AreEntries (layout_at k) plan
  pub closed : IsClosed (modules_path k.sources.graph.project.place) plan

abbrev pub planned : Point Fetched (List (Path × Planned))
planned = record { Finds = λ k t plan. IsPlanned k plan; Cause = TooLong }
