-- What is gathered before anything is written.
use Rattle.std.specs.Prelude.{◌≡◌, Option, IfSome}
use Rattle.pn_text.specs.Path.{Path}
use Rattle.pn_fs.specs.Tree.{Tree}
use Rattle.pn_manifest.specs.Said.{Said}
use Rattle.pn_graph.specs.declared.plain.Plain.{Plain}
use Rattle.pn_collect.specs.Outline.{direct_of}
use Rattle.pn_cmd.specs.declared.ready.Gathered.{Gathered}
use Rattle.pn_scan.specs.Scans.{Scanned, IsScan}
use Rattle.pn_cmd.specs.World.{Trees, Inputs}
use Rattle.pn_cmd.specs.Names.{modules_path}
use Rattle.pn_cmd.specs.Scans.{managed_of}
use Rattle.pn_workspace.specs.declared.search.Workspace.{Workspace}
use Rattle.pn_cmd.specs.Known.{space_of, declared_of, project_of, graph_of, sources_of}
use Rattle.pn_cmd.specs.Chain.{tree, goal, from_store, from_manifest, gathered}

-- The scan is of the managed folder, and of what stands there.
pub record HasScan (project : Option Tree) (place : Path) (s : Scanned) : Type 0 where
  pub managed : s.managed ≡ managed_of (modules_path place)
  pub found : IfSome project (λ t. IsScan t s)

-- The packages are those that the points find, from the plain graph on, and the links are the project's.
pub record IsTreeReady (place : Path) (said : Said) (plain : Plain) (t : Trees) (all : Gathered) : Type 0 where
  pub direct : all.direct ≡ direct_of plain
  pub scan : HasScan t.project place all.scan
  pub finds : tree.Finds (graph_of place said plain) t (sources_of place said plain all.packages.items)

-- the same from the lockfile on
pub record IsGoalReady (place : Path) (said : Said) (t : Trees) (all : Gathered) : Type 0 where
  pub plain : Plain
  pub direct : all.direct ≡ direct_of plain
  pub scan : HasScan t.project place all.scan
  pub finds : goal.Finds (project_of place said) t (sources_of place said plain all.packages.items)

-- the same from the virtual store's place on
pub record IsDeclaredReady (place : Path) (w : Workspace) (said : Said) (t : Trees) (all : Gathered) : Type 0 where
  pub plain : Plain
  pub direct : all.direct ≡ direct_of plain
  pub scan : HasScan t.project place all.scan
  pub finds : from_store.Finds (declared_of place w said) t (sources_of place said plain all.packages.items)

-- the same from the manifest on
pub record IsSpaceReady (place : Path) (w : Workspace) (t : Trees) (all : Gathered) : Type 0 where
  pub said : Said
  pub plain : Plain
  pub direct : all.direct ≡ direct_of plain
  pub scan : HasScan t.project place all.scan
  pub finds : from_manifest.Finds (space_of place w) t (sources_of place said plain all.packages.items)

-- the same from the start on
pub record IsGathered (i : Inputs) (t : Trees) (all : Gathered) : Type 0 where
  pub said : Said
  pub plain : Plain
  pub direct : all.direct ≡ direct_of plain
  pub scan : HasScan t.project i.place all.scan
  pub finds : gathered.Finds i t (sources_of i.place said plain all.packages.items)
