-- The points of an install in their order.
use Rattle.std.specs.Prelude.{◌∷◌}
use Rattle.pn_text.specs.Path.{Path}
use Rattle.pn_status.specs.declared.status.Status.{Status}
use Rattle.pn_cmd.specs.World.{Trees, Shown, Inputs}
use Rattle.pn_cmd.specs.Points.{Point, then, step}
use Rattle.pn_cmd.specs.Names.{package_name, lock_name, modules_path}
use Rattle.pn_cmd.specs.Known.{Space, Declared, Project, Graph, Sources, Fetched, Build, space_of, project_of}
use Rattle.pn_cmd.specs.Words.{words}
use Rattle.pn_cmd.specs.Standing.{standing}
use Rattle.pn_cmd.specs.Scans.{scanned}
use Rattle.pn_cmd.specs.Spaces.{workspace}
use Rattle.pn_cmd.specs.Manifests.{manifest}
use Rattle.pn_cmd.specs.Stores.{store}
use Rattle.pn_cmd.specs.Graph.{graph}
use Rattle.pn_cmd.specs.Packages.{listed}
use Rattle.pn_cmd.specs.Fetches.{fetched}
use Rattle.pn_cmd.specs.Plans.{planned}

-- each point where it stands: what it asks for, and what it adds to what is known
abbrev pub words_at : Point Inputs Path
words_at = step (λ (i : Inputs). i.words) (λ i u. i.place) words

abbrev pub workspace_at : Point Path Space
workspace_at = step (λ p. p) (λ p w. space_of p w) workspace

abbrev pub manifest_at : Point Space Declared
manifest_at = step (λ (k : Space). package_name ∷ k.place) (λ k said. record { space = k; said = said }) manifest

abbrev pub store_at : Point Declared Project
store_at = step (λ (k : Declared). k.space) (λ k u. project_of k.space.place k.said) store

abbrev pub lock_at : Point Project Project
lock_at = step (λ (k : Project). lock_name ∷ k.place) (λ k u. k) standing

abbrev pub graph_at : Point Project Graph
graph_at = step (λ (k : Project). k.said) (λ k plain. record { project = k; plain = plain }) graph

abbrev pub scanned_at : Point Graph Graph
scanned_at = step (λ (k : Graph). modules_path k.project.place) (λ k u. k) scanned

abbrev pub listed_at : Point Graph Sources
listed_at = step (λ (k : Graph). k) (λ k packages. record { graph = k; packages = packages }) listed

abbrev pub fetched_at : Point Sources Fetched
fetched_at = step (λ (k : Sources). k) (λ k listings. record { sources = k; listings = listings }) fetched

abbrev pub planned_at : Point Fetched Build
planned_at = step (λ (k : Fetched). k) (λ k plan. record { fetched = k; plan = plan }) planned

-- from the plain graph on, to its packages
abbrev pub tree : Point Graph Sources
tree = then scanned_at listed_at

-- from the lockfile on
abbrev pub goal : Point Project Sources
goal = then lock_at (then graph_at tree)

-- from the virtual store's place on
abbrev pub from_store : Point Declared Sources
from_store = then store_at goal

-- from the manifest on
abbrev pub from_manifest : Point Space Sources
from_manifest = then manifest_at from_store

-- The points that only read the trees: the words, the workspace, the manifest, the virtual store's place, no
-- `pnpm-lock.yaml`, the plain graph, the managed folder, and the files of its packages.
abbrev pub gathered : Point Inputs Sources
gathered = then words_at (then workspace_at from_manifest)

-- The points after them: the packages' files and listings in the store, and the tree.
abbrev pub prepared : Point Sources Build
prepared = then fetched_at planned_at

-- all points before anything of the project is written
abbrev pub install : Point Inputs Build
install = then gathered prepared

-- the points up to one of them
abbrev pub to_workspace : Point Inputs Space
to_workspace = then words_at workspace_at

abbrev pub to_manifest : Point Inputs Declared
to_manifest = then to_workspace manifest_at

abbrev pub to_store : Point Inputs Project
to_store = then to_manifest store_at

abbrev pub to_lock : Point Inputs Project
to_lock = then to_store lock_at

abbrev pub to_graph : Point Inputs Graph
to_graph = then to_lock graph_at

abbrev pub to_scanned : Point Inputs Graph
to_scanned = then to_graph scanned_at

abbrev pub to_fetched : Point Inputs Fetched
to_fetched = then gathered fetched_at

-- this is so of what is known after these points
abbrev pub After : {X : Type 0} → Point Inputs X → Inputs → Trees → (X → Type 0) → Type 0
After p i t C = (k : _) × p.Finds i t k × C k

-- At which point the cause of a refusal is, with what is known there.
pub data StandsAt (i : Inputs) (w : Shown) (s : Status) : Type 0 where
  at_words : words_at.Cause i w s → StandsAt i w s
  at_workspace : After words_at i w.trees (λ k. workspace_at.Cause k w s) → StandsAt i w s
  at_manifest : After to_workspace i w.trees (λ k. manifest_at.Cause k w s) → StandsAt i w s
  at_store : After to_manifest i w.trees (λ k. store_at.Cause k w s) → StandsAt i w s
  at_lock : After to_store i w.trees (λ k. lock_at.Cause k w s) → StandsAt i w s
  at_graph : After to_lock i w.trees (λ k. graph_at.Cause k w s) → StandsAt i w s
  at_scanned : After to_graph i w.trees (λ k. scanned_at.Cause k w s) → StandsAt i w s
  at_listed : After to_scanned i w.trees (λ k. listed_at.Cause k w s) → StandsAt i w s
  at_fetched : After gathered i w.trees (λ k. fetched_at.Cause k w s) → StandsAt i w s
  at_planned : After to_fetched i w.trees (λ k. planned_at.Cause k w s) → StandsAt i w s
