-- The point at which what stands in the managed folder is scanned.
use Rattle.std.specs.Prelude.{◌≡◌, ◌<◌, ◌≤◌, ◌+◌, ◌∷◌, [], List, length, Option, IfSome}
use Rattle.pn_text.specs.declared.limits.TheConstants.{ENTRY_LIMIT, PATH_LIMIT}
use Rattle.pn_text.specs.Path.{Path, path_text}
use Rattle.pn_fs.specs.Tree.{Tree}
use Rattle.pn_scan.specs.Managed.{Managed, AreOurs}
use Rattle.pn_scan.specs.ScanFaults.{HasFew, HasMany, IsForeign}
use Rattle.pn_scan.specs.declared.fault.ScanFault.{ScanFault}
use Rattle.pn_scan.specs.declared.fault.ScanFault.TheVariants.{Foreign as FaultForeign, Entries as FaultEntries, Fault, Memory as NoMemory}
use Rattle.pn_layout.specs.Layout.{marker_text}
use Rattle.pn_status.specs.declared.status.Which.TheVariants.{Path as PathLength, Entries}
use Rattle.pn_status.specs.declared.status.Status.{Status}
use Rattle.pn_status.specs.declared.status.Status.TheVariants.{Memory, Foreign, Limit, ProjectFault}
use Rattle.pn_cmd.specs.World.{Shown}
use Rattle.pn_cmd.specs.Points.{Point}

-- the managed folders, each with its marker's text: the project's `node_modules`
abbrev pub managed_of : Path → List Managed
managed_of modules = (modules, marker_text) ∷ []

-- The folder is the installer's, and not too much stands below it.
pub record IsScanned (project : Option Tree) (p : Path) : Type 0 where
  pub fits : length (path_text p) ≤ PATH_LIMIT
  pub ours : IfSome project (λ t. AreOurs t (managed_of p))
  pub few : IfSome project (λ t. HasFew t (managed_of p))

-- The path is too long, the folder isn't the installer's by what stands at the path that is told, or too much stands below it.
-- A path that is too long isn't asked for.
abbrev pub Unscanned : Path → Shown → Status → Type 0
Unscanned p w (Limit PathLength n) = (n ≡ length (path_text p)) × (PATH_LIMIT < n)
Unscanned p w (Limit Entries n) = (length (path_text p) ≤ PATH_LIMIT) × (n ≡ ENTRY_LIMIT + 1) × IfSome w.trees.project (λ t. HasMany t (managed_of p))
Unscanned p w (Foreign q) = (length (path_text p) ≤ PATH_LIMIT) × IfSome w.trees.project (λ t. IsForeign t (managed_of p) q)
Unscanned p w ProjectFault = length (path_text p) ≤ PATH_LIMIT
Unscanned p w s = ⊥

-- the status that tells of a refusal
abbrev pub scan_status : ScanFault → Status
scan_status (FaultForeign q) = Foreign q
scan_status FaultEntries = Limit Entries (ENTRY_LIMIT + 1)
scan_status Fault = ProjectFault
scan_status NoMemory = Memory

abbrev pub scanned : Point Path (Unit {0})
scanned = record { Finds = λ p t u. IsScanned t.project p; Cause = Unscanned }
