-- How a run ends.
use Rattle.std.specs.Prelude.{◌≡◌, ℕ, List, Option, IfSome}
use Rattle.std.specs.List.{All, Contains}
use Rattle.pn_text.specs.Path.{Path}
use Rattle.pn_fs.specs.Tree.{Tree, IsTree}
use Rattle.pn_manifest.specs.Said.{Said}
use Rattle.pn_digest.specs.declared.planned.Planned.{Planned}
use Rattle.pn_digest.specs.declared.planned.Planned.TheVariants as planned
use Rattle.pn_storecore.specs.Seen.{Seen as Stored}
use Rattle.pn_repair.specs.Writes.{ReadsStore}
use Rattle.pn_reconcile.specs.Plans.{KeepsAllRight, Reconciled, HalfReconciled}
use Rattle.pn_reconcile.specs.Spares.{Spares}
use Rattle.pn_reconcile.specs.Needs.{IsMissing}
use Rattle.pn_fetch.specs.Listings.{IsStored}
use Rattle.pn_fetch.specs.Numbers.{IsReleased, LeavesOne}
use Rattle.pn_fetch.specs.Puts.{WasListed, WasPut, places}
use Rattle.pn_status.specs.declared.status.IntegrityWhy.TheVariants.{Stored as of_store}
use Rattle.pn_status.specs.declared.status.Status.{Status}
use Rattle.pn_status.specs.declared.status.Status.TheVariants.{Done, Integrity, ProjectFault, StoreFault, SinkFault}
use Rattle.pn_status.specs.Told.{TookAll, TookSome}
use Rattle.pn_cmd.specs.World.{World, Shown, Inputs, trees_of, with_store}
use Rattle.pn_cmd.specs.Points.{Refuses}
use Rattle.pn_cmd.specs.Names.{modules_path}
use Rattle.pn_cmd.specs.Known.{Sources, Fetched, Build}
use Rattle.pn_cmd.specs.Chain.{gathered, prepared, install}
use Rattle.pn_cmd.specs.Fetches.{Filled, IsStuck}
use Rattle.pn_cmd.specs.Scans.{managed_of}
use Rattle.pn_cmd.specs.Lookup.{LooksUp}
use Rattle.pn_cmd.specs.Reports.{report}

-- The file of a digest is asked for: it is planned, and where the project's tree is told, at a place where it didn't stand.
pub record IsAskedFor (plan : List (Path × Planned)) (project : Option Tree) (at : List ℕ) : Type 0 where
  pub place : (p : Path) × Contains plan (p, planned.Stored at)
  pub missing : IfSome project (λ t. IsMissing plan t at)

-- The writing stops for a fault of the project or of the store, or where what is read at the digest of a planned file isn't
-- that file.
abbrev pub Stops : List (Path × Planned) → Shown → Status → Type 0
Stops plan w ProjectFault = Unit {0}
Stops plan w StoreFault = (at : List ℕ) × IsAskedFor plan w.trees.project at
Stops plan w (Integrity (of_store at found)) = IsAskedFor plan w.trees.project at
Stops plan w s = ⊥

-- The report is refused for a fault of the output.
abbrev pub Unreported : Shown → Status → Type 0
Unreported w SinkFault = Unit {0}
Unreported w s = ⊥

-- Nothing of the project was written, and no call that writes was made there.
pub record Unwritten (old new : World) : Type 0 where
  pub project : new.project.tree ≡ old.project.tree
  pub registry : new.registry.tree ≡ old.registry.tree
  pub touched : new.project.touched ≡ old.project.touched
  pub out : new.out ≡ old.out

-- Nor was anything put into the store.
pub record Untouched (old new : World) : Type 0 where
  pub unwritten : Unwritten old new
  pub store : new.store ≡ old.store

-- Nothing was written but files of these packages and their listings, into the store; a number stays taken there only where its
-- claim or its release failed, or for want of memory.
pub record OnlyFilled (s : Status) (k : Sources) (old new : World) : Type 0 where
  pub unwritten : Unwritten old new
  pub store : Filled old.registry.tree k.packages old.store new.store
  pub left : LeavesOne (IsStuck old.registry.tree k.packages old.store new.store s) old.store new.store

-- Each file of the packages and each of their listings was put into the store, where all of them are, and the number that was
-- taken is free.
pub record IsFetched (k : Fetched) (registry : Option Tree) (old new : Stored) : Type 0 where
  pub filled : Filled registry k.sources.packages old new
  pub released : IsReleased old new
  pub stored : All (IsStored new) k.listings
  pub put : All (WasPut registry old new) (places k.sources.packages)
  pub listed : All (WasListed old new) k.listings

-- The packages were fetched, and then the store was only read. Where the tree of the project was told, what stood in it as
-- planned stands as it did, and no call that writes was made on its path.
pub record Wrote (i : Inputs) (b : Build) (mid : Stored) (old new : World) : Type 0 where
  pub fetched : IsFetched b.fetched old.registry.tree old.store mid
  pub reads : ReadsStore mid new.store
  pub spares : IfSome old.project.tree (λ t. Spares (managed_of (modules_path i.place)) b.plan t old.project new.project)
  pub keeps : KeepsAllRight b.plan old.project.tree new.project.tree
  pub registry : new.registry.tree ≡ old.registry.tree

-- At and below the managed folder entries may differ, and it is the installer's still; nothing else differs.
pub record HalfWritten (i : Inputs) (b : Build) (mid : Stored) (old new : World) : Type 0 where
  pub wrote : Wrote i b mid old new
  pub project : HalfReconciled (managed_of (modules_path i.place)) b.plan old.project.tree new.project.tree
  pub out : new.out ≡ old.out

-- the tree is one, and each package finds in it what it depends on, by what the registry publishes
pub record Finds (registry : Option Tree) (place : Path) (said : Said) (u : Tree) : Type 0 where
  pub tree : IsTree u
  pub lookup : IfSome registry (λ r. LooksUp r u place said)

-- The project's tree has the plan at and below the managed folder, and elsewhere what it had; each package finds what it
-- depends on; and each package's listing is in the store, with each file that it names.
pub record Written (i : Inputs) (b : Build) (mid : Stored) (old new : World) : Type 0 where
  pub wrote : Wrote i b mid old new
  pub stored : All (IsStored new.store) b.fetched.listings
  pub plan : Reconciled (managed_of (modules_path i.place)) b.plan old.project.tree new.project.tree
  pub project : IfSome new.project.tree (Finds old.registry.tree i.place b.fetched.sources.graph.project.said)

-- What is there when a run is done: the points are passed, the project is installed, and the output took the report.
pub record IsDone (i : Inputs) (b : Build) (mid : Stored) (old new : World) : Type 0 where
  pub passed : install.Finds i (trees_of old) b
  pub written : Written i b mid old new
  pub told : TookAll (report b.fetched.sources.packages) old.out new.out

-- How a run ends: with the first refusal, before anything is written, or after files were put into the store; in the
-- writing of the project, which begins where the store is as at mid; at the report; or done.
pub data Ends (i : Inputs) (old new : World) : Status → Type 0 where
  refused : (s : Status) → Refuses (gathered.Cause i) old new s → Untouched old new → Ends i old new s
  unprepared : (s : Status) (k : Sources) → gathered.Finds i (trees_of old) k → Refuses (prepared.Cause k) old new s → OnlyFilled s k old new → Ends i old new s
  stopped : (s : Status) (b : Build) (mid : Stored) → install.Finds i (trees_of old) b → Refuses (Stops b.plan) (with_store old mid) new s → HalfWritten i b mid old new → Ends i old new s
  unreported : (s : Status) (b : Build) (mid : Stored) → install.Finds i (trees_of old) b → Refuses Unreported old new s → Written i b mid old new → TookSome (report b.fetched.sources.packages) old.out new.out → Ends i old new s
  done : (b : Build) (mid : Stored) → IsDone i b mid old new → Ends i old new Done
