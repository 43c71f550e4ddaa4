-- Lemmas on how a run ends.
use Rattle.std.proofs.Common.{◌≡◌, ◌≢◌, ◌++◌, ℕ, List, refl, sym, ap, ◌∙◌, subst, inl, inr, Option, Some, None}
use Rattle.std.specs.Prelude.{IfSome}
use Rattle.std.specs.List.{All}
use Rattle.std.specs.Option.{ForSome}
use Rattle.pn_text.specs.Path.{Path}
use Rattle.pn_fs.specs.Tree.{Tree, IsTree}
use Rattle.pn_fs.specs.Seen.{Seen, Taken, Keeps}
use Rattle.pn_fs.proofs.SeenLemmas.{rose_from}
use Rattle.pn_digest.specs.Listing.{Entry}
use Rattle.pn_digest.specs.declared.planned.Planned.{Planned}
use Rattle.pn_package.specs.declared.packages.Package.{Package}
use Rattle.pn_layout.specs.Layout.{IsClosed}
use Rattle.pn_fetch.specs.Listings.{AreListingsOf, IsStored}
use Rattle.pn_fetch.specs.Numbers.{IsReleased, LeavesOne}
use Rattle.pn_fetch.specs.Puts.{WasListed, WasPut, places}
use Rattle.pn_fetch.specs.declared.fault.FetchFault.TheVariants.{Memory as no_memory}
use Rattle.pn_fetch.proofs.IsStoredLemmas.{all_stored_on}
use Rattle.pn_fetch.proofs.TookOneLemmas.{leaves_wider}
use Rattle.pn_collect.specs.Outline.{direct_of}
use Rattle.pn_collect.specs.Packages.{ArePackages}
use Rattle.pn_choice.specs.Graphs.{IsGraphOf}
use Rattle.pn_storecore.specs.CallLaws.{GrewLaw}
use Rattle.pn_storecore.specs.Seen.{Seen as Stored}
use Rattle.pn_scan.specs.Managed.{Managed, AreOurs}
use Rattle.pn_scan.specs.Scans.{Scanned, IsScan}
use Rattle.pn_repair.specs.RepairFaults.{RepairRefused}
use Rattle.pn_repair.specs.Writes.{ReadsStore}
use Rattle.pn_repair.specs.declared.fault.RepairFault.{RepairFault}
use Rattle.pn_repair.specs.declared.fault.RepairFault.TheVariants.{Fault, StoreFault as FaultStore, Stored as FaultStored, Memory as NoMemory}
use Rattle.pn_reconcile.specs.Plans.{IsRooted, HasPlan, KeepsAllRight, Reconciled, HalfReconciled}
use Rattle.pn_reconcile.specs.Spares.{Spares, IsOfPlan}
use Rattle.pn_reconcile.specs.Needs.{IsNeeded}
use Rattle.pn_status.specs.declared.status.IntegrityWhy.TheVariants.{Stored as of_store}
use Rattle.pn_status.specs.declared.status.Which.TheVariants.{Numbers}
use Rattle.pn_status.specs.declared.status.Status.{Status}
use Rattle.pn_status.specs.declared.status.Status.TheVariants.{Done, Memory, Integrity, Limit, DigestClash, ProjectFault, StoreFault, RegistryFault, SinkFault}
use Rattle.pn_cmd.specs.declared.ready.Gathered.{Gathered}
use Rattle.pn_cmd.specs.declared.ready.Ready.{Ready}
use Rattle.pn_cmd.specs.World.{World, Inputs, Trees, trees, trees_of, world, with_store, AreKept}
use Rattle.pn_cmd.specs.Points.{Refuses}
use Rattle.pn_cmd.specs.Names.{modules_path}
use Rattle.pn_cmd.specs.Known.{Sources, Build, build_of, sources_of}
use Rattle.pn_cmd.specs.Graph.{inputs_of, root}
use Rattle.pn_cmd.specs.Reports.{report, Reported}
use Rattle.pn_cmd.specs.Fetches.{Filled, IsStuck}
use Rattle.pn_cmd.specs.Scans.{IsScanned, managed_of}
use Rattle.pn_cmd.specs.Lookup.{LooksUp}
use Rattle.pn_cmd.specs.Chain.{prepared, install}
use Rattle.pn_cmd.specs.Readies.{HasScan, IsGathered}
use Rattle.pn_cmd.specs.Writings.{repair_status}
use Rattle.pn_status.specs.Texts.{OrMemory, Tells}
use Rattle.pn_cmd.specs.Endings.{Ends, refused, unprepared, stopped, unreported, done, Wrote, Written, Finds, IsAskedFor, Stops}
use Rattle.pn_cmd.proofs.PointLemmas.{refuses_from}
use Rattle.pn_cmd.proofs.PassedLemmas.{HasGathered, HasPassed, has_gathered, has_passed}
use Rattle.pn_cmd.proofs.WrittenLemmas.{installed, of_packages, rooted}
use Rattle.pn_cmd.proofs.LookupLemmas.{all_found}

-- Calls that only read the trees, and leave the output alone.
pub record AreRead (old new : World) : Type 0 where
  pub project : Keeps old.project new.project
  pub registry : Keeps old.registry new.registry
  pub out : new.out ≡ old.out

-- what ends otherwise than by Done may end for want of memory
freed : (i : Inputs) (old new : World) (s : Status) → Ends i old new s → s ≢ Done → Ends i old new Memory
freed i old new _ (refused s r u) other = refused Memory tt u
freed i old new _ (unprepared s k f r u) other = unprepared Memory k f tt (record { unwritten = u.unwritten; store = u.store; left = leaves_wider (IsStuck old.registry.tree k.packages old.store new.store s) (IsStuck old.registry.tree k.packages old.store new.store Memory) old.store new.store (λ c. (no_memory, refl, tt)) u.left })
freed i old new _ (stopped s b mid p f h) other = stopped Memory b mid p tt h
freed i old new _ (unreported s b mid p f w t) other = unreported Memory b mid p tt w t
freed i old new _ (done b mid d) other = absurd (other refl)

pub told_end : (i : Inputs) (old new : World) (s r : Status) → Ends i old new s → OrMemory s r → Ends i old new r
told_end i old new s r h (inl e) = subst (Ends i old new) (sym e) h
told_end i old new s r h (inr m) = subst (Ends i old new) (sym m.0) (freed i old new s h m.1)

-- what is told of an answer that there could have been
pub tells_more : {C D : Status → Type 0} (old new : Taken) (r : Status) → ((s : Status) → C s → D s) → Tells C old new r → Tells D old new r
tells_more old new Done f h = h
tells_more old new Memory f h = (h.0, f h.0 h.1, h.2)
tells_more old new s f h = h

-- the build of what is ready
abbrev pub built : (i : Inputs) (t : Trees) (all : Gathered) → IsGathered i t all → Ready → Build
built i t all is ready = build_of i.place is.said is.plain all.packages.items ready.listings.items ready.plan

-- what is known of what was gathered
pub gathered_of : (i : Inputs) (t : Trees) (all : Gathered) (is : IsGathered i t all) → HasGathered i t (sources_of i.place is.said is.plain all.packages.items)
gathered_of i t all is = has_gathered i t (sources_of i.place is.said is.plain all.packages.items) is.finds

-- all points are passed
pub install_found : (i : Inputs) (t : Trees) (all : Gathered) (ready : Ready) (is : IsGathered i t all) → prepared.Finds (sources_of i.place is.said is.plain all.packages.items) t (built i t all is ready) → install.Finds i t (built i t all is ready)
install_found i t all ready is h = record { value = sources_of i.place is.said is.plain all.packages.items; first = is.finds; rest = h }

-- what is known where all points are passed
pub plan_found : (i : Inputs) (t : Trees) (all : Gathered) (ready : Ready) (is : IsGathered i t all) → prepared.Finds (sources_of i.place is.said is.plain all.packages.items) t (built i t all is ready) → HasPassed i t (built i t all is ready)
plan_found i t all ready is h = has_passed i t (built i t all is ready) (install_found i t all ready is h)

-- what a call found of a registry that was kept, it found of the one before
pub found_from : (project registry later : Seen) (k : Sources) (b : Build) → Keeps registry later → prepared.Finds k (trees project later) b → prepared.Finds k (trees project registry) b
found_from project registry later k b keeps h = subst (λ (o : Option Tree). prepared.Finds k (record { project = project.tree; registry = o }) b) keeps.tree h

-- how a run ends that is refused after files were put into the store
pub unprepared_by : (s : Status) (i : Inputs) (old mid new : World) (all : Gathered) → AreKept old mid → (is : IsGathered i (trees_of old) all) → new.project ≡ mid.project → mid.project.touched ≡ old.project.touched → Keeps mid.registry new.registry → new.out ≡ mid.out
    → Filled mid.registry.tree all.packages.items mid.store new.store → LeavesOne (IsStuck mid.registry.tree all.packages.items mid.store new.store s) mid.store new.store → Refuses (prepared.Cause (sources_of i.place is.said is.plain all.packages.items)) mid new s → Ends i old new s
unprepared_by s i old mid new all k is same touched held out filled left refuses =
    let sources = sources_of i.place is.said is.plain all.packages.items in
    let of_registry : Filled old.registry.tree all.packages.items mid.store new.store = subst (λ (r : Option Tree). Filled r all.packages.items mid.store new.store) k.registry.tree filled in
    unprepared s sources is.finds (refuses_from (prepared.Cause sources) (prepared.Cause sources) old mid new s k (λ s h. h) refuses) (record {
      unwritten = record { project = ap (λ (p : Seen). p.tree) same ∙ k.project.tree; registry = held.tree ∙ k.registry.tree; touched = ap (λ (p : Seen). p.touched) same ∙ touched; out = out ∙ k.out };
      store = subst (λ (t : Stored). Filled old.registry.tree all.packages.items t new.store) k.store of_registry;
      left = subst (λ (t : Stored). LeavesOne (IsStuck old.registry.tree all.packages.items t new.store s) t new.store) k.store (subst (λ (r : Option Tree). LeavesOne (IsStuck r all.packages.items mid.store new.store s) mid.store new.store) k.registry.tree left);
    })

-- the scan is of what stands where the writing begins
pub ready_scan : (place : Path) (scan : Scanned) (old mid : Seen) → Keeps old mid → HasScan old.tree place scan → ForSome mid.tree (λ t. IsScan t scan)
ready_scan place scan old mid k has t told = subst (λ (o : Option Tree). IfSome o (λ t. IsScan t scan)) (sym k.tree ∙ told) has.found

-- the scanned folder is the installer's
pub ready_ours : (place : Path) (scan : Scanned) (old mid : Seen) → Keeps old mid → HasScan old.tree place scan → IsScanned old.tree (modules_path place) → ForSome mid.tree (λ t. AreOurs t scan.managed)
ready_ours place scan old mid k has passed t told =
    subst (AreOurs t) (sym has.managed) (subst (λ (o : Option Tree). IfSome o (λ t. AreOurs t (managed_of (modules_path place)))) (sym k.tree ∙ told) passed.ours)

-- what is planned is of that folder
pub ready_rooted : (place : Path) (scan : Scanned) (project : Option Tree) (plan : List (Path × Planned)) → HasScan project place scan → IsClosed (modules_path place) plan → IsRooted scan.managed plan
ready_rooted place scan project plan has closed = subst (λ (l : List Managed). IsRooted l plan) (sym has.managed) (rooted (modules_path place) plan closed)

-- what was spared of a tree that was kept
spares_from : (managed : List Managed) (plan : List (Path × Planned)) (a b c : Seen) → Keeps a b → IfSome b.tree (λ t. Spares managed plan t b c) → IfSome a.tree (λ t. Spares managed plan t a c)
spares_from managed plan a b c k h = subst (λ (o : Option Tree). IfSome o (λ t. Spares managed plan t a c)) k.tree (on b.tree h)
  where
    on : (o : Option Tree) → IfSome o (λ t. Spares managed plan t b c) → IfSome o (λ t. Spares managed plan t a c)
    on None s = tt
    on (Some t) s = record { added = s.added; touched = s.touched ∙ ap (λ (l : List Path). l ++ s.added) k.touched; near = s.near; right = s.right }

-- the status of a refusal of the writing has its cause
pub stops_for : (fault : RepairFault) (plan : List (Path × Planned)) (old new registry : Seen) (store later : Stored) (out : Taken) → RepairRefused old new store later fault → IsOfPlan plan fault → IfSome old.tree (λ t. IsNeeded plan t fault)
    → Refuses (Stops plan) (world old registry store out) (world new registry later out) (repair_status fault)
stops_for Fault plan old new registry store later out h of need = (h, tt)
stops_for FaultStore plan old new registry store later out h of need = (h, asked plan old.tree of need)
  where
    asked : (plan : List (Path × Planned)) (o : Option Tree) → IsOfPlan plan FaultStore → IfSome o (λ t. IsNeeded plan t FaultStore) → (at : List ℕ) × IsAskedFor plan o at
    asked plan None of need = (of.1, record { place = (of.0, of.2); missing = tt })
    asked plan (Some t) of need = (need.0, record { place = (need.1.0, need.1.1); missing = need.1 })
stops_for (FaultStored at found) plan old new registry store later out h of need = (h, record { place = of; missing = need })
stops_for NoMemory plan old new registry store later out h of need = tt

-- the writing's refusal is one from the start on, but for the store
stops_from : (s : Status) (plan : List (Path × Planned)) (old mid new : World) → AreRead old mid → Refuses (Stops plan) mid new s → Refuses (Stops plan) (with_store old mid.store) new s
stops_from Memory plan old mid new k h = tt
stops_from ProjectFault plan old mid new k h = (rose_from old.project.faults mid.project.faults new.project.faults k.project.later h.0, tt)
stops_from StoreFault plan old mid new k h = (h.0, subst (λ (o : Option Tree). (at : List ℕ) × IsAskedFor plan o at) k.project.tree h.1)
stops_from (Integrity (of_store at found)) plan old mid new k h = (h.0, subst (λ (o : Option Tree). IsAskedFor plan o at) k.project.tree h.1)
stops_from RegistryFault plan old mid new k h = absurd h.1
stops_from (DigestClash at) plan old mid new k h = absurd h.1
stops_from (Limit Numbers n) plan old mid new k h = absurd h.1
stops_from SinkFault plan old mid new k h = absurd h.1
stops_from s plan old mid new k h = absurd h

-- what the writing did, whatever it answered
pub record HasWritten (scan : Scanned) (listings : List (List Entry)) (plan : List (Path × Planned)) (packages : List Package) (old mid new : World) : Type 0 where
  pub filled : Filled old.registry.tree packages old.store mid.store
  pub released : IsReleased old.store mid.store
  pub stored : All (IsStored mid.store) listings
  pub put : All (WasPut old.registry.tree old.store mid.store) (places packages)
  pub listed : All (WasListed old.store mid.store) listings
  pub reads : ReadsStore mid.store new.store
  pub spares : IfSome mid.project.tree (λ t. Spares scan.managed plan t mid.project new.project)
  pub keeps : KeepsAllRight plan mid.project.tree new.project.tree
  pub registry : new.registry ≡ mid.registry

wrote_by : (i : Inputs) (old mid new : World) (all : Gathered) (ready : Ready) → AreRead old mid → (is : IsGathered i (trees_of old) all) → HasWritten all.scan ready.listings.items ready.plan all.packages.items old mid new → Wrote i (built i (trees_of old) all is ready) mid.store old new
wrote_by i old mid new all ready k is has = record {
  fetched = record { filled = has.filled; released = has.released; stored = has.stored; put = has.put; listed = has.listed };
  reads = has.reads;
  spares = subst (λ (l : List Managed). IfSome old.project.tree (λ t. Spares l ready.plan t old.project new.project)) is.scan.managed (spares_from all.scan.managed ready.plan old.project mid.project new.project k.project has.spares);
  keeps = subst (λ (t : Option Tree). KeepsAllRight ready.plan t new.project.tree) k.project.tree has.keeps;
  registry = ap (λ (r : Seen). r.tree) has.registry ∙ k.registry.tree;
}

-- how a run ends in the writing
pub stopped_by : (s : Status) (i : Inputs) (old mid new : World) (all : Gathered) (ready : Ready) → AreRead old mid → (is : IsGathered i (trees_of old) all)
    → prepared.Finds (sources_of i.place is.said is.plain all.packages.items) (trees_of old) (built i (trees_of old) all is ready) → HasWritten all.scan ready.listings.items ready.plan all.packages.items old mid new → new.out ≡ mid.out
    → HalfReconciled all.scan.managed ready.plan mid.project.tree new.project.tree → Refuses (Stops ready.plan) mid new s → Ends i old new s
stopped_by s i old mid new all ready k is found has out half stops =
    let from : HalfReconciled all.scan.managed ready.plan old.project.tree new.project.tree = subst (λ t. HalfReconciled all.scan.managed ready.plan t new.project.tree) k.project.tree half in
    stopped s (built i (trees_of old) all is ready) mid.store (install_found i (trees_of old) all ready is found) (stops_from s ready.plan old mid new k stops) (record {
      wrote = wrote_by i old mid new all ready k is has;
      project = subst (λ (l : List Managed). HalfReconciled l ready.plan old.project.tree new.project.tree) is.scan.managed from;
      out = out ∙ k.out;
    })

-- what a tree finds that has the plan
finds_in : (i : Inputs) (old : World) (all : Gathered) (ready : Ready) → (is : IsGathered i (trees_of old) all) → HasPassed i (trees_of old) (built i (trees_of old) all is ready) → (u : Tree) → IsTree u → HasPlan (managed_of (modules_path i.place)) ready.plan u → Finds old.registry.tree i.place is.said u
finds_in i old all ready is p u tree has = record { tree = tree; lookup = look old.registry.tree p.gathered.graph p.gathered.listed p.listings }
  where
    look : (o : Option Tree) → IsGraphOf o (inputs_of is.said) root is.plain → ArePackages o is.plain all.packages.items → AreListingsOf o all.packages.items ready.listings.items → IfSome o (λ r. LooksUp r u i.place is.said)
    look None graph listed listings = tt
    look (Some r) graph listed listings = all_found r u i.place is.said is.plain all.packages.items ready.listings.items tree graph listed (of_packages (Some r) all.packages.items ready.listings.items listed.sorted listings)
        (installed u (modules_path i.place) (direct_of is.plain) all.packages.items ready.listings.items ready.plan p.planned.entries has)

written_by : GrewLaw → (i : Inputs) (old mid new : World) (all : Gathered) (ready : Ready) → ((u : Tree) → new.project.tree ≡ Some u → IsTree u) → AreRead old mid → (is : IsGathered i (trees_of old) all)
    → prepared.Finds (sources_of i.place is.said is.plain all.packages.items) (trees_of old) (built i (trees_of old) all is ready) → HasWritten all.scan ready.listings.items ready.plan all.packages.items old mid new
    → Reconciled all.scan.managed ready.plan mid.project.tree new.project.tree → Written i (built i (trees_of old) all is ready) mid.store old new
written_by grew i old mid new all ready tree k is found has made =
    let at : Reconciled (managed_of (modules_path i.place)) ready.plan old.project.tree new.project.tree =
    subst (λ (l : List Managed). Reconciled l ready.plan old.project.tree new.project.tree) is.scan.managed (subst (λ t. Reconciled all.scan.managed ready.plan t new.project.tree) k.project.tree made) in
    record {
      wrote = wrote_by i old mid new all ready k is has;
      stored = all_stored_on grew mid.store new.store has.reads.grew ready.listings.items has.stored;
      plan = at;
      project = projects old.project.tree new.project.tree at tree;
    }
  where
    projects : (a b : Option Tree) → Reconciled (managed_of (modules_path i.place)) ready.plan a b → ((u : Tree) → b ≡ Some u → IsTree u) → IfSome b (Finds old.registry.tree i.place is.said)
    projects None b at tree = subst (λ (o : Option Tree). IfSome o (Finds old.registry.tree i.place is.said)) (sym at) tt
    projects (Some t) b at tree = subst (λ (o : Option Tree). IfSome o (Finds old.registry.tree i.place is.said)) (sym at.1) (finds_in i old all ready is (plan_found i (trees_of old) all ready is found) at.0 (tree at.0 at.1) at.2.has)

-- how a run ends at the report
pub reported_by : GrewLaw → (s : Status) (i : Inputs) (old mid new : World) (text : List ℕ) (all : Gathered) (ready : Ready) → ((u : Tree) → new.project.tree ≡ Some u → IsTree u) → AreRead old mid
    → (is : IsGathered i (trees_of old) all) → prepared.Finds (sources_of i.place is.said is.plain all.packages.items) (trees_of old) (built i (trees_of old) all is ready) → HasWritten all.scan ready.listings.items ready.plan all.packages.items old mid new
    → Reconciled all.scan.managed ready.plan mid.project.tree new.project.tree → text ≡ report all.packages.items → Reported text old.out new.out s → Ends i old new s
reported_by grew s i old mid new text all ready tree k is found has made same h =
    report_end s (built i (trees_of old) all is ready) (install_found i (trees_of old) all ready is found) (written_by grew i old mid new all ready tree k is found has made) (subst (λ (r : List ℕ). Reported r old.out new.out s) same h)
  where
    report_end : (s : Status) (b : Build) → install.Finds i (trees_of old) b → Written i b mid.store old new → Reported (report b.fetched.sources.packages) old.out new.out s → Ends i old new s
    report_end Done b f w h = done b mid.store (record { passed = f; written = w; told = h })
    report_end Memory b f w h = unreported Memory b mid.store f tt w h
    report_end SinkFault b f w h = unreported SinkFault b mid.store f (h.0, tt) w h.1
    report_end s b f w h = absurd h
