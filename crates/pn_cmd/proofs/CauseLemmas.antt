-- How a run ends gives each answer its cause.
use Rattle.std.proofs.Common.{◌≡◌, ◌⊎◌, ◌∷◌, List, refl, sym, subst, inl, inr}
use Rattle.pn_text.specs.Path.{Path}
use Rattle.pn_choice.specs.declared.fault.ChoiceFault.{ChoiceFault}
use Rattle.pn_choice.specs.declared.fault.ChoiceFault.TheVariants.{Unsupported as FaultUnsupported, Unbuilt as FaultUnbuilt, NoVersion as FaultNoVersion, Registry as FaultRegistry, Packages as FaultPackages, Fault as ChoiceFailed, Memory as NoChoiceMemory}
use Rattle.pn_choice.specs.declared.fault.RegistryLack.{RegistryLack}
use Rattle.pn_choice.specs.declared.fault.RegistryLack.TheVariants.{BadTags as LackTags, Entries as LackEntries, Wrong as LackManifest, TooLarge as LackText, Unbuilt as LackUnbuilt}
use Rattle.pn_choice.specs.Refusals.{Unplain}
use Rattle.pn_collect.specs.declared.fault.CollectFault.{CollectFault}
use Rattle.pn_collect.specs.declared.fault.CollectFault.TheVariants.{Modules, TooLarge, Entries as FaultEntries, Fault as CollectFailed, Memory as NoCollectMemory}
use Rattle.pn_collect.specs.CollectFaults.{IsFirstRefused}
use Rattle.pn_status.specs.declared.status.IntegrityWhy.TheVariants.{Stored as of_store}
use Rattle.pn_status.specs.declared.status.Which.TheVariants.{File, Text, Path as PathLength, Entries, Numbers}
use Rattle.pn_workspace.specs.Laws.{IsOwn}
use Rattle.pn_workspace.specs.Workspaces.{NoWorkspace}
use Rattle.pn_workspace.specs.declared.fault.WorkspaceFault.{WorkspaceFault}
use Rattle.pn_workspace.specs.declared.fault.WorkspaceFault.TheVariants.{Long, TooLarge as SpaceLarge, Wrong, Fault as SpaceFailed, Memory as NoSpaceMemory}
use Rattle.pn_workspace.specs.declared.fault.WorkspaceWhy.TheVariants.{BadKey}
use Rattle.pn_status.specs.declared.status.FileWhy.TheVariants.{Manifest as of_manifest, Workspace as of_workspace}
use Rattle.pn_status.specs.declared.status.Status.{Status}
use Rattle.pn_status.specs.declared.status.Status.TheVariants.{Memory, Usage, Manifest as BadManifest, Integrity, Foreign, Limit, DigestClash, ProjectFault, StoreFault, RegistryFault, SinkFault, NotYet}
use Rattle.pn_storecore.specs.Seen.{Seen as Stored}
use Rattle.pn_fs.proofs.SeenLemmas.{rose_from}
use Rattle.pn_cmd.specs.World.{World, Inputs, Shown, shown, trees_of, with_store}
use Rattle.pn_cmd.specs.Points.{Refuses, then}
use Rattle.pn_cmd.specs.Names.{package_name, lock_name, modules_path}
use Rattle.pn_cmd.specs.Spaces.{space_status}
use Rattle.pn_cmd.specs.Stores.{NoDefault}
use Rattle.pn_cmd.specs.Standing.{Stands}
use Rattle.pn_cmd.specs.Scans.{Unscanned}
use Rattle.pn_cmd.specs.Manifests.{NoManifest}
use Rattle.pn_cmd.specs.Graph.{lack_status, choice_status, inputs_of}
use Rattle.pn_cmd.specs.Known.{Space, Graph, Project, Sources, Fetched, Build}
use Rattle.pn_package.specs.declared.packages.Package.{Package}
use Rattle.pn_cmd.specs.Packages.{collect_status}
use Rattle.pn_cmd.specs.Fetches.{Unfetched}
use Rattle.pn_cmd.specs.Plans.{TooLong}
use Rattle.pn_cmd.specs.Chain.{words_at, workspace_at, manifest_at, store_at, lock_at, graph_at, scanned_at, listed_at, fetched_at, planned_at, tree, goal, from_store, from_manifest, gathered, prepared, install, to_workspace, to_manifest, to_store, to_lock, to_graph, to_scanned, StandsAt, at_words, at_workspace, at_manifest, at_store, at_lock, at_graph, at_scanned, at_listed, at_fetched, at_planned}
use Rattle.pn_cmd.specs.Endings.{refused, unprepared, stopped, unreported, done, Stops, Unreported, IsFetched}
use Rattle.pn_cmd.specs.Causes.{CauseOf, IsUnspaced, IsKept, IsUnscanned, IsUnread, IsDisplaced, IsUngraphed, IsUnlisted, IsUnfetched, IsUnplanned}
use Rattle.pn_cmd.specs.Laws.{CauseLaw}
use Rattle.pn_cmd.proofs.PointLemmas.{first_refuses, kept_none, leads_then, second_refuses}

tree_at : (i : Inputs) (w : Shown) (s : Status) (k : Graph) → to_graph.Finds i w.trees k → tree.Cause k w s → StandsAt i w s
tree_at i w s k f = leads_then scanned_at listed_at k w s (λ c. at_scanned (k, f, c)) (λ k6 f6 c. at_listed (k6, record { value = k; first = f; rest = f6 }, c))

goal_at : (i : Inputs) (w : Shown) (s : Status) (k : Project) → to_store.Finds i w.trees k → goal.Cause k w s → StandsAt i w s
goal_at i w s k f =
    leads_then lock_at (then graph_at tree) k w s (λ c. at_lock (k, f, c)) (λ k4 f4.
    let g4 : to_lock.Finds i w.trees k4 = record { value = k; first = f; rest = f4 } in
    leads_then graph_at tree k4 w s (λ c. at_graph (k4, g4, c)) (λ k5 f5 c.
    tree_at i w s k5 (record { value = k4; first = g4; rest = f5 }) c))

-- the cause of a refusal is at one of the points, after all that is found before it
gathered_at : (i : Inputs) (w : Shown) (s : Status) → gathered.Cause i w s → StandsAt i w s
gathered_at i w s =
    leads_then words_at (then workspace_at from_manifest) i w s at_words (λ k1 f1.
    leads_then workspace_at from_manifest k1 w s (λ c. at_workspace (k1, f1, c)) (λ k2 f2.
    let g2 : to_workspace.Finds i w.trees k2 = record { value = k1; first = f1; rest = f2 } in
    leads_then manifest_at from_store k2 w s (λ c. at_manifest (k2, g2, c)) (λ k3 f3.
    let g3 : to_manifest.Finds i w.trees k3 = record { value = k2; first = g2; rest = f3 } in
    leads_then store_at goal k3 w s (λ c. at_store (k3, g3, c)) (λ k4 f4 c.
    goal_at i w s k4 (record { value = k3; first = g3; rest = f4 }) c))))

prepared_at : (i : Inputs) (w : Shown) (s : Status) (k : Sources) → gathered.Finds i w.trees k → prepared.Cause k w s → StandsAt i w s
prepared_at i w s k f = leads_then fetched_at planned_at k w s (λ c. at_fetched (k, f, c)) (λ k8 f8 c. at_planned (k8, record { value = k; first = f; rest = f8 }, c))

pub refused_at : (i : Inputs) (w : Shown) (s : Status) → install.Cause i w s → StandsAt i w s
refused_at i w s = leads_then gathered prepared i w s (gathered_at i w s) (prepared_at i w s)

words_cause : (i : Inputs) (old new : World) (s : Status) → words_at.Cause i (shown old) s → CauseOf i old new s
words_cause i old new Usage h = h
words_cause i old new s h = absurd h

stands_cause : (i : Inputs) (old new : World) (s : Status) (p : Path) → Stands p (shown old) s → IsKept i (shown old) s → Refuses (install.Cause i) old new s → CauseOf i old new s
stands_cause i old new ProjectFault p h k r = r.0
stands_cause i old new (Limit PathLength n) p h k r = inr (inr (inr (inl k)))
stands_cause i old new (NotYet text) p h k r = inr (inr (inr (inl k)))
stands_cause i old new s p h k r = absurd h

scanned_cause : (i : Inputs) (old new : World) (s : Status) (p : Path) → Unscanned p (shown old) s → IsUnscanned i (shown old) s → Refuses (install.Cause i) old new s → CauseOf i old new s
scanned_cause i old new ProjectFault p h k r = r.0
scanned_cause i old new (Limit PathLength n) p h k r = inr (inr (inr (inr (inl k))))
scanned_cause i old new (Limit Entries n) p h k r = inr (inl k)
scanned_cause i old new (Foreign q) p h k r = k
scanned_cause i old new s p h k r = absurd h

manifest_cause : (i : Inputs) (old new : World) (s : Status) (p : Path) → NoManifest p (shown old) s → IsUnread i (shown old) s → Refuses (install.Cause i) old new s → CauseOf i old new s
manifest_cause i old new ProjectFault p h k r = r.0
manifest_cause i old new (Limit PathLength n) p h k r = inr (inl k)
manifest_cause i old new (Limit Text n) p h k r = inr (inl k)
manifest_cause i old new (BadManifest text (of_manifest why)) p h k r = inr (inl k)
manifest_cause i old new (NotYet key) p h k r = inr (inl k)
manifest_cause i old new s p h k r = absurd h

fault_cause : (i : Inputs) (old new : World) (k : Path) → words_at.Finds i (shown old).trees k → (fault : WorkspaceFault) → IsOwn fault → NoWorkspace old.project.tree k fault → CauseOf i old new (space_status fault)
fault_cause i old new k f (Long n) o h = inl (k, f, (Long n, refl, tt, h))
fault_cause i old new k f (SpaceLarge n) o h = inl (k, f, (SpaceLarge n, refl, tt, h))
fault_cause i old new k f (Wrong p why) o h = inl (k, f, (Wrong p why, refl, tt, h))
fault_cause i old new k f SpaceFailed o h = absurd o
fault_cause i old new k f NoSpaceMemory o h = absurd o

space_cause : (i : Inputs) (old new : World) (s : Status) → IsUnspaced i (shown old) s → Refuses (install.Cause i) old new s → CauseOf i old new s
space_cause i old new ProjectFault h r = r.0
space_cause i old new (NotYet text) h r = inl h
space_cause i old new s h r = subst (CauseOf i old new) (sym h.2.1) (fault_cause i old new h.0 h.1 h.2.0 h.2.2 h.2.3)

store_cause : (i : Inputs) (old new : World) (s : Status) (k : Space) → NoDefault k (shown old) s → IsDisplaced i (shown old) s → CauseOf i old new s
store_cause i old new (Limit PathLength n) k h all = inr (inr (inl all))
store_cause i old new (BadManifest text (of_workspace (BadKey key))) k h all = inr (inr (inl all))
store_cause i old new (NotYet text) k h all = inr (inr (inl all))
store_cause i old new s k h all = absurd h

lack_cause : (i : Inputs) (old new : World) (k : Project) → to_lock.Finds i (shown old).trees k → (lack : RegistryLack) → Unplain (inputs_of k.said) old.registry.tree (FaultRegistry lack) → CauseOf i old new (lack_status lack)
lack_cause i old new k f (LackTags name) h = inr (inr (inr (k, f, (FaultRegistry (LackTags name), refl, h))))
lack_cause i old new k f LackEntries h = inl (k, f, (FaultRegistry LackEntries, refl, h))
lack_cause i old new k f (LackManifest id why) h = inr (inr (inr (k, f, (FaultRegistry (LackManifest id why), refl, h))))
lack_cause i old new k f (LackText id n) h = inr (inr (k, f, (FaultRegistry (LackText id n), refl, h)))
lack_cause i old new k f (LackUnbuilt text) h = inr (inr (inr (inr (k, f, (FaultRegistry (LackUnbuilt text), refl, h)))))

choice_cause : (i : Inputs) (old new : World) (k : Project) → to_lock.Finds i (shown old).trees k → (fault : ChoiceFault) → Unplain (inputs_of k.said) old.registry.tree fault → CauseOf i old new (choice_status fault)
choice_cause i old new k f (FaultUnsupported e) h = (k, f, (FaultUnsupported e, refl, h))
choice_cause i old new k f (FaultUnbuilt e) h = inr (inr (inr (inr (k, f, (FaultUnbuilt e, refl, h)))))
choice_cause i old new k f (FaultNoVersion e) h = (k, f, (FaultNoVersion e, refl, h))
choice_cause i old new k f (FaultRegistry lack) h = lack_cause i old new k f lack h
choice_cause i old new k f (FaultPackages n) h = (k, f, (FaultPackages n, refl, h))
choice_cause i old new k f ChoiceFailed h = absurd h
choice_cause i old new k f NoChoiceMemory h = tt

graph_cause : (i : Inputs) (old new : World) (s : Status) → IsUngraphed i (shown old) s → Refuses (install.Cause i) old new s → CauseOf i old new s
graph_cause i old new RegistryFault h r = r.0
graph_cause i old new s h r = subst (CauseOf i old new) (sym h.2.1) (choice_cause i old new h.0 h.1 h.2.0 h.2.2)

collect_cause : (i : Inputs) (old new : World) (k : Graph) → to_scanned.Finds i (shown old).trees k → (fault : CollectFault) → IsFirstRefused k.plain old.registry.tree fault → CauseOf i old new (collect_status fault)
collect_cause i old new k f (Modules id path) h = (k, f, (Modules id path, refl, h))
collect_cause i old new k f (TooLarge n) h = inl (k, f, (TooLarge n, refl, h))
collect_cause i old new k f FaultEntries h = inr (inr (k, f, (FaultEntries, refl, h)))
collect_cause i old new k f CollectFailed h = absurd h.first.failed
collect_cause i old new k f NoCollectMemory h = tt

listed_cause : (i : Inputs) (old new : World) (s : Status) → IsUnlisted i (shown old) s → Refuses (install.Cause i) old new s → CauseOf i old new s
listed_cause i old new RegistryFault h r = r.0
listed_cause i old new s h r = subst (CauseOf i old new) (sym h.2.1) (collect_cause i old new h.0 h.1 h.2.0 h.2.2)

fetched_cause : (i : Inputs) (old new : World) (s : Status) (packages : List Package) → Unfetched packages (shown old) s → IsUnfetched i (shown old) s → Refuses (install.Cause i) old new s → CauseOf i old new s
fetched_cause i old new StoreFault packages h all r = (r.0, inl all)
fetched_cause i old new RegistryFault packages h all r = r.0
fetched_cause i old new (DigestClash at) packages h all r = (r.0, all)
fetched_cause i old new (Limit Numbers n) packages h all r = (r.0, all)
fetched_cause i old new (Limit File n) packages h all r = inr all
fetched_cause i old new s packages h all r = absurd h

planned_cause : (i : Inputs) (old new : World) (s : Status) (k : Fetched) → TooLong k (shown old) s → IsUnplanned i (shown old) s → CauseOf i old new s
planned_cause i old new (Limit PathLength n) k h all = inr (inr (inr (inr (inr all))))
planned_cause i old new s k h all = absurd h

at_point : (i : Inputs) (old new : World) (s : Status) → StandsAt i (shown old) s → Refuses (install.Cause i) old new s → CauseOf i old new s
at_point i old new s (at_words h) r = words_cause i old new s h
at_point i old new s (at_workspace h) r = space_cause i old new s h r
at_point i old new s (at_manifest h) r = manifest_cause i old new s (package_name ∷ h.0.place) h.2 h r
at_point i old new s (at_store h) r = store_cause i old new s h.0.space h.2 h
at_point i old new s (at_lock h) r = stands_cause i old new s (lock_name ∷ h.0.place) h.2 h r
at_point i old new s (at_graph h) r = graph_cause i old new s h r
at_point i old new s (at_scanned h) r = scanned_cause i old new s (modules_path h.0.project.place) h.2 h r
at_point i old new s (at_listed h) r = listed_cause i old new s h r
at_point i old new s (at_fetched h) r = fetched_cause i old new s h.0.packages h.2 h r
at_point i old new s (at_planned h) r = planned_cause i old new s h.0 h.2 h

-- what a refusal says besides the count of faults
pub cause_in : (C : Shown → Status → Type 0) (old new : World) (s : Status) → Refuses C old new s → (s ≡ Memory) ⊎ C (shown old) s
cause_in C old new Memory h = inl refl
cause_in C old new ProjectFault h = inr h.1
cause_in C old new StoreFault h = inr h.1
cause_in C old new (Integrity (of_store at found)) h = inr h.1
cause_in C old new (DigestClash at) h = inr h.1
cause_in C old new (Limit Numbers n) h = inr h.1
cause_in C old new RegistryFault h = inr h.1
cause_in C old new SinkFault h = inr h.1
cause_in C old new s h = inr h

refused_cause : (i : Inputs) (old new : World) (s : Status) → Refuses (install.Cause i) old new s → CauseOf i old new s
refused_cause i old new s r = elim (cause_in (install.Cause i) old new s r) [
  | inl e ↦ subst (CauseOf i old new) (sym e) tt
  | inr c ↦ at_point i old new s (refused_at i (shown old) s c) r
]

stops_cause : (i : Inputs) (old new : World) (s : Status) (b : Build) (mid : Stored) → install.Finds i (trees_of old) b → IsFetched b.fetched old.registry.tree old.store mid → Refuses (Stops b.plan) (with_store old mid) new s → CauseOf i old new s
stops_cause i old new Memory b mid f k h = tt
stops_cause i old new ProjectFault b mid f k h = h.0
stops_cause i old new StoreFault b mid f k h = (rose_from old.store.faults mid.faults new.store.faults k.filled.later h.0, inr (b, f, h.1))
stops_cause i old new (Integrity (of_store at found)) b mid f k h = record { build = b; reached = f; asked = h.1; mid = mid; stored = k.stored; wrong = h.0 }
stops_cause i old new RegistryFault b mid f k h = absurd h.1
stops_cause i old new (DigestClash at) b mid f k h = absurd h.1
stops_cause i old new (Limit Numbers n) b mid f k h = absurd h.1
stops_cause i old new SinkFault b mid f k h = absurd h.1
stops_cause i old new s b mid f k h = absurd h

unreported_cause : (i : Inputs) (old new : World) (s : Status) (b : Build) → install.Finds i (trees_of old) b → Refuses Unreported old new s → CauseOf i old new s
unreported_cause i old new Memory b f h = tt
unreported_cause i old new SinkFault b f h = (h.0, (b, f))
unreported_cause i old new ProjectFault b f h = absurd h.1
unreported_cause i old new StoreFault b f h = absurd h.1
unreported_cause i old new (Integrity (of_store at found)) b f h = absurd h.1
unreported_cause i old new (DigestClash at) b f h = absurd h.1
unreported_cause i old new (Limit Numbers n) b f h = absurd h.1
unreported_cause i old new RegistryFault b f h = absurd h.1
unreported_cause i old new s b f h = absurd h

pub end_cause : CauseLaw
end_cause i old new _ (refused s r u) = refused_cause i old new s (first_refuses gathered prepared i old new s r)
end_cause i old new _ (unprepared s k f r u) = refused_cause i old new s (second_refuses gathered prepared i k old old new s (kept_none old) f r)
end_cause i old new _ (stopped s b mid p f h) = stops_cause i old new s b mid p h.wrote.fetched f
end_cause i old new _ (unreported s b mid p f w t) = unreported_cause i old new s b p f
end_cause i old new _ (done b mid d) = (b, mid, d)
