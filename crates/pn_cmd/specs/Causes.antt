-- What each answer rests on.
use Rattle.std.specs.Prelude.{◌⊎◌, ℕ, List, Option}
use Rattle.std.specs.List.{All}
use Rattle.pn_text.specs.Causes.{Rose}
use Rattle.pn_storecore.specs.Seen.{Seen as Stored}
use Rattle.pn_repair.specs.RepairFaults.{IsWrongFile}
use Rattle.pn_fetch.specs.Listings.{IsStored}
use Rattle.pn_status.specs.declared.status.IntegrityWhy.TheVariants.{Stored as of_store}
use Rattle.pn_status.specs.declared.status.Which.TheVariants.{Packages, File, Text, Path as PathLength, Entries, Numbers}
use Rattle.pn_status.specs.declared.status.Status.{Status}
use Rattle.pn_status.specs.declared.status.Status.TheVariants.{Done, Memory, Usage, Manifest as BadManifest, NoVersion, Unsupported, Integrity, Foreign, Limit, Bundled, DigestClash, ProjectFault, StoreFault, RegistryFault, SinkFault, NotYet}
use Rattle.pn_store.specs.declared.number.TheConstants.{NUMBERS}
use Rattle.pn_store.specs.Claims.{AreTaken}
use Rattle.pn_cmd.specs.World.{World, Inputs, Shown, shown, trees_of}
use Rattle.pn_cmd.specs.Points.{Clashed}
use Rattle.pn_cmd.specs.Known.{Build}
use Rattle.pn_cmd.specs.Chain.{words_at, workspace_at, manifest_at, store_at, lock_at, graph_at, scanned_at, listed_at, fetched_at, planned_at, gathered, install, to_workspace, to_manifest, to_store, to_lock, to_graph, to_scanned, to_fetched, After}
use Rattle.pn_cmd.specs.Endings.{IsAskedFor, IsDone}

-- There is no workspace, or something of it isn't built yet.
abbrev pub IsUnspaced : Inputs → Shown → Status → Type 0
IsUnspaced i w s = After words_at i w.trees (λ k. workspace_at.Cause k w s)

-- A `pnpm-lock.yaml` stands there, or that path is too long.
abbrev pub IsKept : Inputs → Shown → Status → Type 0
IsKept i w s = After to_store i w.trees (λ k. lock_at.Cause k w s)

-- The managed folder isn't the installer's, too much stands below it, or its path is too long.
abbrev pub IsUnscanned : Inputs → Shown → Status → Type 0
IsUnscanned i w s = After to_graph i w.trees (λ k. scanned_at.Cause k w s)

-- The project's manifest is refused.
abbrev pub IsUnread : Inputs → Shown → Status → Type 0
IsUnread i w s = After to_workspace i w.trees (λ k. manifest_at.Cause k w s)

-- The virtual store has no place, or another one than the default.
abbrev pub IsDisplaced : Inputs → Shown → Status → Type 0
IsDisplaced i w s = After to_manifest i w.trees (λ k. store_at.Cause k w s)

-- There is no plain graph.
abbrev pub IsUngraphed : Inputs → Shown → Status → Type 0
IsUngraphed i w s = After to_lock i w.trees (λ k. graph_at.Cause k w s)

-- A package's files can't be taken.
abbrev pub IsUnlisted : Inputs → Shown → Status → Type 0
IsUnlisted i w s = After to_scanned i w.trees (λ k. listed_at.Cause k w s)

-- The packages' files aren't in the store.
abbrev pub IsUnfetched : Inputs → Shown → Status → Type 0
IsUnfetched i w s = After gathered i w.trees (λ k. fetched_at.Cause k w s)

-- The tree can't be planned.
abbrev pub IsUnplanned : Inputs → Shown → Status → Type 0
IsUnplanned i w s = After to_fetched i w.trees (λ k. planned_at.Cause k w s)

-- all points are passed
abbrev pub IsReached : Inputs → World → Build → Type 0
IsReached i old b = install.Finds i (trees_of old) b

-- After the packages were fetched, what was read at the digest of a planned file that didn't stand wasn't that file.
pub record IsDamaged (i : Inputs) (at : List ℕ) (found : Option (List ℕ)) (old new : World) : Type 0 where
  pub build : Build
  pub reached : IsReached i old build
  pub asked : IsAskedFor build.plan old.project.tree at
  pub mid : Stored
  pub stored : All (IsStored mid) build.fetched.listings
  pub wrong : IsWrongFile at found mid new.store

-- what each answer rests on, wherever in the order it came
abbrev pub CauseOf : Inputs → World → World → Status → Type 0
CauseOf i old new Done = (b : Build) × (mid : Stored) × IsDone i b mid old new
CauseOf i old new Memory = Unit {0}
CauseOf i old new Usage = words_at.Cause i (shown old) Usage
CauseOf i old new (BadManifest text why) =
    IsUnspaced i (shown old) (BadManifest text why)
    ⊎ (IsUnread i (shown old) (BadManifest text why)
    ⊎ (IsDisplaced i (shown old) (BadManifest text why)
    ⊎ IsUngraphed i (shown old) (BadManifest text why)))
CauseOf i old new (NoVersion e) = IsUngraphed i (shown old) (NoVersion e)
CauseOf i old new (Unsupported e) = IsUngraphed i (shown old) (Unsupported e)
CauseOf i old new (Integrity (of_store at found)) = IsDamaged i at found old new
CauseOf i old new (Foreign path) = IsUnscanned i (shown old) (Foreign path)
CauseOf i old new (Limit Packages n) = IsUngraphed i (shown old) (Limit Packages n)
CauseOf i old new (Limit Text n) =
    IsUnspaced i (shown old) (Limit Text n)
    ⊎ (IsUnread i (shown old) (Limit Text n)
    ⊎ IsUngraphed i (shown old) (Limit Text n))
CauseOf i old new (Limit PathLength n) =
    IsUnspaced i (shown old) (Limit PathLength n)
    ⊎ (IsUnread i (shown old) (Limit PathLength n)
    ⊎ (IsDisplaced i (shown old) (Limit PathLength n)
    ⊎ (IsKept i (shown old) (Limit PathLength n)
    ⊎ (IsUnscanned i (shown old) (Limit PathLength n)
    ⊎ IsUnplanned i (shown old) (Limit PathLength n)))))
CauseOf i old new (Limit File n) = IsUnlisted i (shown old) (Limit File n) ⊎ IsUnfetched i (shown old) (Limit File n)
CauseOf i old new (Limit Numbers n) = AreTaken NUMBERS old.store new.store × IsUnfetched i (shown old) (Limit Numbers n)
CauseOf i old new (Limit Entries n) =
    IsUngraphed i (shown old) (Limit Entries n)
    ⊎ (IsUnscanned i (shown old) (Limit Entries n)
    ⊎ IsUnlisted i (shown old) (Limit Entries n))
CauseOf i old new (Bundled id path) = IsUnlisted i (shown old) (Bundled id path)
CauseOf i old new (DigestClash at) = Clashed old.registry.tree at old.store new.store × IsUnfetched i (shown old) (DigestClash at)
CauseOf i old new ProjectFault = Rose old.project.faults new.project.faults
CauseOf i old new StoreFault = Rose old.store.faults new.store.faults × (IsUnfetched i (shown old) StoreFault ⊎ ((b : Build) × IsReached i old b × ((at : List ℕ) × IsAskedFor b.plan old.project.tree at)))
CauseOf i old new RegistryFault = Rose old.registry.faults new.registry.faults
CauseOf i old new SinkFault = Rose old.out.faults new.out.faults × ((b : Build) × IsReached i old b)
CauseOf i old new (NotYet text) =
    IsUnspaced i (shown old) (NotYet text)
    ⊎ (IsUnread i (shown old) (NotYet text)
    ⊎ (IsDisplaced i (shown old) (NotYet text)
    ⊎ (IsKept i (shown old) (NotYet text)
    ⊎ IsUngraphed i (shown old) (NotYet text))))
