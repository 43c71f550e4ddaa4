-- Lemmas on why the packages' files aren't in the store.
use Rattle.std.proofs.Common.{◌≡◌, ◌<◌, ◌≤◌, ℕ, List, refl, ap, subst, arith, length, Option, Some, None, inl, inr}
use Rattle.std.specs.Prelude.{IfSome}
use Rattle.pn_text.specs.declared.limits.TheConstants.{FILE_LIMIT}
use Rattle.pn_text.specs.Path.{Path}
use Rattle.pn_fs.specs.Seen.{Seen, Taken}
use Rattle.pn_fs.specs.Tree.{Tree, file}
use Rattle.pn_storecore.specs.Seen.{Seen as Stored}
use Rattle.pn_store.specs.Faults.{IsLong}
use Rattle.pn_store.specs.Puts.{IsSource}
use Rattle.pn_package.specs.declared.packages.Package.{Package}
use Rattle.std.specs.List.{All}
use Rattle.pn_collect.specs.Outline.{HaveFiles, IsMade}
use Rattle.pn_fetch.specs.Listings.{CanList}
use Rattle.pn_fetch.specs.Faults.{FetchRefused}
use Rattle.pn_fetch.specs.Steps.{IsPlaceOf}
use Rattle.pn_fetch.specs.declared.fault.FetchFault.{FetchFault}
use Rattle.pn_fetch.specs.declared.fault.FetchFault.TheVariants.{StoreFault, RegistryFault, NumbersFull, TooLarge, Clash, Memory}
use Rattle.pn_fetch.specs.Numbers.{IsReleased, LeavesOne, IsStuck as IsStuckFetch}
use Rattle.pn_fetch.proofs.PutsRefusedLemmas.{large_place, clash_place}
use Rattle.pn_fetch.proofs.TookOneLemmas.{leaves_released, leaves_wider}
use Rattle.pn_status.specs.declared.status.IntegrityWhy.TheVariants.{Stored as of_store}
use Rattle.pn_status.specs.declared.status.Which.TheVariants.{Path as PathLength, Numbers}
use Rattle.pn_status.specs.declared.status.Status.{Status}
use Rattle.pn_status.specs.declared.status.Status.TheVariants as status
use Rattle.pn_cmd.specs.World.{World, trees_of, world}
use Rattle.pn_cmd.specs.Points.{Refuses}
use Rattle.pn_cmd.specs.Known.{Sources, Fetched}
use Rattle.pn_cmd.specs.Fetches.{IsStuck, Unfetched, fetch_status}
use Rattle.pn_cmd.specs.Plans.{TooLong}
use Rattle.pn_cmd.specs.Chain.{fetched_at, prepared}

-- a told registry has no package's file past the limit
too_long : (t : Tree) (packages : List Package) (n : ℕ) → HaveFiles t packages → FILE_LIMIT < n → ((q : Path) × IsPlaceOf packages q × IsLong (t q) n) → ⊥
too_long t packages n files past h =
    let place = h.1 in
    let p = place.0 in
    let f = place.2.0 in
    let long = h.2 in
    let short : length long.0 ≤ FILE_LIMIT = (files p place.1).short f long.0 place.2.1 (subst (λ (q : Path). t q ≡ Some (file long.0)) place.2.2 long.1) in
    omega (arith, short, past, long.2)

untold : (registry : Option Tree) (packages : List Package) (n : ℕ) → IfSome registry (λ r. HaveFiles r packages) → FILE_LIMIT < n → IfSome registry (λ t. (q : Path) × IsPlaceOf packages q × IsLong (t q) n) → registry ≡ None
untold None packages n files past h = refl
untold (Some t) packages n files past h = absurd (too_long t packages n files past h)

own_bytes : (registry : Option Tree) (q : Path) (stored own : List ℕ) → IfSome registry (λ r. (r q ≡ Some (file own)) × (stored ≡ own → ⊥)) → IsSource registry q own
own_bytes None q stored own h = tt
own_bytes (Some r) q stored own h = h.0

-- the status of a refusal has its cause
pub fetch_refused : (fault : FetchFault) (packages : List Package) (project old new : Seen) (store later : Stored) (out : Taken) → IfSome old.tree (λ r. HaveFiles r packages) → FetchRefused packages old new store later fault
    → Refuses (Unfetched packages) (world project old store out) (world project new later out) (fetch_status fault)
fetch_refused StoreFault packages project old new store later out files h = (h, tt)
fetch_refused RegistryFault packages project old new store later out files h = (h, tt)
fetch_refused NumbersFull packages project old new store later out files h = (h, refl)
fetch_refused (TooLarge n) packages project old new store later out files h = let l = large_place packages old store later n h in (l.0, untold old.tree packages n files l.0 l.1)
fetch_refused (Clash at) packages project old new store later out files h =
    let l = clash_place packages old store later at h in
    let c = l.2 in (
      record { path = l.0; stored = c.stored; own = c.own; first = c.first; second = c.second; source = c.source; stood = c.stood },
      record { path = l.0; place = l.1; bytes = c.own; digest = c.second; from = own_bytes old.tree l.0 c.stored c.own c.source },
    )
fetch_refused Memory packages project old new store later out files h = tt

-- the plan's refusal, after the packages were fetched
pub planned_refuses : (k : Sources) (f : Fetched) (old new w : World) (s : Status) → fetched_at.Finds k (trees_of old) f → Refuses (TooLong f) w w s → Refuses (prepared.Cause k) old new s
planned_refuses k f old new w status.Memory found h = tt
planned_refuses k f old new w (status.Limit PathLength n) found h = inr (f, found, h)
planned_refuses k f old new w status.ProjectFault found h = absurd h.1
planned_refuses k f old new w status.StoreFault found h = absurd h.1
planned_refuses k f old new w (status.Integrity (of_store at other)) found h = absurd h.1
planned_refuses k f old new w (status.DigestClash at) found h = absurd h.1
planned_refuses k f old new w (status.Limit Numbers n) found h = absurd h.1
planned_refuses k f old new w status.RegistryFault found h = absurd h.1
planned_refuses k f old new w status.SinkFault found h = absurd h.1
planned_refuses k f old new w s found h = absurd h

-- a number stays taken for the same cause
pub stuck_status : (registry : Option Tree) (packages : List Package) (old new : Stored) (e : FetchFault) → LeavesOne (IsStuckFetch registry packages old new e) old new → LeavesOne (IsStuck registry packages old new (fetch_status e)) old new
stuck_status registry packages old new e h = leaves_wider (IsStuckFetch registry packages old new e) (IsStuck registry packages old new (fetch_status e)) old new (λ why. (e, refl, why)) h

-- a number that is free again isn't taken
pub left_of : (registry : Option Tree) (packages : List Package) (old new : Stored) (s : Status) → IsReleased old new → LeavesOne (IsStuck registry packages old new s) old new
left_of registry packages old new s h = leaves_released (IsStuck registry packages old new s) old new h

-- files of packages that were collected can be listed
pub can_list : (packages : List Package) → All IsMade packages → All CanList packages
can_list packages made k p within = let f = (made k p within).files in record { files = record { rising = f.rising; apart = f.apart; lines = f.lines }; short = f.short }
