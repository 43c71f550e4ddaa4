use Rattle.std.proofs.Common.{refl, subst, sym, map, List}
use Rattle.std.specs.Cmp.Lexicographic.{slice_cmp}
use Rattle.std.specs.List.Sorted.{IsStrictlySortedBy}
use Rattle.std.specs.Ordering.{nat_cmp}
use Rattle.std.specs.Prelude.{IfSome}
use Rattle.std.specs.List.{All}
use Rattle.pn_package.specs.declared.packages.Package.{Package}
use Rattle.pn_digest.specs.Listing.{Entry}
use Rattle.pn_collect.specs.Outline.{HaveFiles, package_id}
use Rattle.pn_layout.specs.Listed.{AreOfPackages}
use Rattle.pn_cmd.proofs.WrittenLemmas.{of_packages}
use Rattle.pn_fetch.specs.Listings.{AreListingsOf, CanList}
use Rattle.pn_cmd.specs.World.{world}
use Rattle.pn_cmd.specs.Points.{Refuses}
use Rattle.pn_cmd.specs.Known.{fetched_of, sources_of}
use Rattle.pn_cmd.specs.Fetches.{Unfetched}
use Rattle.pn_cmd.specs.Plans.{IsPlanned, TooLong}
use Rattle.pn_cmd.specs.Chain.{fetched_at, planned_at}
use Rattle.pn_cmd.proofs.FetchLemmas.{can_list, left_of, planned_refuses}
use Rattle.pn_cmd.proofs.PointLemmas.{first_refuses}
use Rattle.pn_cmd.proofs.prepare.prepare.Goals as goal

pub fetched-requires-clause-files : goal.fetched-requires-clause-files
fetched-requires-clause-files g c =
    subst (λ (l : List Package). IfSome (g.R.ReadFs.seen c.args.registry.now).tree (λ r. HaveFiles r l)) (sym c.as_slice-packages.ensures.value) c.requires.packages.2.files

pub fetched-requires-clause-sound : goal.fetched-requires-clause-sound
fetched-requires-clause-sound g c =
    subst (All CanList) (sym c.as_slice-packages.ensures.value) (can_list c.args.gathered.now.packages.items c.requires.packages.2.made)

pub plan-requires-clause-listings : goal.plan-requires-clause-listings
plan-requires-clause-listings g c =
    let registry = (g.R.ReadFs.seen c.args.registry.now).tree in
    let packages = c.as_slice-packages.result.now in
    let sorted : IsStrictlySortedBy (slice_cmp nat_cmp) (map package_id packages) = subst (λ (l : List Package). IsStrictlySortedBy (slice_cmp nat_cmp) (map package_id l)) (sym c.as_slice-packages.ensures.value) c.requires.packages.2.sorted in
    subst (AreOfPackages packages) (sym c.as_slice.ensures.value) (of_packages registry packages c.in-Ok.listings.items sorted c.in-Ok.ensures.listings)

pub returns-in-Err-clause-refused : goal.returns-in-Err-clause-refused
returns-in-Err-clause-refused g c project out said plain is =
    let r = g.R.ReadFs.seen in
    let d = g.D.StoreDisk.seen in
    let old = world project (r c.args.registry.now) (d c.args.store.now) out in
    let new = world project (r c.fetched.new.registry) (d c.fetched.new.store) out in
    let s = c.in-Err.status in
    first_refuses fetched_at planned_at (sources_of c.args.place.now said plain c.args.gathered.now.packages.items) old new s
    (subst (λ (l : List Package). Refuses (Unfetched l) old new s) c.as_slice-packages.ensures.value (c.in-Err.ensures.refused project out))

pub returns-in-Ok-plan-clause-ready : goal.returns-in-Ok-plan-clause-ready
returns-in-Ok-plan-clause-ready g c project said plain is =
    let registry = (g.R.ReadFs.seen c.args.registry.now).tree in
    let place = c.args.place.now in
    let items = c.args.gathered.now.packages.items in
    let listings = c.in-Ok.listings.items in
    let plan = c.in-Ok-plan.plan in
    record {
      value = fetched_of place said plain items listings;
      first = record { value = listings; found = subst (λ (l : List Package). AreListingsOf registry l listings) c.as_slice-packages.ensures.value c.in-Ok.ensures.listings; is = refl };
      rest = record { value = plan; found = subst (λ (l : List Package). IsPlanned (fetched_of place said plain l listings) plan) c.as_slice-packages.ensures.value (subst (λ (ls : List (List Entry)). IsPlanned (fetched_of place said plain c.as_slice-packages.result.now ls) plan) c.as_slice.ensures.value (c.in-Ok-plan.ensures.planned said plain is)); is = refl };
    }

pub returns-in-Err-plan-clause-refused : goal.returns-in-Err-plan-clause-refused
returns-in-Err-plan-clause-refused g c project out said plain is =
    let r = g.R.ReadFs.seen in
    let d = g.D.StoreDisk.seen in
    let place = c.args.place.now in
    let items = c.args.gathered.now.packages.items in
    let listings = c.in-Ok.listings.items in
    let old = world project (r c.args.registry.now) (d c.args.store.now) out in
    let new = world project (r c.fetched.new.registry) (d c.fetched.new.store) out in
    let s = c.in-Err-plan.status in
    planned_refuses (sources_of place said plain items) (fetched_of place said plain items listings) old new old s
    (record { value = listings; found = subst (λ (l : List Package). AreListingsOf (r c.args.registry.now).tree l listings) c.as_slice-packages.ensures.value c.in-Ok.ensures.listings; is = refl })
    (subst (λ (l : List Package). Refuses (TooLong (fetched_of place said plain l listings)) old old s) c.as_slice-packages.ensures.value
    (subst (λ (ls : List (List Entry)). Refuses (TooLong (fetched_of place said plain c.as_slice-packages.result.now ls)) old old s) c.as_slice.ensures.value (c.in-Err-plan.ensures.refused said plain old is)))

pub returns-in-Err-plan-clause-left : goal.returns-in-Err-plan-clause-left
returns-in-Err-plan-clause-left g c = left_of (g.R.ReadFs.seen c.args.registry.now).tree c.args.gathered.now.packages.items (g.D.StoreDisk.seen c.args.store.now) (g.D.StoreDisk.seen c.fetched.new.store) c.in-Err-plan.status c.in-Ok.ensures.released
