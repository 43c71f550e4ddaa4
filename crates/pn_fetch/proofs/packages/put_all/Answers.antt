use Rattle.std.proofs.Common.{◌≡◌, ◌+◌, List, [], ◌∙◌, ap, arith, refl, suc, sym, subst, take}
use Rattle.std.specs.Prelude.{drop}
use Rattle.std.specs.List.{All, Contains}
use Rattle.std.proofs.lemmas.List.{take_all}
use Rattle.std.proofs.lemmas.List.Elements.{All-contains, All-nil}
use Rattle.std.proofs.lemmas.Result.{err_from_is_err_and}
use Rattle.pn_fs.proofs.SeenLemmas.{gave_at_most}
use Rattle.pn_store.specs.Held.{IsHeld}
use Rattle.pn_package.specs.declared.packages.Package.{Package}
use Rattle.pn_fetch.specs.Listings.{AreListingsOf, CanList, IsListingOf, IsStored}
use Rattle.pn_fetch.specs.Puts.{WasListed, WasPut, bytes_at, places, places_of}
use Rattle.pn_fetch.proofs.PlacesLemmas.{bytes_front, bytes_more, gave_end, gave_front, gave_on, packages_cut, packages_more}
use Rattle.pn_fetch.proofs.PutsRefusedLemmas.{all_were_then}
use Rattle.pn_fetch.proofs.FetchesLemmas.{fetches_more, fetches_none, only_one, refused_on}
use Rattle.pn_fetch.proofs.IsListingOfLemmas.{each_more, listings_more}
use Rattle.pn_fetch.proofs.IsStoredLemmas.{all_stored_on}
use Rattle.pn_fetch.proofs.WasListedLemmas.{all_listed_between, listed_between}
use Rattle.pn_fetch.proofs.packages.put_all.Goals as goal

pub loop-one-init : goal.loop-one-init
loop-one-init g c =
    let store = g.D.StoreDisk.seen in
    let source = g.R.ReadFs.seen in
    record {
      claim = refl;
      listings = subst (AreListingsOf (source c.args.registry.now).tree []) (sym c.new-all.ensures.items) tt;
      stored = subst (All (IsStored (store c.args.disk.now))) (sym c.new-all.ensures.items) (All-nil (IsStored (store c.args.disk.now)));
      listed = subst (All (WasListed (store c.args.disk.now) (store c.args.disk.now))) (sym c.new-all.ensures.items) (All-nil (WasListed (store c.args.disk.now) (store c.args.disk.now)));
      was = All-nil (WasPut (source c.args.registry.now).tree (store c.args.disk.now) (store c.args.disk.now));
      gave = λ t told. gave_at_most (source c.args.registry.now) 0 0;
      fetches = fetches_none c.grew_law.ensures c.claims_law.ensures c.args.packages.now c.args.claim.now (source c.args.registry.now) (store c.args.disk.now) c.requires.held;
    }

pub put_package-requires : goal.put_package-requires
put_package-requires g c =
    let inv = c.loop-one.invariant in
    let p = c.one-item.result in
    let packages = c.args.packages.now in
    let among : Contains c.args.packages.now c.one-item.result = (c.loop-one.one-index, c.loop-one-test.true, sym c.one-item.is) in
    record {
      held = subst (IsHeld (g.D.StoreDisk.seen c.loop-one.disk)) (sym inv.claim) inv.fetches.works.held;
      stand = λ t told q f one file. c.requires.stand t (sym inv.fetches.registry.tree ∙ told) q f (only_one packages p among q one) file;
      sound = All-contains CanList packages p c.requires.sound among;
    }

pub loop-one-preserved : goal.loop-one-preserved
loop-one-preserved g c =
    let store = g.D.StoreDisk.seen in
    let source = g.R.ReadFs.seen in
    let inv = c.loop-one.invariant in
    let p = c.one-item.result in
    let packages = c.args.packages.now in
    let among : Contains c.args.packages.now c.one-item.result = (c.loop-one.one-index, c.loop-one-test.true, sym c.one-item.is) in
    let old = (source c.args.registry.now).tree in
    let first = store c.args.disk.now in
    let mid = store c.loop-one.disk in
    let new = store c.put_package.new.disk in
    let k = c.loop-one.one-index in
    let more = packages_more packages k p c.loop-one-test.true c.one-item.is in
    record {
      claim = c.put_package.ensures.claim ∙ inv.claim;
      listings = listings_more old packages c.loop-one.one-index p c.loop-one.all.items c.add.new.all.items c.in_ok-listing.listing c.loop-one-test.true c.one-item.is c.in_ok-add.ensures inv.listings
          (subst (λ r. IsListingOf r p c.in_ok-listing.listing) inv.fetches.registry.tree c.in_ok-listing.ensures.listing);
      stored = each_more (IsStored new) c.loop-one.all.items c.add.new.all.items c.in_ok-listing.listing c.in_ok-add.ensures
          (all_stored_on c.grew_law.ensures mid new c.put_package.ensures.fetches.works.grew c.loop-one.all.items inv.stored) c.in_ok-listing.ensures.stored;
      listed = each_more (WasListed first new) c.loop-one.all.items c.add.new.all.items c.in_ok-listing.listing c.in_ok-add.ensures
          (all_listed_between c.was_law.ensures first first mid new (c.grew_law.ensures.none first) c.put_package.ensures.fetches.works.grew c.loop-one.all.items inv.listed)
          (listed_between c.was_law.ensures first mid new new inv.fetches.works.grew (c.grew_law.ensures.none new) c.in_ok-listing.listing c.in_ok-listing.ensures.listed);
      was = all_were_then c.grew_law.ensures c.was_law.ensures old (source c.loop-one.registry).tree (store c.args.disk.now) mid new (places (take k packages)) (places_of p) (places (take (k + 1) packages))
          inv.fetches.registry.tree inv.fetches.works.grew c.put_package.ensures.fetches.works.grew more inv.was c.in_ok-listing.ensures.was;
      gave = gave_on (source c.args.registry.now) (source c.loop-one.registry) (source c.put_package.new.registry) (places (take k packages)) (places_of p) (places (take (k + 1) packages)) inv.fetches.registry.tree inv.gave c.put_package.ensures.gave
          (λ t. bytes_more t (places (take (k + 1) packages)) (places (take k packages)) (places_of p) more);
      fetches = fetches_more c.grew_law.ensures c.claims_law.ensures packages p among c.args.claim.now c.loop-one.claim (source c.args.registry.now) (source c.loop-one.registry) (source c.put_package.new.registry) (store c.args.disk.now) mid new
          inv.claim inv.fetches c.put_package.ensures.fetches;
    }

pub returns-in_err-listing-clause-fetches : goal.returns-in_err-listing-clause-fetches
returns-in_err-listing-clause-fetches g c =
    let store = g.D.StoreDisk.seen in
    let source = g.R.ReadFs.seen in
    let inv = c.loop-one.invariant in
    let among : Contains c.args.packages.now c.one-item.result = (c.loop-one.one-index, c.loop-one-test.true, sym c.one-item.is) in
    fetches_more c.grew_law.ensures c.claims_law.ensures c.args.packages.now c.one-item.result among c.args.claim.now c.loop-one.claim (source c.args.registry.now) (source c.loop-one.registry) (source c.put_package.new.registry) (store c.args.disk.now) (store c.loop-one.disk) (store c.put_package.new.disk)
    inv.claim inv.fetches c.put_package.ensures.fetches

pub returns-in_err-listing-clause-refused : goal.returns-in_err-listing-clause-refused
returns-in_err-listing-clause-refused g c =
    let store = g.D.StoreDisk.seen in
    let source = g.R.ReadFs.seen in
    let inv = c.loop-one.invariant in
    let q = c.one-item.result in
    let packages = c.args.packages.now in
    let k = c.loop-one.one-index in
    let cut = packages_cut packages k q c.loop-one-test.true c.one-item.is in
    let p = err_from_is_err_and c.from_residual.result c.from_residual.ensures.1 in
    rw (p.1, p.2) (refused_on c.grew_law.ensures c.was_law.ensures packages (places packages) (places (take k packages)) (places_of q) (places (drop (suc k) packages)) c.args.claim.now (source c.args.registry.now) (source c.loop-one.registry) (source c.put_package.new.registry)
    (store c.args.disk.now) (store c.loop-one.disk) (store c.put_package.new.disk) _ cut inv.fetches c.put_package.ensures.fetches.works.grew inv.was c.in_err-listing.ensures.refused)

pub returns-in_err-add-clause-fetches : goal.returns-in_err-add-clause-fetches
returns-in_err-add-clause-fetches g c =
    let store = g.D.StoreDisk.seen in
    let source = g.R.ReadFs.seen in
    let inv = c.loop-one.invariant in
    let among : Contains c.args.packages.now c.one-item.result = (c.loop-one.one-index, c.loop-one-test.true, sym c.one-item.is) in
    fetches_more c.grew_law.ensures c.claims_law.ensures c.args.packages.now c.one-item.result among c.args.claim.now c.loop-one.claim (source c.args.registry.now) (source c.loop-one.registry) (source c.put_package.new.registry) (store c.args.disk.now) (store c.loop-one.disk) (store c.put_package.new.disk)
    inv.claim inv.fetches c.put_package.ensures.fetches

pub returns-in_err-listing-clause-gave : goal.returns-in_err-listing-clause-gave
returns-in_err-listing-clause-gave g c =
    let source = g.R.ReadFs.seen in
    let inv = c.loop-one.invariant in
    let p = c.one-item.result in
    let packages = c.args.packages.now in
    let k = c.loop-one.one-index in
    gave_end (source c.args.registry.now) (source c.loop-one.registry) (source c.put_package.new.registry) (places (take k packages)) (places_of p) (places packages) inv.fetches.registry.tree inv.gave c.put_package.ensures.gave
    (λ t. bytes_front t (places packages) (places (take k packages)) (places_of p) (places (drop (suc k) packages)) (packages_cut packages k p c.loop-one-test.true c.one-item.is))

pub returns-in_err-add-clause-gave : goal.returns-in_err-add-clause-gave
returns-in_err-add-clause-gave g c =
    let source = g.R.ReadFs.seen in
    let inv = c.loop-one.invariant in
    let p = c.one-item.result in
    let packages = c.args.packages.now in
    let k = c.loop-one.one-index in
    gave_end (source c.args.registry.now) (source c.loop-one.registry) (source c.put_package.new.registry) (places (take k packages)) (places_of p) (places packages) inv.fetches.registry.tree inv.gave c.put_package.ensures.gave
    (λ t. bytes_front t (places packages) (places (take k packages)) (places_of p) (places (drop (suc k) packages)) (packages_cut packages k p c.loop-one-test.true c.one-item.is))

pub returns-clause-gave : goal.returns-clause-gave
returns-clause-gave g c =
    let source = g.R.ReadFs.seen in
    let packages = c.args.packages.now in
    let first = take c.loop-one.one-index packages in
    let all : first ≡ packages = take_all c.loop-one.one-index packages (omega (arith, c.loop-one-test.false)) in
    gave_front (source c.args.registry.now) (source c.loop-one.registry) (places first) (places packages) c.loop-one.invariant.gave (λ t. omega (arith, ap (λ (l : List Package). bytes_at t (places l)) all))

pub returns-clause-put : goal.returns-clause-put
returns-clause-put g c =
    let store = g.D.StoreDisk.seen in
    subst (λ (l : List Package). All (WasPut (g.R.ReadFs.seen c.args.registry.now).tree (store c.args.disk.now) (store c.loop-one.disk)) (places l))
    (take_all c.loop-one.one-index c.args.packages.now (omega (arith, c.loop-one-test.false))) c.loop-one.invariant.was
