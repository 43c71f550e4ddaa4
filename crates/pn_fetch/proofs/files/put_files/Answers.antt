use Rattle.std.proofs.Common.{◌≡◌, ◌+◌, ℕ, List, [], ◌∷◌, ◌++◌, ◌∙◌, ap, arith, map, refl, suc, sym, subst, take}
use Rattle.std.specs.Prelude.{drop}
use Rattle.std.specs.List.{All, Contains}
use Rattle.std.proofs.lemmas.List.{take_all}
use Rattle.std.proofs.lemmas.List.Elements.{All-nil}
use Rattle.std.proofs.lemmas.Result.{err_from_is_err_and}
use Rattle.pn_text.proofs.Members.{here}
use Rattle.pn_text.specs.Path.{Path}
use Rattle.pn_fs.proofs.SeenLemmas.{gave_at_most}
use Rattle.pn_store.specs.Held.{IsHeld}
use Rattle.pn_fetch.specs.Puts.{WasPut, bytes_at, places_of}
use Rattle.pn_fetch.proofs.PlacesLemmas.{below, bytes_front, bytes_more, files_cut, files_more, gave_end, gave_front, gave_on}
use Rattle.pn_fetch.proofs.PutsRefusedLemmas.{all_were_then, All-one}
use Rattle.pn_fetch.specs.Listings.{IsFilePut, path_of}
use Rattle.pn_fetch.proofs.FetchesLemmas.{fetches_next, fetches_none, refused_on}
use Rattle.pn_fetch.proofs.IsListingOfLemmas.{each_more, paths_more}
use Rattle.pn_fetch.proofs.IsStoredLemmas.{all_put_on}
use Rattle.pn_fetch.proofs.files.put_files.Goals as goal

pub loop-path-init : goal.loop-path-init
loop-path-init g c =
    let store = g.D.StoreDisk.seen in
    let source = g.R.ReadFs.seen in
    let put = IsFilePut (source c.args.registry.now).tree c.args.one.now.folder (store c.args.disk.now) in
    record {
      claim = refl;
      paths = ap (map path_of) c.new-all.ensures.items;
      put = subst (All put) (sym c.new-all.ensures.items) (All-nil put);
      was = All-nil (WasPut (source c.args.registry.now).tree (store c.args.disk.now) (store c.args.disk.now));
      gave = λ t told. gave_at_most (source c.args.registry.now) 0 0;
      fetches = fetches_none c.grew_law.ensures c.claims_law.ensures (c.args.one.now ∷ []) c.args.claim.now (source c.args.registry.now) (store c.args.disk.now) c.requires.held;
    }

pub put_one-requires : goal.put_one-requires
put_one-requires g c =
    let inv = c.loop-path.invariant in
    let p = c.args.one.now in
    let path = c.path-item.result in
    let among = subst (λ l. Contains l path) c.as_slice-paths.ensures.value (c.loop-path.path-index, c.loop-path-test.true, sym c.path-item.is) in
    record {
      held = subst (λ k. IsHeld (g.D.StoreDisk.seen c.loop-path.disk) k) (sym inv.claim) inv.fetches.works.held;
      among = among;
      stands = λ t told. c.requires.stand t (sym inv.fetches.registry.tree ∙ told) p path (here p []) among;
      short = c.requires.sound.short path among;
    }

pub loop-path-preserved : goal.loop-path-preserved
loop-path-preserved g c =
    let store = g.D.StoreDisk.seen in
    let source = g.R.ReadFs.seen in
    let inv = c.loop-path.invariant in
    let p = c.args.one.now in
    let path = c.path-item.result in
    let digest = c.in_ok-digest.digest in
    let old = (source c.args.registry.now).tree in
    let mid = store c.loop-path.disk in
    let new = store c.put_one.new.disk in
    let paths = c.as_slice-paths.result.now in
    let places_to : ℕ → List Path = λ k. map (λ f. f ++ p.folder) (take k paths) in
    record {
      claim = c.put_one.ensures.claim ∙ inv.claim;
      paths = paths_more c.as_slice-paths.result.now c.loop-path.path-index path digest c.loop-path.all.items c.add.new.all.items c.loop-path-test.true c.path-item.is c.in_ok-add.ensures inv.paths;
      put = each_more (IsFilePut old p.folder new) c.loop-path.all.items c.add.new.all.items (path, digest) c.in_ok-add.ensures
          (all_put_on c.grew_law.ensures old p.folder mid new c.put_one.ensures.fetches.works.grew c.loop-path.all.items inv.put)
          (subst (λ r. IsFilePut r p.folder new (path, digest)) inv.fetches.registry.tree c.in_ok-digest.ensures.put);
      was = all_were_then c.grew_law.ensures c.was_law.ensures old (source c.loop-path.registry).tree (store c.args.disk.now) mid new (places_to c.loop-path.path-index) ((path ++ p.folder) ∷ []) (places_to (c.loop-path.path-index + 1))
          inv.fetches.registry.tree inv.fetches.works.grew c.put_one.ensures.fetches.works.grew (files_more p.folder paths c.loop-path.path-index path c.loop-path-test.true c.path-item.is) inv.was (All-one (WasPut (source c.loop-path.registry).tree mid new) (path ++ p.folder) c.in_ok-digest.ensures.was);
      gave = gave_on (source c.args.registry.now) (source c.loop-path.registry) (source c.put_one.new.registry) (places_to c.loop-path.path-index) ((path ++ p.folder) ∷ []) (places_to (c.loop-path.path-index + 1)) inv.fetches.registry.tree inv.gave c.put_one.ensures.gave
          (λ t. bytes_more t (places_to (c.loop-path.path-index + 1)) (places_to c.loop-path.path-index) ((path ++ p.folder) ∷ []) (files_more p.folder paths c.loop-path.path-index path c.loop-path-test.true c.path-item.is));
      fetches = fetches_next c.grew_law.ensures c.claims_law.ensures (p ∷ []) c.args.claim.now c.loop-path.claim (source c.args.registry.now) (source c.loop-path.registry) (source c.put_one.new.registry) (store c.args.disk.now) mid new
          inv.claim inv.fetches c.put_one.ensures.fetches;
    }

pub returns-in_err-digest-clause-fetches : goal.returns-in_err-digest-clause-fetches
returns-in_err-digest-clause-fetches g c =
    let store = g.D.StoreDisk.seen in
    let source = g.R.ReadFs.seen in
    let inv = c.loop-path.invariant in
    fetches_next c.grew_law.ensures c.claims_law.ensures (c.args.one.now ∷ []) c.args.claim.now c.loop-path.claim (source c.args.registry.now) (source c.loop-path.registry) (source c.put_one.new.registry) (store c.args.disk.now) (store c.loop-path.disk) (store c.put_one.new.disk)
    inv.claim inv.fetches c.put_one.ensures.fetches

pub returns-in_err-digest-clause-refused : goal.returns-in_err-digest-clause-refused
returns-in_err-digest-clause-refused g c =
    let store = g.D.StoreDisk.seen in
    let source = g.R.ReadFs.seen in
    let inv = c.loop-path.invariant in
    let one = c.args.one.now in
    let path = c.path-item.result in
    let k = c.loop-path.path-index in
    let paths = c.as_slice-paths.result.now in
    let place : Path → Path = λ f. f ++ one.folder in
    let cut : places_of one ≡ map place (take k paths) ++ ((path ++ one.folder) ∷ [] ++ map place (drop (suc k) paths)) =
    ap (map place) (sym c.as_slice-paths.ensures.value) ∙ files_cut one.folder paths k path c.loop-path-test.true c.path-item.is in
    let p = err_from_is_err_and c.from_residual.result c.from_residual.ensures.1 in
    rw (p.1, p.2) (refused_on c.grew_law.ensures c.was_law.ensures (one ∷ []) (places_of one) (map place (take k paths)) ((path ++ one.folder) ∷ []) (map place (drop (suc k) paths)) c.args.claim.now (source c.args.registry.now) (source c.loop-path.registry) (source c.put_one.new.registry)
    (store c.args.disk.now) (store c.loop-path.disk) (store c.put_one.new.disk) _ cut inv.fetches c.put_one.ensures.fetches.works.grew inv.was c.in_err-digest.ensures.refused)

pub returns-in_err-add-clause-fetches : goal.returns-in_err-add-clause-fetches
returns-in_err-add-clause-fetches g c =
    let store = g.D.StoreDisk.seen in
    let source = g.R.ReadFs.seen in
    let inv = c.loop-path.invariant in
    fetches_next c.grew_law.ensures c.claims_law.ensures (c.args.one.now ∷ []) c.args.claim.now c.loop-path.claim (source c.args.registry.now) (source c.loop-path.registry) (source c.put_one.new.registry) (store c.args.disk.now) (store c.loop-path.disk) (store c.put_one.new.disk)
    inv.claim inv.fetches c.put_one.ensures.fetches

pub returns-in_err-digest-clause-gave : goal.returns-in_err-digest-clause-gave
returns-in_err-digest-clause-gave g c =
    let source = g.R.ReadFs.seen in
    let inv = c.loop-path.invariant in
    let one = c.args.one.now in
    let path = c.path-item.result in
    let k = c.loop-path.path-index in
    let paths = c.as_slice-paths.result.now in
    let place : Path → Path = λ f. f ++ one.folder in
    let cut = ap (map place) (sym c.as_slice-paths.ensures.value) ∙ files_cut one.folder paths k path c.loop-path-test.true c.path-item.is in
    gave_end (source c.args.registry.now) (source c.loop-path.registry) (source c.put_one.new.registry) (map place (take k paths)) ((path ++ one.folder) ∷ []) (places_of one) inv.fetches.registry.tree inv.gave c.put_one.ensures.gave
    (λ t. bytes_front t (places_of one) (map place (take k paths)) ((path ++ one.folder) ∷ []) (map place (drop (suc k) paths)) cut)

pub returns-in_err-add-clause-gave : goal.returns-in_err-add-clause-gave
returns-in_err-add-clause-gave g c =
    let source = g.R.ReadFs.seen in
    let inv = c.loop-path.invariant in
    let one = c.args.one.now in
    let path = c.path-item.result in
    let k = c.loop-path.path-index in
    let paths = c.as_slice-paths.result.now in
    let place : Path → Path = λ f. f ++ one.folder in
    let cut = ap (map place) (sym c.as_slice-paths.ensures.value) ∙ files_cut one.folder paths k path c.loop-path-test.true c.path-item.is in
    gave_end (source c.args.registry.now) (source c.loop-path.registry) (source c.put_one.new.registry) (map place (take k paths)) ((path ++ one.folder) ∷ []) (places_of one) inv.fetches.registry.tree inv.gave c.put_one.ensures.gave
    (λ t. bytes_front t (places_of one) (map place (take k paths)) ((path ++ one.folder) ∷ []) (map place (drop (suc k) paths)) cut)

pub returns-clause-was : goal.returns-clause-was
returns-clause-was g c =
    let store = g.D.StoreDisk.seen in
    let folder = c.args.one.now.folder in
    subst (All (WasPut (g.R.ReadFs.seen c.args.registry.now).tree (store c.args.disk.now) (store c.loop-path.disk)))
    (ap (below folder) (take_all c.loop-path.path-index c.as_slice-paths.result.now (omega (arith, c.loop-path-test.false)) ∙ c.as_slice-paths.ensures.value)) c.loop-path.invariant.was

pub returns-clause-gave : goal.returns-clause-gave
returns-clause-gave g c =
    let source = g.R.ReadFs.seen in
    let one = c.args.one.now in
    let files = take c.loop-path.path-index c.as_slice-paths.result.now in
    let all : files ≡ one.files.items = take_all c.loop-path.path-index c.as_slice-paths.result.now (omega (arith, c.loop-path-test.false)) ∙ c.as_slice-paths.ensures.value in
    gave_front (source c.args.registry.now) (source c.loop-path.registry) (below one.folder files) (places_of one) c.loop-path.invariant.gave (λ t. omega (arith, ap (λ (l : List Path). bytes_at t (below one.folder l)) all))
