use Rattle.std.proofs.Common.{[], ◌∷◌, ◌++◌, sym, subst}
use Rattle.pn_text.specs.Path.{Path}
use Rattle.pn_fs.specs.Tree.{IsFile}
use Rattle.pn_store.specs.Puts.{IsSource}
use Rattle.pn_text.proofs.Members.{here}
use Rattle.pn_fetch.specs.Faults.{PlacesRefused}
use Rattle.pn_fetch.specs.Puts.{WasPut}
use Rattle.pn_fetch.specs.Steps.{IsPlaceOf}
use Rattle.pn_fetch.proofs.FetchesLemmas.{at_most, fetches_file, fetches_none, fetches_refused}
use Rattle.pn_fetch.proofs.PutsRefusedLemmas.{refused_file, was_put}
use Rattle.pn_fetch.proofs.files.put_one.Goals as goal

pub put_file-requires-clause-file : goal.put_file-requires-clause-file
put_file-requires-clause-file g c = λ t told. subst (IsFile t) (sym c.in_ok-at.ensures) (c.requires.stands t told)

pub returns-in_err-at-clause-fetches : goal.returns-in_err-at-clause-fetches
returns-in_err-at-clause-fetches g c =
    fetches_none c.grew_law.ensures c.claims_law.ensures (c.args.one.now ∷ []) c.args.claim.now (g.R.ReadFs.seen c.args.registry.now) (g.D.StoreDisk.seen c.args.disk.now) c.requires.held

pub returns-in-Ok-clause-put : goal.returns-in-Ok-clause-put
returns-in-Ok-clause-put g c =
    let put = c.in-Ok.ensures.put in
    record {
      digest = record {
        bytes = put.bytes;
        digest = put.digest;
        short = put.short;
        from = subst (λ q. IsSource (g.R.ReadFs.seen c.args.registry.now).tree q put.bytes) {y = c.args.path.now ++ c.args.one.now.folder} c.in_ok-at.ensures put.from;
      };
      stands = put.stands;
    }

pub returns-in-Ok-clause-fetches : goal.returns-in-Ok-clause-fetches
returns-in-Ok-clause-fetches g c =
    let put = c.in-Ok.ensures.put in
    let p = c.args.one.now in
    let place : IsPlaceOf (p ∷ []) c.in_ok-at.at = (p, here p [], (c.args.path.now, c.requires.among, c.in_ok-at.ensures)) in
    fetches_file p c.args.claim.now (g.R.ReadFs.seen c.args.registry.now) (g.R.ReadFs.seen c.put_file.new.from) (g.D.StoreDisk.seen c.args.disk.now) (g.D.StoreDisk.seen c.put_file.new.disk) c.in-Ok.put.digest
    (c.in_ok-at.at, place, (put.bytes, put.from, put.digest)) c.put_file.ensures.works c.in-Ok.ensures.published c.put_file.ensures.source

pub returns-clause-fetches : goal.returns-clause-fetches
returns-clause-fetches g c =
    let p = c.args.one.now in
    let place : IsPlaceOf (p ∷ []) c.in_ok-at.at = (p, here p [], (c.args.path.now, c.requires.among, c.in_ok-at.ensures)) in
    fetches_refused p c.args.claim.now c.in_ok-at.at (g.R.ReadFs.seen c.args.registry.now) (g.R.ReadFs.seen c.put_file.new.from) (g.D.StoreDisk.seen c.args.disk.now) (g.D.StoreDisk.seen c.put_file.new.disk)
    place c.put_file.ensures.works (at_most (g.R.ReadFs.seen c.args.registry.now).tree c.in_ok-at.at c.args.claim.now (g.D.StoreDisk.seen c.args.disk.now) (g.D.StoreDisk.seen c.put_file.new.disk) c.in-Err.fault c.in-Err.ensures.refused) c.put_file.ensures.source

pub returns-in-Ok-clause-was : goal.returns-in-Ok-clause-was
returns-in-Ok-clause-was g c =
    let put = c.in-Ok.ensures.put in
    let r = (g.R.ReadFs.seen c.args.registry.now).tree in
    let old = g.D.StoreDisk.seen c.args.disk.now in
    let new = g.D.StoreDisk.seen c.put_file.new.disk in
    subst (WasPut r old new) {y = c.args.path.now ++ c.args.one.now.folder} c.in_ok-at.ensures (was_put c.grew_law.ensures c.was_law.ensures r c.in_ok-at.at old new c.in-Ok.put put)

pub returns-clause-refused : goal.returns-clause-refused
returns-clause-refused g c =
    let from = g.R.ReadFs.seen c.args.registry.now in
    let gone = g.R.ReadFs.seen c.put_file.new.from in
    let old = g.D.StoreDisk.seen c.args.disk.now in
    let new = g.D.StoreDisk.seen c.put_file.new.disk in
    subst (λ (q : Path). PlacesRefused (q ∷ []) from gone old new c.of_put.result) {y = c.args.path.now ++ c.args.one.now.folder} c.in_ok-at.ensures (subst (PlacesRefused (c.in_ok-at.at ∷ []) from gone old new) (sym c.of_put.ensures) (refused_file c.in_ok-at.at from gone old new c.in-Err.fault c.in-Err.ensures.fault))
