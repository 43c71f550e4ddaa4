use Rattle.std.proofs.Common.{arith, sym, subst}
use Rattle.pn_fs.proofs.SeenLemmas.{keeps_same}
use Rattle.pn_fetch.proofs.FetchesLemmas.{fetches_end}
use Rattle.pn_fetch.proofs.IsStoredLemmas.{all_stored_on}
use Rattle.pn_fetch.specs.Faults.{release_fault}
use Rattle.pn_fetch.specs.Numbers.{IsFreeUnless, IsHeldBack, IsUnreleased}
use Rattle.pn_fetch.specs.Puts.{places}
use Rattle.pn_fetch.specs.declared.fault.FetchFault.{FetchFault}
use Rattle.pn_fetch.proofs.PutsRefusedLemmas.{all_were, refused_between, refused_either}
use Rattle.pn_fetch.proofs.TookOneLemmas.{held_unless, stuck_again, stuck_release, unless_wider}
use Rattle.pn_fetch.proofs.WasListedLemmas.{all_listed_between}
use Rattle.pn_fetch.proofs.packages.put_under.Goals as goal

pub returns-in-Ok-release-clause-stored : goal.returns-in-Ok-release-clause-stored
returns-in-Ok-release-clause-stored g c =
    let store = g.D.StoreDisk.seen in
    all_stored_on c.grew_law.ensures (store c.put_all.new.disk) (store c.release.new.disk) c.release.ensures.grew c.in-Ok.listings.items c.in-Ok.ensures.stored

pub returns-in-Ok-release-clause-put : goal.returns-in-Ok-release-clause-put
returns-in-Ok-release-clause-put g c =
    let store = g.D.StoreDisk.seen in
    all_were c.grew_law.ensures c.was_law.ensures (g.R.ReadFs.seen c.args.registry.now).tree (store c.args.disk.now) (store c.put_all.new.disk) (store c.release.new.disk) (places c.args.packages.now) c.release.ensures.grew c.in-Ok.ensures.put

pub returns-in-Ok-release-clause-listed : goal.returns-in-Ok-release-clause-listed
returns-in-Ok-release-clause-listed g c =
    let store = g.D.StoreDisk.seen in
    let a = store c.args.disk.now in
    all_listed_between c.was_law.ensures a a (store c.put_all.new.disk) (store c.release.new.disk) (c.grew_law.ensures.none a) c.release.ensures.grew c.in-Ok.listings.items c.in-Ok.ensures.listed

pub returns-in-Ok-release-clause-ends : goal.returns-in-Ok-release-clause-ends
returns-in-Ok-release-clause-ends g c =
    let store = g.D.StoreDisk.seen in
    let source = g.R.ReadFs.seen in
    let r = c.release.ensures in
    fetches_end c.grew_law.ensures c.claims_law.ensures c.args.packages.now c.args.claim c.put_all.new.claim (source c.args.registry.now) (source c.put_all.new.registry) (store c.args.disk.now) (store c.put_all.new.disk) (store c.release.new.disk)
    c.put_all.ensures.claim c.put_all.ensures.fetches r.others r.own r.grew r.later

pub returns-in-Err-release-clause-ends : goal.returns-in-Err-release-clause-ends
returns-in-Err-release-clause-ends g c =
    let store = g.D.StoreDisk.seen in
    let source = g.R.ReadFs.seen in
    let r = c.release.ensures in
    fetches_end c.grew_law.ensures c.claims_law.ensures c.args.packages.now c.args.claim c.put_all.new.claim (source c.args.registry.now) (source c.put_all.new.registry) (store c.args.disk.now) (store c.put_all.new.disk) (store c.release.new.disk)
    c.put_all.ensures.claim c.put_all.ensures.fetches r.others r.own r.grew r.later

pub returns-in-Err-release-clause-left : goal.returns-in-Err-release-clause-left
returns-in-Err-release-clause-left g c =
    let store = g.D.StoreDisk.seen in
    let r = (g.R.ReadFs.seen c.args.registry.now).tree in
    let ps = c.args.packages.now in
    let a = store c.args.disk.now in
    let b = store c.put_all.new.disk in
    let new = store c.release.new.disk in
    let all = c.in-Ok.listings.items in
    let fault = c.in-Err-release.fault in
    let stored = all_stored_on c.grew_law.ensures b new c.release.ensures.grew all c.in-Ok.ensures.stored in
    let why = stuck_release r ps a b new all fault c.put_all.ensures.fetches.works.later c.in-Ok.ensures.listings stored c.in-Err-release.ensures.fault in
    let left = held_unless c.put_all.new.claim new (IsUnreleased r ps a new (release_fault fault)) why c.in-Err-release.ensures.left in
    subst (λ (e : FetchFault). IsFreeUnless (IsUnreleased r ps a new e) new c.args.claim) (sym c.of_release.ensures) (subst (IsFreeUnless (IsUnreleased r ps a new (release_fault fault)) new) c.put_all.ensures.claim left)

pub returns-in-Err-clause-ends : goal.returns-in-Err-clause-ends
returns-in-Err-clause-ends g c =
    let store = g.D.StoreDisk.seen in
    let source = g.R.ReadFs.seen in
    let r = c.give_back.ensures in
    fetches_end c.grew_law.ensures c.claims_law.ensures c.args.packages.now c.args.claim c.put_all.new.claim (source c.args.registry.now) (source c.put_all.new.registry) (store c.args.disk.now) (store c.put_all.new.disk) (store c.give_back.new.disk)
    c.put_all.ensures.claim c.put_all.ensures.fetches r.others r.own r.grew r.later

pub returns-in-Err-clause-left : goal.returns-in-Err-clause-left
returns-in-Err-clause-left g c =
    let store = g.D.StoreDisk.seen in
    let source = g.R.ReadFs.seen in
    let from = source c.args.registry.now in
    let ps = c.args.packages.now in
    let a = store c.args.disk.now in
    let b = store c.put_all.new.disk in
    let new = store c.give_back.new.disk in
    let e = c.give_back.result in
    let why = stuck_again from.tree ps from (source c.put_all.new.registry) a b new c.in-Err.fault e c.put_all.ensures.fetches.works.later c.in-Err.ensures.refused c.give_back.ensures.answer in
    unless_wider (IsHeldBack b new e) (IsUnreleased from.tree ps a new e) c.args.claim new why (subst (IsFreeUnless (IsHeldBack b new e) new) c.put_all.ensures.claim c.give_back.ensures.left)

pub returns-in-Err-clause-refused : goal.returns-in-Err-clause-refused
returns-in-Err-clause-refused g c =
    let store = g.D.StoreDisk.seen in
    let source = g.R.ReadFs.seen in
    let all = places c.args.packages.now in
    let from = source c.args.registry.now in
    let gone = source c.put_all.new.registry in
    let a = store c.args.disk.now in
    let b = store c.put_all.new.disk in
    let new = store c.give_back.new.disk in
    let r = c.give_back.ensures in
    refused_either all from gone a new c.in-Err.fault c.give_back.result r.answer
    (refused_between c.was_law.ensures all from from gone a a b new c.in-Err.fault (keeps_same from) (c.grew_law.ensures.none a) (omega arith) r.grew r.later c.in-Err.ensures.refused)
