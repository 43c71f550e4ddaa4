use Rattle.std.proofs.Common.{arith, sym, subst}
use Rattle.pn_fs.proofs.SeenLemmas.{keeps_same}
use Rattle.pn_storecore.specs.Held.{IsFree}
use Rattle.pn_store.proofs.MadeLemmas.{made_both}
use Rattle.pn_text.proofs.Results.{if_err, if_ok, on_ok}
use Rattle.pn_fetch.specs.Numbers.{IsFreeUnless, IsStuck, IsUnreleased, LeavesOne}
use Rattle.pn_fetch.specs.Puts.{places}
use Rattle.pn_fetch.specs.Steps.{IsFetchStep}
use Rattle.pn_fetch.specs.declared.fault.FetchFault.{FetchFault}
use Rattle.pn_fetch.proofs.IsFetchStepLemmas.{claims_made}
use Rattle.pn_fetch.proofs.PutsRefusedLemmas.{all_were_behind, refused_between, refused_fetch}
use Rattle.pn_fetch.proofs.TookOneLemmas.{stuck_behind, took_left, took_one, unless_wider}
use Rattle.pn_fetch.proofs.WasListedLemmas.{all_listed_between}
use Rattle.pn_fetch.proofs.fetched.fetch.Goals as goal

pub returns-in-Ok-clause-own : goal.returns-in-Ok-clause-own
returns-in-Ok-clause-own g c =
    let store = g.D.StoreDisk.seen in
    let r = (g.R.ReadFs.seen c.args.registry.now).tree in
    let ps = c.args.packages.now in
    let a = store c.args.disk.now in
    let b = store c.claim.new.disk in
    made_both (IsFetchStep r ps) a b (store c.put_under.new.disk) (claims_made r ps a b c.claim.ensures.only.own) c.put_under.ensures.ends.own

pub returns-in-Ok-clause-free : goal.returns-in-Ok-clause-free
returns-in-Ok-clause-free g c =
    let store = g.D.StoreDisk.seen in
    let new = store c.put_under.new.disk in
    on_ok c.put_under.result (took_one c.claims_law.ensures (IsFree new) c.in-Ok.held (store c.args.disk.now) (store c.claim.new.disk) new c.in-Ok.ensures.claimed c.claim.ensures.only c.put_under.ensures.ends.others) c.put_under.ensures.free

pub returns-in-Ok-clause-put : goal.returns-in-Ok-clause-put
returns-in-Ok-clause-put g c =
    let store = g.D.StoreDisk.seen in
    on_ok c.put_under.result (all_were_behind c.grew_law.ensures c.was_law.ensures (g.R.ReadFs.seen c.args.registry.now).tree (store c.args.disk.now) (store c.claim.new.disk) (store c.put_under.new.disk) (places c.args.packages.now) c.claim.ensures.grew) c.put_under.ensures.put

pub returns-in-Ok-clause-listed : goal.returns-in-Ok-clause-listed
returns-in-Ok-clause-listed g c =
    let store = g.D.StoreDisk.seen in
    let new = store c.put_under.new.disk in
    if_ok c.put_under.result (λ v h. all_listed_between c.was_law.ensures (store c.args.disk.now) (store c.claim.new.disk) new new c.claim.ensures.grew (c.grew_law.ensures.none new) v.items h) c.put_under.ensures.listed

pub returns-in-Ok-clause-left : goal.returns-in-Ok-clause-left
returns-in-Ok-clause-left g c =
    let store = g.D.StoreDisk.seen in
    let r = (g.R.ReadFs.seen c.args.registry.now).tree in
    let ps = c.args.packages.now in
    let a = store c.args.disk.now in
    let b = store c.claim.new.disk in
    let new = store c.put_under.new.disk in
    let k = c.in-Ok.held in
    let left : (e : FetchFault) → IsFreeUnless (IsUnreleased r ps b new e) new k → IsFreeUnless (IsStuck r ps a new e) new k = λ e. unless_wider (IsUnreleased r ps b new e) (IsStuck r ps a new e) k new (stuck_behind r ps a b new e c.claim.ensures.later) in
    if_err c.put_under.result (λ e h. took_one c.claims_law.ensures (IsFreeUnless (IsStuck r ps a new e) new) k a b new c.in-Ok.ensures.claimed c.claim.ensures.only c.put_under.ensures.ends.others (left e h)) c.put_under.ensures.left

pub returns-in-Ok-clause-refused : goal.returns-in-Ok-clause-refused
returns-in-Ok-clause-refused g c =
    let store = g.D.StoreDisk.seen in
    let source = g.R.ReadFs.seen in
    let ps = c.args.packages.now in
    let from = source c.args.registry.now in
    let gone = source c.put_under.new.registry in
    let a = store c.args.disk.now in
    let b = store c.claim.new.disk in
    let d = store c.put_under.new.disk in
    if_err c.put_under.result (λ e h. refused_fetch ps from gone a d e (refused_between c.was_law.ensures (places ps) from from gone a b d d e (keeps_same from) c.claim.ensures.grew c.claim.ensures.later (c.grew_law.ensures.none d) (omega arith) h)) c.put_under.ensures.refused

pub returns-in-Err-clause-own : goal.returns-in-Err-clause-own
returns-in-Err-clause-own g c =
    let store = g.D.StoreDisk.seen in
    claims_made (g.R.ReadFs.seen c.args.registry.now).tree c.args.packages.now (store c.args.disk.now) (store c.claim.new.disk) c.claim.ensures.only.own

pub returns-in-Err-clause-left : goal.returns-in-Err-clause-left
returns-in-Err-clause-left g c =
    let store = g.D.StoreDisk.seen in
    let r = (g.R.ReadFs.seen c.args.registry.now).tree in
    let ps = c.args.packages.now in
    let a = store c.args.disk.now in
    let b = store c.claim.new.disk in
    subst (λ (e : FetchFault). LeavesOne (IsStuck r ps a b e) a b) (sym c.of_claim.ensures) (took_left r ps a b c.in-Err.fault c.in-Err.ensures.left c.claim.ensures.only c.in-Err.ensures.fault)
