use Rattle.std.proofs.Common.{refl, sym, subst, None}
use Rattle.pn_storecore.specs.declared.step.StoreStep.TheVariants.{DropTemp}
use Rattle.pn_storecore.specs.Held.{IsFree, no_files, Holds}
use Rattle.pn_store.proofs.HeldLemmas.{ok_of, err_of, freed_or_held, drops_call}
use Rattle.pn_store.proofs.LeavesLemmas.{others_call}
use Rattle.pn_store.proofs.claims.drop_folder.Goals as goal

pub returns-clause-free : goal.returns-clause-free
returns-clause-free g c =
    let seen = g.D.StoreDisk.seen in
    let d = c.drop_temp in
    ok_of (IsFree (seen d.new.self) c.args.k) d.result c.of_store.result c.of_store.ensures
    (c.holds_law.ensures.freed (seen c.args.disk.now) (seen d.new.self) c.args.k d.result d.ensures.kept d.ensures.step)

pub returns-clause-grew : goal.returns-clause-grew
returns-clause-grew g c =
    let seen = g.D.StoreDisk.seen in
    let d = c.drop_temp in
    let k = c.args.k in
    let one = seen c.args.disk.now in
    let two = seen d.new.self in
    let held = subst (Holds one k) (c.holds_law.ensures.emptied 0) c.requires in
    c.grew_law.ensures.call one two (DropTemp k None) (c.asks_law.ensures.drop_folder one k no_files held (λ n. refl)) (c.did_law.ensures.does one two (DropTemp k None) d.result d.ensures.kept d.ensures.step)

pub returns-clause-left : goal.returns-clause-left
returns-clause-left g c =
    let seen = g.D.StoreDisk.seen in
    let d = c.drop_temp in
    err_of _ d.result c.of_store.result c.of_store.ensures
    (freed_or_held c.holds_law.ensures (seen c.args.disk.now) (seen d.new.self) c.args.k d.result d.ensures.kept d.ensures.step c.requires)

pub returns-clause-others : goal.returns-clause-others
returns-clause-others g c =
    let seen = g.D.StoreDisk.seen in
    let d = c.drop_temp in
    let k = c.args.k in
    let one = seen c.args.disk.now in
    let two = seen d.new.self in
    others_call c.leaves_law.ensures c.claims_law.ensures one two (DropTemp k None) k (c.did_law.ensures.does one two (DropTemp k None) d.result d.ensures.kept d.ensures.step) (λ j e. cc) (λ j apart same. apart (sym same))

pub returns-clause-own : goal.returns-clause-own
returns-clause-own g c =
    let seen = g.D.StoreDisk.seen in
    let d = c.drop_temp in
    drops_call c.did_law.ensures (seen c.args.disk.now) (seen d.new.self) c.args.k None d.result d.ensures.kept d.ensures.step
