use Rattle.std.proofs.Common.{◌≡◌, ℕ, List, refl}
use Rattle.pn_storecore.specs.declared.step.Place.{Place}
use Rattle.pn_storecore.specs.declared.step.StoreStep.TheVariants.{Append, Shard}
use Rattle.pn_storecore.specs.Held.{files_with, no_files}
use Rattle.pn_store.specs.Own.{IsPutStep, IsShard}
use Rattle.pn_store.proofs.MadeLemmas.{made_call}
use Rattle.pn_store.proofs.LeavesLemmas.{others_call}
use Rattle.pn_store.proofs.calls.shard.Goals as goal

no_shard : (place : Place) (first k n : ℕ) (more : List ℕ) → Append k n more ≡ Shard place first → ⊥
no_shard place first k n more h = cc h

pub returns-clause-left : goal.returns-clause-left
returns-clause-left g c b held =
    let seen = g.D.StoreDisk.seen in
    let d = c.shard in
    let one = seen c.args.disk.now in
    let two = seen d.new.self in
    let own = Shard c.args.place c.args.first in
    c.leaves_law.ensures one two own c.args.k (files_with no_files 0 b) (c.did_law.ensures.does one two own d.result d.ensures.kept d.ensures.step) tt held

pub returns-clause-made : goal.returns-clause-made
returns-clause-made g c =
    let seen = g.D.StoreDisk.seen in
    let d = c.shard in
    let one = seen c.args.disk.now in
    let two = seen d.new.self in
    let own = Shard c.args.place c.args.first in
    made_call (IsShard c.args.place c.args.first) one two own (c.did_law.ensures.does one two own d.result d.ensures.kept d.ensures.step) refl (λ k n a b h. absurd (no_shard c.args.place c.args.first k n a h))

pub returns-clause-works : goal.returns-clause-works
returns-clause-works g c =
    let seen = g.D.StoreDisk.seen in
    let k = c.args.k in
    let d = c.shard in
    let one = seen c.args.disk.now in
    let two = seen d.new.self in
    let own = Shard c.args.place c.args.first in
    let did = c.did_law.ensures.does one two own d.result d.ensures.kept d.ensures.step in
    record {
      held = (c.requires.0, c.leaves_law.ensures one two own k (files_with no_files 0 c.requires.0) did tt c.requires.1);
      others = others_call c.leaves_law.ensures c.claims_law.ensures one two own k did (λ j e. cc) (λ j apart. tt);
      own = made_call (IsPutStep k) one two own did tt (λ q n a b h. h);
      grew = c.grew_law.ensures.call one two own (λ j told. tt) did;
      later = d.ensures.cause.later;
    }
