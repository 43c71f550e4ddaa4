use Rattle.std.proofs.Common.{◌∷◌, ◌+◌, ap, drop, suc, sym}
use Rattle.pn_lock.specs.declared.lists.LockSnapshot.{LockSnapshot}
use Rattle.pn_lock_make.specs.Snapshots.{snapshots_from}
use Rattle.pn_lock_make.specs.Names.{IsNamedSnapshot}
use Rattle.pn_lock_make.proofs.StepLemmas.{all_more, numbered_step}
use Rattle.pn_lock_make.proofs.snapshots.as_numbered.Goals as goal

pub loop-n-preserved : goal.loop-n-preserved
loop-n-preserved c =
    let i = c.args.instances.now in
    let f = snapshots_from c.args.plain.now.packages i.packages i.links c.args.ranks.now c.args.passed.now in
    let paths = c.args.paths.now in
    let n = c.loop-n.n in
    record {
      made = numbered_step f paths n c.index-paths-n.result c.in_ok-one.one c.loop-n.all.items c.push.new.self.items (f 0 paths) c.loop-n-test.true c.index-paths-n.is
          (ap (λ (s : LockSnapshot). s ∷ f (suc n) (drop (n + 1) paths)) (sym c.in_ok-one.ensures.made)) c.in_ok-push.ensures.items c.loop-n.invariant.made;
      named = all_more IsNamedSnapshot c.loop-n.all.items c.push.new.self.items c.in_ok-one.one c.in_ok-push.ensures.items c.loop-n.invariant.named c.in_ok-one.ensures.named;
    }
