use Rattle.std.proofs.Common.{◌≡◌, ◌∙◌, ◌<◌, List, ap, get_or, length, sym, subst}
use Rattle.std.specs.Prelude.{IsTrue}
use Rattle.pn_text.specs.Path.{is_part}
use Rattle.pn_deppath.specs.Folders.{folder_name}
use Rattle.pn_lock.specs.declared.lists.LockSnapshot.{LockSnapshot}
use Rattle.pn_lock.specs.Locks.{paths_of}
use Rattle.pn_lock_layout.specs.Folders.{near_at, near_home}
use Rattle.pn_lock_layout.proofs.DirLemmas.{dir_of, dir_part}
use Rattle.pn_lock_layout.proofs.LockLemmas.{snapshot_at}
use Rattle.pn_lock_layout.proofs.StepLemmas.{dir_here, taken_by}
use Rattle.pn_lock_layout.proofs.homes.homes_of.Goals as goal

pub home-requires-clause-dir : goal.home-requires-clause-dir
home-requires-clause-dir c =
    let l = c.args.lock.now in
    let paths = paths_of l.snapshots in
    let s = c.snapshot-item.result in
    let e = c.snapshots-snapshot-items.ensures in
    let is : c.as_str-in-loop-n.result.now ≡ folder_name paths s.path =
    c.as_str-in-loop-n.ensures ∙ dir_here (folder_name paths) l.snapshots c.snapshots-snapshot-items.result.now c.args.dirs.now c.loop-n.n s c.index-dirs-n.result e.list c.requires.dirs c.loop-n-test.true c.snapshot-item.is c.index-dirs-n.is in
    subst (λ t. IsTrue (is_part t)) (sym is) (dir_part (folder_name paths s.path) (dir_of paths s.path (snapshot_at l c.snapshots-snapshot-items.result.now c.loop-n.n s e.kept e.list c.loop-n-test.true c.snapshot-item.is).path))

pub loop-n-preserved : goal.loop-n-preserved
loop-n-preserved c =
    let l = c.args.lock.now in
    let paths = paths_of l.snapshots in
    let s = c.snapshot-item.result in
    let n = c.loop-n.n in
    let e = c.snapshots-snapshot-items.ensures in
    let dir : c.as_str-in-loop-n.result.now ≡ folder_name paths s.path =
    c.as_str-in-loop-n.ensures ∙ dir_here (folder_name paths) l.snapshots c.snapshots-snapshot-items.result.now c.args.dirs.now n s c.index-dirs-n.result e.list c.requires.dirs c.loop-n-test.true c.snapshot-item.is c.index-dirs-n.is in
    let path : c.as_str.result.now ≡ s.path = c.as_str.ensures in
    let within : n < length l.snapshots = subst (λ (xs : List LockSnapshot). n < length xs) e.list c.loop-n-test.true in
    taken_by (near_home paths c.args.root.now c.args.store.now) (λ (t : LockSnapshot). t.path) l.snapshots n s c.in_ok-one.one c.loop-n.all.items c.push.new.self.items within (c.snapshot-item.is ∙ ap (λ (xs : List LockSnapshot). get_or xs n s) e.list)
    (c.in_ok-one.ensures ∙ (λ i. near_at c.args.root.now c.args.store.now (dir i) (path i))) c.in_ok-push.ensures.items c.loop-n.invariant
