use Rattle.std.proofs.Common.{◌≡◌, ◌∙◌, ◌<◌, ◌^◌, ℕ, List, Bool, length, map, ap, arith, subst, sym}
use Rattle.std.specs.List.{All, filter}
use Rattle.pn_lock.specs.Locks.{locked}
use Rattle.pn_lock.specs.declared.lists.LockImporter.{LockImporter}
use Rattle.pn_lock.specs.declared.lists.LockSnapshot.{LockSnapshot}
use Rattle.pn_lock_prod.specs.Kept.{new_importer, new_snapshots, numbers_from, stays}
use Rattle.pn_lock_prod.specs.Places.{IsNumberedImporter, IsNumberedSnapshot}
use Rattle.pn_lock_prod.proofs.ProductionLemmas.{is_lock, numbers_count}
use Rattle.pn_lock_prod.proofs.RangeLemmas.{importers_numbered, snapshots_numbered}
use Rattle.pn_lock_prod.proofs.production.prod.Goals as goal

pub numbers-requires : goal.numbers-requires
numbers-requires c =
    let few : length c.args.lock.now.snapshots < 2 ^ 32 = c.snapshots-old.ensures.kept.snapshots_few in
    let count : length c.in_ok-marks.marks.items ≡ length c.args.lock.now.snapshots = c.in_ok-marks.ensures.count_is in
    let same : length c.deref.result.now ≡ length c.in_ok-marks.marks.items = ap length c.deref.ensures.value in
    omega (arith, few, count, same)

pub new_importers-requires : goal.new_importers-requires
new_importers-requires c =
    let numbers : length c.deref-2.result.now ≡ length c.args.lock.now.snapshots =
    ap length (c.deref-2.ensures.value ∙ c.in_ok-numbers.ensures) ∙ numbers_count 0 c.deref.result.now ∙ ap length c.deref.ensures.value ∙ c.in_ok-marks.ensures.count_is in
    subst (λ (is : List LockImporter). All (IsNumberedImporter (length c.deref-2.result.now)) is) (sym c.importers.ensures.list)
    (importers_numbered c.args.lock.now (length c.deref-2.result.now) numbers c.args.lock.now.importers c.snapshots-old.ensures.kept.importers)

pub new_snapshots-requires-clause-numbered : goal.new_snapshots-requires-clause-numbered
new_snapshots-requires-clause-numbered c =
    let numbers : length c.deref-3.result.now ≡ length c.args.lock.now.snapshots =
    ap length (c.deref-3.ensures.value ∙ c.in_ok-numbers.ensures) ∙ numbers_count 0 c.deref.result.now ∙ ap length c.deref.ensures.value ∙ c.in_ok-marks.ensures.count_is in
    subst (λ (ss : List LockSnapshot). All (IsNumberedSnapshot (length c.deref-3.result.now)) ss) (sym c.snapshots-old.ensures.list)
    (snapshots_numbered c.args.lock.now (length c.deref-3.result.now) numbers c.args.lock.now.snapshots c.snapshots-old.ensures.kept.snapshots)

pub of-requires : goal.of-requires
of-requires c =
    let marks = c.in_ok-marks.marks.items in
    let old = c.args.lock.now in
    is_lock old (locked c.auto_install_peers.result c.in_ok-catalogs.catalogs c.in_ok-overrides.overrides c.in_ok-importers.importers c.in_ok-packages.packages c.in_ok-snapshots.snapshots) c.snapshots-old.ensures.kept
    (record {
      marks = marks;
      marks_are = c.in_ok-marks.ensures;
      auto = c.auto_install_peers.ensures;
      catalogs = c.in_ok-catalogs.ensures ∙ c.catalogs.ensures.list;
      overrides = c.in_ok-overrides.ensures ∙ c.overrides.ensures.list;
      importers = c.in_ok-importers.ensures ∙ ap (λ (ns : List ℕ). map (new_importer ns) c.importers.result.now) (c.deref-2.ensures.value ∙ c.in_ok-numbers.ensures ∙ ap (numbers_from 0) c.deref.ensures.value)
          ∙ ap (map (new_importer (numbers_from 0 marks))) c.importers.ensures.list;
      packages = c.in_ok-packages.ensures ∙ ap (λ (bs : List Bool). filter (stays bs c.snapshots-old.result.now) c.packages.result.now) c.deref-5.ensures.value
          ∙ ap (λ (ss : List LockSnapshot). filter (stays marks ss) c.packages.result.now) c.snapshots-old.ensures.list ∙ ap (filter (stays marks old.snapshots)) c.packages.ensures.list;
      snapshots = c.in_ok-snapshots.ensures ∙ ap (λ (ns : List ℕ). new_snapshots ns c.deref-4.result.now c.snapshots-old.result.now) (c.deref-3.ensures.value ∙ c.in_ok-numbers.ensures ∙ ap (numbers_from 0) c.deref.ensures.value)
          ∙ ap (λ (bs : List Bool). new_snapshots (numbers_from 0 marks) bs c.snapshots-old.result.now) c.deref-4.ensures.value ∙ ap (new_snapshots (numbers_from 0 marks) marks) c.snapshots-old.ensures.list;
    })
