use Rattle.std.proofs.Common.{◌≡◌, [], ◌≤◌, ◌+◌, ◌++◌, length, take, refl, subst, arith, length-append, length-take}
use Rattle.std.specs.Prelude.{IfSome, min, ◌-◌}
use Rattle.pn_storecore.specs.declared.step.Place.TheVariants.{Files}
use Rattle.pn_storecore.specs.Grew.{ReadTo}
use Rattle.pn_fs.proofs.SeenLemmas.{keeps_on, keeps_same}
use Rattle.pn_store.proofs.ReadsLemmas.{start, reads_on, reads_end, too_long, fewer}
use Rattle.pn_store.proofs.BeginsLemmas.{begins_none, begins_more, found_end}
use Rattle.pn_store.proofs.GaveLemmas.{gave_then}
use Rattle.pn_store.specs.Puts.{file_length}
use Rattle.pn_store.proofs.LeavesLemmas.{all_none, all_both}
use Rattle.pn_store.proofs.compare.compare.Goals as goal

pub pieces-init : goal.pieces-init
pieces-init g c =
    let a = g.D.StoreDisk.seen c.args.disk.now in
    let source = g.R.ReadFs.seen c.args.from.now in
    record {
      reading = record { bytes = []; size = refl; hashed = c.new-hasher.ensures; reading = start refl };
      begins = begins_none source.tree c.args.path.now c.requires.file;
      within = omega arith;
      kept = keeps_same source;
      gave = λ t told. record { bytes = omega arith; names = omega arith };
      left = all_none c.claims_law.ensures a;
      grew = c.grew_law.ensures.none a;
      later = omega arith;
    }

pub returns-in-Ok-None-clause-left : goal.returns-in-Ok-None-clause-left
returns-in-Ok-None-clause-left g c =
    let store = g.D.StoreDisk.seen in
    all_both c.claims_law.ensures (store c.args.disk.now) (store c.pieces.disk) (store c.read.new.disk) c.pieces.invariant.left c.read.ensures.left

pub returns-in-Err-Failed-clause-left : goal.returns-in-Err-Failed-clause-left
returns-in-Err-Failed-clause-left g c =
    let store = g.D.StoreDisk.seen in
    all_both c.claims_law.ensures (store c.args.disk.now) (store c.pieces.disk) (store c.read.new.disk) c.pieces.invariant.left c.read.ensures.left

pub returns-in-Err-Memory-clause-left : goal.returns-in-Err-Memory-clause-left
returns-in-Err-Memory-clause-left g c =
    let store = g.D.StoreDisk.seen in
    all_both c.claims_law.ensures (store c.args.disk.now) (store c.pieces.disk) (store c.read.new.disk) c.pieces.invariant.left c.read.ensures.left

pub returns-then-count-eq0-clause-left : goal.returns-then-count-eq0-clause-left
returns-then-count-eq0-clause-left g c =
    let store = g.D.StoreDisk.seen in
    all_both c.claims_law.ensures (store c.args.disk.now) (store c.pieces.disk) (store c.read.new.disk) c.pieces.invariant.left c.read.ensures.left

pub returns-then-place-count-gt-FILE_LIMIT-clause-left : goal.returns-then-place-count-gt-FILE_LIMIT-clause-left
returns-then-place-count-gt-FILE_LIMIT-clause-left g c =
    let store = g.D.StoreDisk.seen in
    all_both c.claims_law.ensures (store c.args.disk.now) (store c.pieces.disk) (store c.read.new.disk) c.pieces.invariant.left c.read.ensures.left

pub returns-in_err-step-clause-left : goal.returns-in_err-step-clause-left
returns-in_err-step-clause-left g c =
    let store = g.D.StoreDisk.seen in
    all_both c.claims_law.ensures (store c.args.disk.now) (store c.pieces.disk) (store c.read.new.disk) c.pieces.invariant.left c.read.ensures.left

pub returns-then-count-eq0-clause-found : goal.returns-then-count-eq0-clause-found
returns-then-count-eq0-clause-found g c =
    let store = g.D.StoreDisk.seen in
    let inv = c.pieces.invariant in
    let old = store c.args.disk.now in
    let mid = store c.pieces.disk in
    let new = store c.read.new.disk in
    let at = c.args.at.now in
    let into = c.read.new.into in
    let count = c.in-Ok-Some.count in
    let read = subst (λ f. IfSome mid.journal (λ j. ReadTo Files at c.pieces.place into f j new.journal)) c.in-Ok-Some.field-0-is c.in-Ok-Some.ensures.read in
    let bytes = inv.reading.bytes in
    let own = c.requires.source in
    found_end (g.R.ReadFs.seen c.args.from.now).tree c.args.path.now at bytes own.bytes c.pieces.place c.args.size c.pieces.same c.is_whole.result old new c.finish.result own.from own.count inv.reading.size
    c.is_whole.ensures.whole c.is_whole.ensures.other inv.begins
    (reads_end c.was_law.ensures Files at bytes into c.pieces.place count old mid new inv.grew c.read.ensures.grew inv.reading.size c.if-count-eq0.true inv.reading.reading read)
    (c.finish.ensures bytes inv.reading.hashed)

pub returns-then-place-count-gt-FILE_LIMIT-clause-found : goal.returns-then-place-count-gt-FILE_LIMIT-clause-found
returns-then-place-count-gt-FILE_LIMIT-clause-found g c =
    let store = g.D.StoreDisk.seen in
    let inv = c.pieces.invariant in
    let old = store c.args.disk.now in
    let mid = store c.pieces.disk in
    let new = store c.read.new.disk in
    let at = c.args.at.now in
    let into = c.read.new.into in
    let count = c.in-Ok-Some.count in
    let read = subst (λ f. IfSome mid.journal (λ j. ReadTo Files at c.pieces.place into f j new.journal)) c.in-Ok-Some.field-0-is c.in-Ok-Some.ensures.read in
    let room = subst (λ f. IfSome f (λ n. n ≤ length c.pieces.ours)) c.in-Ok-Some.field-0-is c.in-Ok-Some.ensures.within in
    let within : count ≤ length into = omega (arith, room, c.read.auto.into) in
    let bytes = inv.reading.bytes in
    too_long Files at (bytes ++ take count into) (c.pieces.place + count) old new c.if-place-count-gt-FILE_LIMIT.true (omega (arith, inv.reading.size, within, length-append bytes (take count into), length-take count into))
    (reads_on c.was_law.ensures Files at bytes into c.pieces.place count old mid new inv.grew c.read.ensures.grew inv.reading.size within inv.reading.reading read)

pub pieces-preserved : goal.pieces-preserved
pieces-preserved g c =
    let store = g.D.StoreDisk.seen in
    let inv = c.pieces.invariant in
    let old = store c.args.disk.now in
    let mid = store c.pieces.disk in
    let new = store c.read.new.disk in
    let at = c.args.at.now in
    let into = c.read.new.into in
    let count = c.in-Ok-Some.count in
    let read = subst (λ f. IfSome mid.journal (λ j. ReadTo Files at c.pieces.place into f j new.journal)) c.in-Ok-Some.field-0-is c.in-Ok-Some.ensures.read in
    let room = subst (λ f. IfSome f (λ n. n ≤ length c.pieces.ours)) c.in-Ok-Some.field-0-is c.in-Ok-Some.ensures.within in
    let within : count ≤ length into = omega (arith, room, c.read.auto.into) in
    let bytes = inv.reading.bytes in
    let used = c.in_ok-step.step.used in
    let step = c.in_ok-step.ensures in
    let fits : used ≤ length into = omega (arith, within, step.used.1) in
    let size : c.pieces.place + used ≡ length (bytes ++ take used into) = omega (arith, inv.reading.size, fits, length-append bytes (take used into), length-take used into) in
    record {
      reading = record {
        bytes = bytes ++ take used into;
        size = size;
        hashed = c.push_front.ensures bytes inv.reading.hashed;
        reading = reads_on c.was_law.ensures Files at bytes into c.pieces.place used old mid new inv.grew c.read.ensures.grew inv.reading.size fits inv.reading.reading (fewer Files at c.pieces.place count used into mid.journal new.journal step.used.0 step.used.1 read);
      };
      begins = begins_more (g.R.ReadFs.seen c.args.from.now).tree (g.R.ReadFs.seen c.pieces.from).tree c.args.path.now bytes (take used into) c.pieces.place c.pieces.same c.in_ok-step.step.same inv.kept.tree inv.reading.size inv.begins step.begins step.differs;
      within = omega (arith, c.if-place-count-gt-FILE_LIMIT.false, step.used.1);
      kept = keeps_on (g.R.ReadFs.seen c.args.from.now) (g.R.ReadFs.seen c.pieces.from) (g.R.ReadFs.seen c.agree.new.from) inv.kept c.agree.ensures.kept;
      gave = gave_then _ _ _ (λ t. min c.pieces.place (file_length (t c.args.path.now))) (λ t. min used (file_length (t c.args.path.now) - c.pieces.place)) (λ t. min (c.pieces.place + used) (file_length (t c.args.path.now))) inv.kept.tree inv.gave step.gave (λ t told. omega arith);
      left = all_both c.claims_law.ensures old mid new inv.left c.read.ensures.left;
      grew = c.grew_law.ensures.both old mid new inv.grew c.read.ensures.grew;
      later = omega (arith, inv.later, c.read.ensures.cause.later);
    }
