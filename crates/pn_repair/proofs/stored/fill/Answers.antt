use Rattle.std.proofs.Common.{[], ◌≤◌, ◌+◌, ◌++◌, length, take, refl, subst, arith, length-append, length-take, inr, ℕ, List, ◌<◌, sym}
use Rattle.std.specs.Prelude.{IfSome}
use Rattle.pn_storecore.specs.declared.step.Place.TheVariants.{Files}
use Rattle.pn_storecore.specs.Grew.{ReadTo}
use Rattle.pn_text.specs.declared.limits.TheConstants.{FILE_LIMIT}
use Rattle.pn_store.specs.Reads.{StoodThere}
use Rattle.pn_store.proofs.ReadsLemmas.{start, reads_on, reads_end, too_long}
use Rattle.pn_repair.proofs.WroteAtLemmas.{wrote_none, wrote_both}
use Rattle.pn_repair.proofs.ReadsStoreLemmas.{reads_none, reads_more, end_refused}
use Rattle.pn_repair.proofs.stored.fill.Goals as goal

pub pieces-init : goal.pieces-init
pieces-init g c = record {
  reading = record { bytes = []; size = refl; hashed = c.new-hasher.ensures; reading = start refl };
  has = c.requires.empty;
  within = omega arith;
  wrote = wrote_none c.args.path.now (g.P.ReadFs.seen c.args.fs.now);
  reads = reads_none c.grew_law.ensures c.claims_law.ensures (g.D.StoreDisk.seen c.args.disk.now);
}

pub returns-in-Ok-None-clause-reads : goal.returns-in-Ok-None-clause-reads
returns-in-Ok-None-clause-reads g c =
    let store = g.D.StoreDisk.seen in
    reads_more c.grew_law.ensures c.claims_law.ensures (store c.args.disk.now) (store c.pieces.disk) (store c.read_piece.new.disk) c.pieces.invariant.reads c.read_piece.ensures.grew c.read_piece.ensures.left c.read_piece.ensures.later

pub returns-in-Err-clause-reads : goal.returns-in-Err-clause-reads
returns-in-Err-clause-reads g c =
    let store = g.D.StoreDisk.seen in
    reads_more c.grew_law.ensures c.claims_law.ensures (store c.args.disk.now) (store c.pieces.disk) (store c.read_piece.new.disk) c.pieces.invariant.reads c.read_piece.ensures.grew c.read_piece.ensures.left c.read_piece.ensures.later

pub returns-then-count-eq0-clause-reads : goal.returns-then-count-eq0-clause-reads
returns-then-count-eq0-clause-reads g c =
    let store = g.D.StoreDisk.seen in
    reads_more c.grew_law.ensures c.claims_law.ensures (store c.args.disk.now) (store c.pieces.disk) (store c.read_piece.new.disk) c.pieces.invariant.reads c.read_piece.ensures.grew c.read_piece.ensures.left c.read_piece.ensures.later

pub returns-then-next-gt-FILE_LIMIT-clause-reads : goal.returns-then-next-gt-FILE_LIMIT-clause-reads
returns-then-next-gt-FILE_LIMIT-clause-reads g c =
    let store = g.D.StoreDisk.seen in
    reads_more c.grew_law.ensures c.claims_law.ensures (store c.args.disk.now) (store c.pieces.disk) (store c.read_piece.new.disk) c.pieces.invariant.reads c.read_piece.ensures.grew c.read_piece.ensures.left c.read_piece.ensures.later

pub returns-in_err-append_front-clause-reads : goal.returns-in_err-append_front-clause-reads
returns-in_err-append_front-clause-reads g c =
    let store = g.D.StoreDisk.seen in
    reads_more c.grew_law.ensures c.claims_law.ensures (store c.args.disk.now) (store c.pieces.disk) (store c.read_piece.new.disk) c.pieces.invariant.reads c.read_piece.ensures.grew c.read_piece.ensures.left c.read_piece.ensures.later

pub returns-in_err-append_front-clause-wrote : goal.returns-in_err-append_front-clause-wrote
returns-in_err-append_front-clause-wrote g c =
    wrote_both c.args.path.now (g.P.ReadFs.seen c.args.fs.now) (g.P.ReadFs.seen c.pieces.fs) (g.P.ReadFs.seen c.append_front.new.fs) c.pieces.invariant.wrote c.append_front.ensures.wrote

pub returns-then-count-eq0-clause-fault : goal.returns-then-count-eq0-clause-fault
returns-then-count-eq0-clause-fault g c =
    let store = g.D.StoreDisk.seen in
    let inv = c.pieces.invariant in
    let mid = store c.pieces.disk in
    let new = store c.read_piece.new.disk in
    let at = c.args.digest.now in
    let into = c.read_piece.new.into in
    let count = c.in-Ok-Some.count in
    let read = subst (λ f. IfSome mid.journal (λ j. ReadTo Files at c.pieces.at into f j new.journal)) c.in-Ok-Some.field-0-is c.in-Ok-Some.ensures.read in
    end_refused at inv.reading.bytes (g.P.ReadFs.seen c.args.fs.now) (g.P.ReadFs.seen c.pieces.fs) (store c.args.disk.now) new c.finish.result
    (reads_end c.was_law.ensures Files at inv.reading.bytes into c.pieces.at count (store c.args.disk.now) mid new inv.reads.grew c.read_piece.ensures.grew inv.reading.size c.if-count-eq0.true inv.reading.reading read)
    (c.finish.ensures inv.reading.bytes inv.reading.hashed)

pub returns-then-next-gt-FILE_LIMIT-clause-fault : goal.returns-then-next-gt-FILE_LIMIT-clause-fault
returns-then-next-gt-FILE_LIMIT-clause-fault g c =
    let store = g.D.StoreDisk.seen in
    let inv = c.pieces.invariant in
    let old = store c.args.disk.now in
    let mid = store c.pieces.disk in
    let new = store c.read_piece.new.disk in
    let at = c.args.digest.now in
    let into = c.read_piece.new.into in
    let count = c.in-Ok-Some.count in
    let read = subst (λ f. IfSome mid.journal (λ j. ReadTo Files at c.pieces.at into f j new.journal)) c.in-Ok-Some.field-0-is c.in-Ok-Some.ensures.read in
    let room = subst (λ f. IfSome f (λ n. n ≤ length c.pieces.buffer)) c.in-Ok-Some.field-0-is c.in-Ok-Some.ensures.within in
    let within : count ≤ length into = omega (arith, room, c.read_piece.auto.into) in
    let bytes = inv.reading.bytes in
    let asked = c.copy-then-next-gt-FILE_LIMIT.ensures in
    inr (subst (λ d. (w : List ℕ) × (FILE_LIMIT < length w) × StoodThere Files d w old new) (sym asked) (too_long Files at (bytes ++ take count into) (c.pieces.at + count) old new c.if-next-gt-FILE_LIMIT.true (omega (arith, inv.reading.size, within, length-append bytes (take count into), length-take count into))
    (reads_on c.was_law.ensures Files at bytes into c.pieces.at count old mid new inv.reads.grew c.read_piece.ensures.grew inv.reading.size within inv.reading.reading read)))

pub pieces-preserved : goal.pieces-preserved
pieces-preserved g c =
    let store = g.D.StoreDisk.seen in
    let tree = g.P.ReadFs.seen in
    let inv = c.pieces.invariant in
    let old = store c.args.disk.now in
    let mid = store c.pieces.disk in
    let new = store c.read_piece.new.disk in
    let at = c.args.digest.now in
    let into = c.read_piece.new.into in
    let count = c.in-Ok-Some.count in
    let read = subst (λ f. IfSome mid.journal (λ j. ReadTo Files at c.pieces.at into f j new.journal)) c.in-Ok-Some.field-0-is c.in-Ok-Some.ensures.read in
    let room = subst (λ f. IfSome f (λ n. n ≤ length c.pieces.buffer)) c.in-Ok-Some.field-0-is c.in-Ok-Some.ensures.within in
    let within : count ≤ length into = omega (arith, room, c.read_piece.auto.into) in
    let bytes = inv.reading.bytes in
    record {
      reading = record {
        bytes = bytes ++ take count into;
        size = omega (arith, inv.reading.size, within, length-append bytes (take count into), length-take count into);
        hashed = c.push_front.ensures bytes inv.reading.hashed;
        reading = reads_on c.was_law.ensures Files at bytes into c.pieces.at count old mid new inv.reads.grew c.read_piece.ensures.grew inv.reading.size within inv.reading.reading read;
      };
      has = c.in_ok-append_front.ensures.ok bytes inv.has;
      within = c.if-next-gt-FILE_LIMIT.false;
      wrote = wrote_both c.args.path.now (tree c.args.fs.now) (tree c.pieces.fs) (tree c.append_front.new.fs) inv.wrote c.in_ok-append_front.ensures.wrote;
      reads = reads_more c.grew_law.ensures c.claims_law.ensures old mid new inv.reads c.read_piece.ensures.grew c.read_piece.ensures.left c.read_piece.ensures.later;
    }
