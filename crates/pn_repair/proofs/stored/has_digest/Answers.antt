use Rattle.std.proofs.Common.{arith, []}
use Rattle.pn_text.specs.declared.limits.TheConstants.{FILE_LIMIT}
use Rattle.pn_fs.proofs.PieceLemmas.{piece_of}
use Rattle.pn_fs.proofs.SeenLemmas.{keeps_on, keeps_same, gave_at_most}
use Rattle.pn_text.proofs.Results.{for_some}
use Rattle.pn_repair.proofs.FrontLemmas.{front_none, front_in, fits_in, gave_more, gave_still, at_small, too_large, hashed_file, hashed_more, digest_right}
use Rattle.pn_repair.proofs.stored.has_digest.Goals as goal

pub returns-then-size-gt-FILE_LIMIT-clause-right : goal.returns-then-size-gt-FILE_LIMIT-clause-right
returns-then-size-gt-FILE_LIMIT-clause-right g c = too_large _ c.args.path.now c.args.size c.args.digest.now c.requires.file c.if-size-gt-FILE_LIMIT.true

pub pieces-init : goal.pieces-init
pieces-init g c =
    let seen = g.P.ReadFs.seen c.args.fs.now in
    record {
      hashed = record { bytes = []; hashed = c.new-hasher.ensures; front = front_none seen.tree c.args.path.now c.args.size c.requires.file };
      within = omega arith;
      kept = keeps_same seen;
      gave = λ t told. gave_at_most seen 0 0;
    }

pub piece-requires-clause-stands : goal.piece-requires-clause-stands
piece-requires-clause-stands g c = hashed_file _ _ c.args.path.now c.pieces.hasher c.pieces.at c.pieces.invariant.kept.tree c.pieces.invariant.hashed

pub returns-in_err-count-clause-gave : goal.returns-in_err-count-clause-gave
returns-in_err-count-clause-gave g c =
    let inv = c.pieces.invariant in
    let seen = g.P.ReadFs.seen in
    gave_still (seen c.args.fs.now) (seen c.pieces.fs) (seen c.piece.new.fs) c.pieces.at _ inv.kept.tree inv.gave c.in_err-count.ensures.gave_none
    (at_small _ c.pieces.at c.args.size FILE_LIMIT (front_in _ c.args.path.now inv.hashed.bytes c.pieces.at c.args.size c.requires.file inv.hashed.front) c.if-size-gt-FILE_LIMIT.false)

pub returns-then-count-eq0-clause-right : goal.returns-then-count-eq0-clause-right
returns-then-count-eq0-clause-right g c =
    let inv = c.pieces.invariant in
    digest_right _ c.args.path.now c.pieces.hasher c.pieces.at c.in_ok-count.count c.args.size _ c.args.digest.now c.is_digest.result c.requires.file inv.hashed
    (piece_of _ _ _ _ _ _ inv.kept.tree c.in_ok-count.ensures.piece) c.if-count-eq0.true c.if-size-gt-FILE_LIMIT.false c.is_digest.ensures

pub returns-then-count-eq0-clause-gave : goal.returns-then-count-eq0-clause-gave
returns-then-count-eq0-clause-gave g c =
    let inv = c.pieces.invariant in
    let seen = g.P.ReadFs.seen in
    let piece = piece_of (seen c.args.fs.now).tree _ c.args.path.now c.pieces.at c.in_ok-count.count c.piece.new.into inv.kept.tree c.in_ok-count.ensures.piece in
    gave_more (seen c.args.fs.now) (seen c.pieces.fs) (seen c.piece.new.fs) c.pieces.at c.in_ok-count.count _ inv.kept.tree inv.gave c.in_ok-count.ensures.gave
    (at_small _ _ c.args.size FILE_LIMIT (fits_in _ c.args.path.now inv.hashed.bytes c.piece.new.into c.pieces.at c.in_ok-count.count c.args.size c.requires.file inv.hashed.front piece) c.if-size-gt-FILE_LIMIT.false)

pub returns-then-next-gt-FILE_LIMIT-clause-gave : goal.returns-then-next-gt-FILE_LIMIT-clause-gave
returns-then-next-gt-FILE_LIMIT-clause-gave g c =
    let inv = c.pieces.invariant in
    let seen = g.P.ReadFs.seen in
    let piece = piece_of (seen c.args.fs.now).tree _ c.args.path.now c.pieces.at c.in_ok-count.count c.piece.new.into inv.kept.tree c.in_ok-count.ensures.piece in
    gave_more (seen c.args.fs.now) (seen c.pieces.fs) (seen c.piece.new.fs) c.pieces.at c.in_ok-count.count _ inv.kept.tree inv.gave c.in_ok-count.ensures.gave
    (at_small _ _ c.args.size FILE_LIMIT (fits_in _ c.args.path.now inv.hashed.bytes c.piece.new.into c.pieces.at c.in_ok-count.count c.args.size c.requires.file inv.hashed.front piece) c.if-size-gt-FILE_LIMIT.false)

pub pieces-preserved : goal.pieces-preserved
pieces-preserved g c =
    let inv = c.pieces.invariant in
    let seen = g.P.ReadFs.seen in
    let piece = piece_of (seen c.args.fs.now).tree _ c.args.path.now c.pieces.at c.in_ok-count.count c.piece.new.into inv.kept.tree c.in_ok-count.ensures.piece in
    record {
      hashed = hashed_more _ c.args.path.now c.pieces.hasher c.push_front.new.hasher c.pieces.at c.in_ok-count.count c.piece.new.into inv.hashed piece c.push_front.ensures;
      within = c.if-next-gt-FILE_LIMIT.false;
      kept = keeps_on (seen c.args.fs.now) (seen c.pieces.fs) (seen c.piece.new.fs) inv.kept c.in_ok-count.ensures.kept;
      gave = for_some _ _ (gave_more (seen c.args.fs.now) (seen c.pieces.fs) (seen c.piece.new.fs) c.pieces.at c.in_ok-count.count _ inv.kept.tree inv.gave c.in_ok-count.ensures.gave (λ t told. omega arith));
    }
