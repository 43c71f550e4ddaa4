use Rattle.std.proofs.Common.{length, arith}
use Rattle.pn_fs.proofs.PieceLemmas.{piece_of}
use Rattle.pn_fs.proofs.SeenLemmas.{keeps_on, keeps_same, gave_at_most}
use Rattle.pn_text.proofs.Results.{for_some}
use Rattle.pn_repair.proofs.FrontLemmas.{front_none, front_file, fits_in, gave_more, at_same, other_size, whole_text, text_more}
use Rattle.pn_repair.proofs.text.has_text.Goals as goal

pub returns-then-size-text-clause-right : goal.returns-then-size-text-clause-right
returns-then-size-text-clause-right g c = other_size _ c.args.path.now c.args.size c.args.text.now c.requires.file c.if-size-text.true

pub pieces-init : goal.pieces-init
pieces-init g c =
    let seen = g.P.ReadFs.seen c.args.fs.now in
    record {
      front = front_none seen.tree c.args.path.now c.args.size c.requires.file;
      within = omega arith;
      kept = keeps_same seen;
      gave = λ t told. gave_at_most seen 0 0;
    }

pub returns-then-at-text-clause-right : goal.returns-then-at-text-clause-right
returns-then-at-text-clause-right g c =
    whole_text _ c.args.path.now c.args.size c.pieces.at c.args.text.now c.requires.file c.if-size-text.false c.pieces.invariant.front c.if-at-text.true

pub piece-requires-clause-stands : goal.piece-requires-clause-stands
piece-requires-clause-stands g c = front_file _ _ c.args.path.now _ c.pieces.at c.pieces.invariant.kept.tree c.pieces.invariant.front

pub returns-then-count-eq0-clause-gave : goal.returns-then-count-eq0-clause-gave
returns-then-count-eq0-clause-gave g c =
    let inv = c.pieces.invariant in
    let seen = g.P.ReadFs.seen in
    let piece = piece_of (seen c.args.fs.now).tree _ c.args.path.now c.pieces.at c.in_ok-count.count c.piece.new.into inv.kept.tree c.in_ok-count.ensures.piece in
    gave_more (seen c.args.fs.now) (seen c.pieces.fs) (seen c.piece.new.fs) c.pieces.at c.in_ok-count.count _ inv.kept.tree inv.gave c.in_ok-count.ensures.gave
    (at_same _ _ c.args.size (length c.args.text.now) (fits_in _ c.args.path.now _ c.piece.new.into c.pieces.at c.in_ok-count.count c.args.size c.requires.file inv.front piece) c.if-size-text.false)

pub pieces-preserved : goal.pieces-preserved
pieces-preserved g c =
    let inv = c.pieces.invariant in
    let seen = g.P.ReadFs.seen in
    let piece = piece_of (seen c.args.fs.now).tree _ c.args.path.now c.pieces.at c.in_ok-count.count c.piece.new.into inv.kept.tree c.in_ok-count.ensures.piece in
    record {
      front = text_more _ c.args.path.now c.pieces.at c.in_ok-count.count c.args.text.now c.piece.new.into inv.front piece (c.goes_on.ensures.same.0 c.if-not-goes_on.false);
      within = c.goes_on.ensures.inside c.if-not-goes_on.false;
      kept = keeps_on (seen c.args.fs.now) (seen c.pieces.fs) (seen c.piece.new.fs) inv.kept c.in_ok-count.ensures.kept;
      gave = for_some _ _ (gave_more (seen c.args.fs.now) (seen c.pieces.fs) (seen c.piece.new.fs) c.pieces.at c.in_ok-count.count _ inv.kept.tree inv.gave c.in_ok-count.ensures.gave (λ t told. omega arith));
    }
