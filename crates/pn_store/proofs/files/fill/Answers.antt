use Rattle.std.proofs.Common.{◌≤◌, ◌+◌, [], length, refl, arith, rules, Some}
use Rattle.pn_store.proofs.HeldLemmas.{works_none, works_twice}
use Rattle.pn_fs.proofs.PieceLemmas.{piece_of}
use Rattle.pn_store.proofs.PutsLemmas.{starts, goes_on, ends, not_large, short_is_file}
use Rattle.pn_store.specs.Faults.{IsLong}
use Rattle.pn_store.proofs.GaveLemmas.{bytes_most, front_within, gave_end, gave_then, nothing_most}
use Rattle.pn_store.specs.Own.{IsNoPublish}
use Rattle.pn_store.specs.Puts.{file_length}
use Rattle.pn_store.proofs.MadeLemmas.{made_none, none_both}
use Rattle.pn_store.proofs.files.fill.Goals as goal

pub pieces-init : goal.pieces-init
pieces-init g c =
    record {
      filling = starts _ _ _ _ _ c.requires.held c.new-hasher.ensures c.requires.file;
      within = omega arith;
      kept = record { tree = refl; touched = refl; later = omega arith };
      gave = λ t told. record { bytes = omega arith; names = omega arith };
      unpublished = made_none IsNoPublish (g.D.StoreDisk.seen c.args.disk.now);
      works = works_none c.grew_law.ensures c.claims_law.ensures c.args.k (g.D.StoreDisk.seen c.args.disk.now) (Some [], c.requires.held);
    }

pub source_piece-requires-clause-file : goal.source_piece-requires-clause-file
source_piece-requires-clause-file g c = short_is_file _ _ _ c.pieces.invariant.kept.tree c.requires.file

pub returns-then-count-eq0-clause-filled : goal.returns-then-count-eq0-clause-filled
returns-then-count-eq0-clause-filled g c =
    let inv = c.pieces.invariant in
    ends _ _ _ _ _ _ c.pieces.hasher _ c.finish.result inv.filling (piece_of _ _ _ _ _ _ inv.kept.tree c.in_ok-count.ensures.piece) c.if-count-eq0.true inv.within c.finish.ensures.digest c.finish.ensures.length

pub returns-then-next-gt-FILE_LIMIT-clause-fault : goal.returns-then-next-gt-FILE_LIMIT-clause-fault
returns-then-next-gt-FILE_LIMIT-clause-fault g c =
    let inv = c.pieces.invariant in
    (omega arith, not_large _ c.args.path.now _ _ _ _ _ _ inv.filling (piece_of _ _ _ _ _ _ inv.kept.tree c.in_ok-count.ensures.piece) c.requires.file c.if-next-gt-FILE_LIMIT.true (λ r. IsLong (r c.args.path.now) 268435457))

pub pieces-preserved : goal.pieces-preserved
pieces-preserved g c =
    let inv = c.pieces.invariant in
    let seen = g.D.StoreDisk.seen in
    let h = inv.filling in
    let within : c.in_ok-count.count ≤ length c.source_piece.new.into = omega (arith, c.in_ok-count.ensures.within, c.source_piece.auto.into) in
    record {
      filling = goes_on _ _ _ _ _ _ c.pieces.hasher _ _ _ h (piece_of _ _ _ _ _ _ inv.kept.tree c.in_ok-count.ensures.piece) within (c.in_ok-take_in.ensures.ok h.bytes h.holds) (c.in_ok-take_in.ensures.hashed h.bytes h.hashed);
      within = c.if-next-gt-FILE_LIMIT.false;
      kept = search rules;
      gave = gave_then _ _ _ (λ t. c.pieces.at) (λ t. c.in_ok-count.count) (λ t. c.pieces.at + c.in_ok-count.count) inv.kept.tree inv.gave (bytes_most _ _ _ c.in_ok-count.count c.in_ok-count.ensures.gave) (λ t told. omega arith);
      unpublished = none_both (seen c.args.disk.now) (seen c.pieces.disk) (seen c.take_in.new.disk) inv.unpublished c.take_in.ensures.unpublished;
      works = works_twice c.grew_law.ensures c.claims_law.ensures c.args.k (seen c.args.disk.now) (seen c.pieces.disk) (seen c.take_in.new.disk) inv.works c.take_in.ensures.works;
    }

pub returns-in_err-take_in-clause-unpublished : goal.returns-in_err-take_in-clause-unpublished
returns-in_err-take_in-clause-unpublished g c =
    let seen = g.D.StoreDisk.seen in
    none_both (seen c.args.disk.now) (seen c.pieces.disk) (seen c.take_in.new.disk) c.pieces.invariant.unpublished c.take_in.ensures.unpublished

pub returns-in_err-take_in-clause-works : goal.returns-in_err-take_in-clause-works
returns-in_err-take_in-clause-works g c =
    let seen = g.D.StoreDisk.seen in
    works_twice c.grew_law.ensures c.claims_law.ensures c.args.k (seen c.args.disk.now) (seen c.pieces.disk) (seen c.take_in.new.disk) c.pieces.invariant.works c.take_in.ensures.works

pub returns-in_err-count-clause-gave : goal.returns-in_err-count-clause-gave
returns-in_err-count-clause-gave g c =
    let inv = c.pieces.invariant in
    let p = c.args.path.now in
    gave_end _ _ _ (λ t. c.pieces.at) (λ t. 0) (λ t. file_length (t p)) inv.kept.tree inv.gave (nothing_most _ _ _ (λ t. 0) c.in_err-count.ensures.gave_none) (λ t told. omega (arith, front_within _ _ _ (inv.filling.front t told)))

pub returns-then-count-eq0-clause-gave : goal.returns-then-count-eq0-clause-gave
returns-then-count-eq0-clause-gave g c =
    let inv = c.pieces.invariant in
    let p = c.args.path.now in
    gave_end _ _ _ (λ t. c.pieces.at) (λ t. c.in_ok-count.count) (λ t. file_length (t p)) inv.kept.tree inv.gave (bytes_most _ _ _ c.in_ok-count.count c.in_ok-count.ensures.gave) (λ t told. omega (arith, front_within _ _ _ (inv.filling.front t told), c.if-count-eq0.true))
