use Rattle.std.proofs.Common.{◌≡◌, ◌≤◌, ◌+◌, arith, sym, ap, ◌∙◌, take, drop, length, false, true, nat_eq}
use Rattle.std.specs.List.{starts_with}
use Rattle.pn_fs.specs.Pieces.{IsPiece}
use Rattle.pn_fs.proofs.SeenLemmas.{keeps_on, and_bytes}
use Rattle.pn_text.proofs.Results.{for_some, if_some}
use Rattle.pn_scan.specs.Looks.{IsFrontAt}
use Rattle.pn_scan.proofs.IsFrontAtLemmas.{all_read, more_read, not_front}
use Rattle.pn_scan.proofs.marker.is_front.Goals as goal

pub returns-then-count-eq0-clause-front : goal.returns-then-count-eq0-clause-front
returns-then-count-eq0-clause-front g c =
    let inv = c.pieces.invariant in
    let piece = for_some (λ t. IsPiece (t c.args.path.now) c.pieces.at c.read.new.into c.in_ok-count.count) _ c.in_ok-count.ensures.piece in
    if_some (λ t. IsFrontAt t c.args.path.now c.args.text.now) _ (λ t told.
    all_read (t c.args.path.now) c.args.text.now c.read.new.into c.pieces.at c.in_ok-count.count (inv.so_far t told) (piece t (inv.kept.tree ∙ told)) c.if-count-eq0.true)

pub returns-then-not-starts_with-clause-front : goal.returns-then-not-starts_with-clause-front
returns-then-not-starts_with-clause-front g c =
    let inv = c.pieces.invariant in
    let text = c.args.text.now in
    let at = c.pieces.at in
    let into = c.read.new.into in
    let n = c.in_ok-count.count in
    let piece = for_some (λ t. IsPiece (t c.args.path.now) at into n) _ c.in_ok-count.ensures.piece in
    let within : n ≤ length into = omega (arith, c.in_ok-count.ensures.within, c.read.auto.into) in
    let other : starts_with nat_eq (drop at text) (take n into) ≡ false =
    ap (λ r. starts_with nat_eq r (take n into)) (sym c.split_at.ensures.back)
    ∙ ap (starts_with nat_eq c.split_at.result.1.now) (sym c.split_at-in-pieces.ensures.front)
    ∙ sym c.starts_with.ensures.value
    ∙ c.if-not-starts_with.true in
    if_some (λ t. IsFrontAt t c.args.path.now text → ⊥) _ (λ t told.
    not_front (t c.args.path.now) text into at n (inv.so_far t told) (piece t (inv.kept.tree ∙ told)) within other)

pub pieces-preserved : goal.pieces-preserved
pieces-preserved g c =
    let inv = c.pieces.invariant in
    let text = c.args.text.now in
    let at = c.pieces.at in
    let into = c.read.new.into in
    let n = c.in_ok-count.count in
    let piece = for_some (λ t. IsPiece (t c.args.path.now) at into n) _ c.in_ok-count.ensures.piece in
    let within : n ≤ length into = omega (arith, c.in_ok-count.ensures.within, c.read.auto.into) in
    let same : starts_with nat_eq (drop at text) (take n into) ≡ true =
    ap (λ r. starts_with nat_eq r (take n into)) (sym c.split_at.ensures.back)
    ∙ ap (starts_with nat_eq c.split_at.result.1.now) (sym c.split_at-in-pieces.ensures.front)
    ∙ sym c.starts_with.ensures.value
    ∙ c.if-not-starts_with.false in
    record {
      within = omega (arith, c.starts_with.ensures.bound c.if-not-starts_with.false, c.split_at-in-pieces.ensures.front_len, c.split_at.ensures.back_len, inv.within);
      kept = keeps_on _ _ _ inv.kept c.in_ok-count.ensures.kept;
      gave = and_bytes _ _ _ at 0 n (at + n) inv.kept.tree inv.gave c.in_ok-count.ensures.gave (omega arith);
      so_far = λ t told. more_read (t c.args.path.now) text into at n (inv.so_far t told) (piece t (inv.kept.tree ∙ told)) within same;
    }
