use Rattle.std.proofs.Common.{◌≡◌, arith, sym, subst, ap, ◌∙◌, Some, take, length, length-append, ◌≤◌}
use Rattle.std.proofs.lemmas.List.{length-take-le}
use Rattle.pn_fs.specs.Tree.{file}
use Rattle.pn_fs.specs.Pieces.{IsPiece}
use Rattle.pn_text.proofs.Results.{for_some, if_some}
use Rattle.pn_fs.proofs.SeenLemmas.{keeps_on, and_bytes}
use Rattle.pn_read.proofs.FrontLemmas.{IsFront, grown_front, whole_front}
use Rattle.pn_read.proofs.pieces.read_file.Goals as goal

pub returns-then-count-eq0-clause-bytes : goal.returns-then-count-eq0-clause-bytes
returns-then-count-eq0-clause-bytes g c =
    let inv = c.loop-count.invariant in
    let piece = for_some (λ t. IsPiece (t c.args.path.now) c.len-at.result c.read_piece.new.into c.in-Ok.count) _ c.in-Ok.ensures.piece in
    if_some (λ t. t c.args.path.now ≡ Some (file c.loop-count.all.items)) _ (λ t told.
    whole_front (t c.args.path.now) c.loop-count.all.items c.read_piece.new.into c.in-Ok.count (inv.so_far t told)
    (subst (λ at. IsPiece (t c.args.path.now) at c.read_piece.new.into c.in-Ok.count) (c.len-at.ensures ∙ sym inv.size) (piece t (inv.kept.tree ∙ told))) c.if-count-eq0.true)

pub loop-count-preserved : goal.loop-count-preserved
loop-count-preserved g c =
    let inv = c.loop-count.invariant in
    let piece = for_some (λ t. IsPiece (t c.args.path.now) c.len-at.result c.read_piece.new.into c.in-Ok.count) _ c.in-Ok.ensures.piece in
    let items = c.in_ok-take_in.ensures.items in
    let within : c.in-Ok.count ≤ length c.read_piece.new.into = omega (arith, c.in-Ok.ensures.within, c.read_piece.auto.into) in
    let len = c.in_ok-take_in.ensures.len in
    let longer = ap length items ∙ length-append c.loop-count.all.items (take c.in-Ok.count c.read_piece.new.into) in
    let taken = length-take-le c.in-Ok.count c.read_piece.new.into within in
    record {
      short = omega (arith, len, c.if-at-count.false, c.len-at.ensures);
      size = omega (arith, longer, taken, len, inv.size);
      kept = keeps_on _ _ _ inv.kept c.in-Ok.ensures.kept;
      gave = and_bytes _ _ _ (length c.loop-count.all.items) 0 c.in-Ok.count (length c.take_in.new.all.items) inv.kept.tree inv.gave c.in-Ok.ensures.gave (omega (arith, longer, taken));
      so_far = λ t told. subst (IsFront (t c.args.path.now)) (sym items)
          (grown_front (t c.args.path.now) c.loop-count.all.items c.read_piece.new.into c.in-Ok.count (inv.so_far t told)
          (subst (λ at. IsPiece (t c.args.path.now) at c.read_piece.new.into c.in-Ok.count) (c.len-at.ensures ∙ sym inv.size) (piece t (inv.kept.tree ∙ told))) within);
    }
