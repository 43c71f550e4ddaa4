use Rattle.std.proofs.Common.{◌≡◌, ◌<◌, ℕ, [], ◌++◌, ◌∷◌, length, get_or, set, ap, ◌∙◌, arith, Vec, Global}
use Rattle.std.proofs.lemmas.List.{length-map, length-set}
use Rattle.std.proofs.lemmas.List.Elements.{All-get_or}
use Rattle.pn_components.specs.Rows.{rows_of}
use Rattle.pn_components.proofs.RowLemmas.{row_next}
use Rattle.pn_components.proofs.rows.targets.Goals as goal

pub loop-edge-preserved : goal.loop-edge-preserved
loop-edge-preserved c =
    let old = c.loop-edge.rows.items in
    let new = c.add.new.rows.items in
    let e = get_or c.args.edges.now c.loop-edge.edge-index (0, 0) in
    let lt = c.loop-edge-test.true in
    let edge = All-get_or (λ (x : ℕ × ℕ). x.0 < c.args.count) c.args.edges.now c.loop-edge.edge-index (0, 0) lt c.requires in
    let count = c.loop-edge.invariant.count in
    let l : length (rows_of old) ≡ length old = length-map old (λ (r : Vec ℕ Global). r.items) in
    let m : length (rows_of new) ≡ length new = length-map new (λ (r : Vec ℕ Global). r.items) in
    let is : rows_of new ≡ set (rows_of old) e.0 (get_or (rows_of old) e.0 [] ++ e.1 ∷ []) = c.in_ok-add.ensures in
    let n : length (rows_of new) ≡ length (rows_of old) = ap length is ∙ length-set (rows_of old) e.0 (get_or (rows_of old) e.0 [] ++ e.1 ∷ []) in
    record {
      count = omega (arith, count, l, m, n);
      rows = row_next c.args.edges.now c.loop-edge.edge-index (rows_of old) (rows_of new) lt (omega (arith, edge, count, l)) c.loop-edge.invariant.rows is;
    }
