use Rattle.std.proofs.Common.{◌++◌, ℕ, List, ap, ◌∙◌, subst, arith, Vec, Global}
use Rattle.std.proofs.lemmas.List.{length-map}
use Rattle.std.specs.List.{Contains}
use Rattle.pn_components.specs.Rows.{rows_of}
use Rattle.pn_dep_paths.specs.Steps.{row_edges}
use Rattle.pn_dep_paths.proofs.RelationLemmas.{rows_more}
use Rattle.pn_dep_paths.proofs.edges.edges.Goals as goal

pub push_edges-requires : goal.push_edges-requires
push_edges-requires c = λ p h. c.requires.pairs c.loop-i.i p (subst (λ (l : List ℕ). Contains l p) c.row_at.ensures h)

pub loop-i-preserved : goal.loop-i-preserved
loop-i-preserved c =
    let pairs = c.args.pairs.now in
    let i = c.loop-i.i in
    let long = length-map c.args.rows.now (λ (r : Vec ℕ Global). r.items) in
    let lt = c.loop-i-test.true in
    rows_more pairs i (rows_of c.args.rows.now) _ c.loop-i.edges.items c.push_edges.new.edges.items (omega (arith, lt, long))
    (c.in_ok-push_edges.ensures ∙ ap (λ (l : List ℕ). c.loop-i.edges.items ++ row_edges pairs i l) c.row_at.ensures) c.loop-i.invariant
