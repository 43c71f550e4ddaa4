use Rattle.std.proofs.Common.{◌≡◌, ◌++◌, ℕ, List, get_or, length, sym, ap, ◌∙◌, subst, arith, Global}
use Rattle.std.specs.List.{Contains}
use Rattle.std.proofs.lemmas.List.{length-map}
use Rattle.std.proofs.lemmas.List.Elements.{Contains-get_or}
use Rattle.std.specs.Prelude.{Vec}
use Rattle.pn_components.specs.Graphs.{Edges}
use Rattle.pn_components.specs.Rows.{AreRows, rows_of}
use Rattle.pn_outer.specs.Dependents.{edges_of}
use Rattle.pn_outer.specs.Instances.{Instance, Link}
use Rattle.pn_outer.proofs.EdgeLemmas.{are_dependents, more_edges}
use Rattle.pn_outer.proofs.FoundLemmas.{deps_there}
use Rattle.pn_outer.proofs.dependents.dependents.Goals as goal

pub loop-i-preserved : goal.loop-i-preserved
loop-i-preserved c =
    let instances = c.args.instances.now in
    let i = c.loop-i.i in
    let is = c.as_slice.ensures ∙ ap (λ (x : Instance). x.deps) c.index-instances-i.is ∙ sym (deps_there instances i c.index-instances-i.result c.loop-i-test.true) in
    more_edges instances i c.loop-i.edges.items c.push_edges.new.edges.items c.loop-i.invariant
    (c.in_ok-push_edges.ensures ∙ ap (λ (l : List Link). c.loop-i.edges.items ++ edges_of i l) is)

pub targets-requires : goal.targets-requires
targets-requires c = λ k d lt.
    let e = get_or c.deref.result.now k d in
    let has : Contains c.loop-i.edges.items e = subst (λ (l : Edges). Contains l e) c.deref.ensures.value (Contains-get_or c.deref.result.now k d lt) in
    c.requires.within e.1 e.0 (c.loop-i.invariant.right e.0 e.1 has).1

pub returns-clause-rows : goal.returns-clause-rows
returns-clause-rows c =
    let instances = c.args.instances.now in
    let rows = c.in_ok-rows.rows.items in
    let most = c.loop-i.auto.i-end in
    let least = c.loop-i-test.false in
    let whole : c.loop-i.i ≡ length instances = omega (arith, most, least) in
    let long = length-map rows (λ (r : Vec ℕ Global). r.items) ∙ c.in_ok-rows.ensures.count in
    are_dependents instances c.loop-i.i c.loop-i.edges.items (rows_of rows) whole long c.loop-i.invariant
    (subst (λ (l : Edges). AreRows l (rows_of rows)) c.deref.ensures.value c.in_ok-rows.ensures.rows)
