use Rattle.std.proofs.Common.{◌≡◌, ◌<◌, ℕ, List, ◌∙◌, sym, ap, subst, map, arith, Vec, Global}
use Rattle.std.proofs.lemmas.List.{length-map}
use Rattle.std.proofs.lemmas.List.Elements.{All-contains}
use Rattle.pn_text.proofs.Results.{if_ok}
use Rattle.pn_components.specs.declared.walk.Part.{Part}
use Rattle.pn_components.specs.Graphs.{AreComponents}
use Rattle.pn_components.specs.Rows.{rows_of}
use Rattle.pn_components.specs.Walks.{IsWalk, number_of}
use Rattle.pn_components.proofs.EndLemmas.{components_of}
use Rattle.pn_components.proofs.strong.components.Goals as goal

pub targets-requires : goal.targets-requires
targets-requires c = λ k d lt. (c.requires k d lt).0

pub new-requires-clause-within : goal.new-requires-clause-within
new-requires-clause-within c = λ a b leads.
    let edge = All-contains (λ (e : ℕ × ℕ). (e.0 < c.args.count) × (e.1 < c.args.count)) c.args.edges.now (a, b) c.requires (c.in_ok-rows.ensures.rows.leads a b leads) in
    let low = edge.1 in
    let long = c.in_ok-rows.ensures.count in
    omega (arith, low, long, length-map c.in_ok-rows.rows.items (λ (r : Vec ℕ Global). r.items))

pub returns : goal.returns
returns c =
    let w = c.loop-root.walk in
    let now = c.loop-root.invariant in
    let rows = rows_of w.rows.items in
    let walk = subst (λ (p : List Part). IsWalk rows w.marks.items w.stack.items p w.waiting.items w.closed) now.none now.walk in
    let past = c.loop-root-test.false in
    let all = components_of c.args.edges.now rows w.marks.items w.stack.items w.waiting.items w.closed c.args.count walk now.rows
    (length-map w.rows.items (λ (r : Vec ℕ Global). r.items) ∙ now.count) c.requires (λ v lt. now.met v (omega (arith, lt, past))) in
    if_ok {P = λ v. v.items ≡ map number_of c.deref.result.now} {Q = λ v. AreComponents c.args.count c.args.edges.now v.items} c.numbers.result
    (λ v is. subst (λ (l : List ℕ). AreComponents c.args.count c.args.edges.now l) (sym (is ∙ ap (map number_of) c.deref.ensures.value)) all) c.numbers.ensures
