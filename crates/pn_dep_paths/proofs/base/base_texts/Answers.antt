use Rattle.std.proofs.Common.{◌≡◌, ◌<◌, ℕ, List, [], length, get_or, sym, ap, ◌∙◌, subst, arith, Vec, Global}
use Rattle.std.specs.List.{Contains}
use Rattle.std.proofs.lemmas.List.{get_or-map}
use Rattle.pn_components.specs.Rows.{rows_of}
use Rattle.pn_dep_paths.specs.Steps.{AreMembers}
use Rattle.pn_dep_paths.proofs.WrittenLemmas.{next_component}
use Rattle.pn_dep_paths.proofs.base.base_texts.Goals as goal

row_is : (rows : List (Vec ℕ Global)) (all : List (Vec ℕ Global)) (c : ℕ) (row : Vec ℕ Global) (items : List ℕ) → all ≡ rows → c < length all → row ≡ get_or all c row → items ≡ row.items → items ≡ get_or (rows_of rows) c []
row_is rows all c row items same lt is it =
    it ∙ ap (λ (r : Vec ℕ Global). r.items) (is ∙ ap (λ l. get_or l c row) same)
    ∙ sym (get_or-map (λ (r : Vec ℕ Global). r.items) rows c row [] (subst (λ (l : List (Vec ℕ Global)). c < length l) same lt))

pub write_texts-requires-clause-members : goal.write_texts-requires-clause-members
write_texts-requires-clause-members c = λ k h.
    let numbers = c.in_ok-relation.relation.numbers.items in
    let rows = rows_of c.in_ok-components.components.items in
    let ranks = c.in_ok-relation.ensures.ranks in
    let members : AreMembers numbers rows = subst (λ (l : List ℕ). AreMembers l rows) c.deref.ensures.value c.in_ok-components.ensures.rows in
    let at = row_is c.in_ok-components.components.items c.deref-row-items.result.now c.loop-c.c c.row-item.result c.deref-in-loop-c.result.now c.deref-row-items.ensures.value c.loop-c-test.true c.row-item.is c.deref-in-loop-c.ensures.value in
    let e = members.right c.loop-c.c k (subst (λ (l : List ℕ). Contains l k) at h) in
    (let lt = e.0 in let long = ranks.count in omega (arith, lt, long), e.1)

pub loop-c-preserved : goal.loop-c-preserved
loop-c-preserved c =
    let numbers = c.in_ok-relation.relation.numbers.items in
    let rows = rows_of c.in_ok-components.components.items in
    let ranks = c.in_ok-relation.ensures.ranks in
    let members : AreMembers numbers rows = subst (λ (l : List ℕ). AreMembers l rows) c.deref.ensures.value c.in_ok-components.ensures.rows in
    let at = row_is c.in_ok-components.components.items c.deref-row-items.result.now c.loop-c.c c.row-item.result c.deref-in-loop-c.result.now c.deref-row-items.ensures.value c.loop-c-test.true c.row-item.is c.deref-in-loop-c.ensures.value in
    record {
      count = c.in_ok-write_texts.ensures.count ∙ c.loop-c.invariant.count;
      written = next_component c.args.folders.now c.args.instances.now numbers c.deref-in-loop-c.result.now c.write_texts.new.texts.items c.loop-c.c
          (λ i lt same. subst (λ (l : List ℕ). Contains l i) (sym at) (members.all c.loop-c.c i (let long = ranks.count in omega (arith, lt, long)) same))
          c.in_ok-write_texts.ensures.written;
    }

pub returns : goal.returns
returns c = record {
  count = c.loop-c.invariant.count;
  each = λ i lt.
      let ranks = c.in_ok-relation.ensures.ranks in
      let few = ranks.few i lt in
      let past = c.loop-c-test.false in
      let long = c.in_ok-components.ensures.count in
      let same = c.deref.ensures.len in
      let all = c.deref-row-items.ensures.len in
      let count = ranks.count in
      let numbers = ap length c.deref.ensures.value in
      let rows = ap length c.deref-row-items.ensures.value in
      c.loop-c.invariant.written i (lt, omega (arith, few, past, long, count, numbers, rows));
}
