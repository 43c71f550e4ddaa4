use Rattle.std.proofs.Common.{rules, ◌≡◌, ◌<◌, ℕ, List, [], length, get_or, sym, ap, ◌∙◌, subst, Vec, Global}
use Rattle.std.specs.List.{Contains}
use Rattle.std.proofs.lemmas.List.{get_or_default, length-map}
use Rattle.pn_components.specs.Rows.{rows_of}
use Rattle.pn_outer.specs.Founds.{AddsAll, IsOpen, Passes}
use Rattle.pn_outer.proofs.ExploreLemmas.{all_explored, few_met, first_explored, met_within, more_explored}
use Rattle.pn_outer.proofs.PairLemmas.{row_at}
use Rattle.pn_outer.proofs.spread.spread.Goals as goal

pub meet_all-requires-clause-within : goal.meet_all-requires-clause-within
meet_all-requires-clause-within c = λ k h. subst (λ (n : ℕ). k < n) (sym c.requires.count) (c.requires.starts k h)

pub loop-at-init : goal.loop-at-init
loop-at-init c = record {
  marked = c.in_ok-meet_all.ensures.marked;
  count = c.meet_all.ensures.count;
  explored = first_explored (Passes c.args.instances.now c.args.name.now (rows_of c.args.dependents.now)) (Contains c.args.starts.now) c.meet_all.new.self.order.items
      (subst (λ (l : List ℕ). AddsAll (Contains c.args.starts.now) l c.meet_all.new.self.order.items) c.requires.none c.in_ok-meet_all.ensures.added);
}

pub returns-then-at-len-clause-met : goal.returns-then-at-len-clause-met
returns-then-at-len-clause-met c =
    all_explored (Passes c.args.instances.now c.args.name.now (rows_of c.args.dependents.now)) (Contains c.args.starts.now) c.loop-at.at c.loop-at.found.order.items c.loop-at.invariant.explored (search rules)

pub bounds-dependents-from : goal.bounds-dependents-from
bounds-dependents-from c =
    let order = c.loop-at.found.order.items in
    let below : c.loop-at.at < length order = search rules in
    let is = c.index.ensures ∙ get_or_default order c.loop-at.at c.index.result.now 0 below in
    let met = met_within c.loop-at.found.seen.items order c.loop-at.at c.loop-at.invariant.marked below in
    subst (λ (k : ℕ). k < length c.args.dependents.now) (sym is)
    (subst (λ (n : ℕ). get_or order c.loop-at.at 0 < n) (c.loop-at.invariant.count ∙ c.requires.count ∙ sym c.requires.rows) met)

pub meet_open-requires-clause-within : goal.meet_open-requires-clause-within
meet_open-requires-clause-within c =
    let dependents = c.args.dependents.now in
    let order = c.loop-at.found.order.items in
    let i = c.index.result.now in
    let below : c.loop-at.at < length order = search rules in
    let is = c.index.ensures ∙ get_or_default order c.loop-at.at i 0 below in
    let met = met_within c.loop-at.found.seen.items order c.loop-at.at c.loop-at.invariant.marked below in
    let within : i < length dependents = subst (λ (k : ℕ). k < length dependents) (sym is)
    (subst (λ (n : ℕ). get_or order c.loop-at.at 0 < n) (c.loop-at.invariant.count ∙ c.requires.count ∙ sym c.requires.rows) met) in
    let row = c.as_slice.ensures.value ∙ sym (row_at dependents i c.index-dependents-from.result within c.index-dependents-from.is) in
    λ k h. subst (λ (n : ℕ). k < n) (length-map dependents (λ (r : Vec ℕ Global). r.items) ∙ c.requires.rows) (c.requires.within i k (subst (λ (l : List ℕ). Contains l k) row h))

pub loop-at-preserved : goal.loop-at-preserved
loop-at-preserved c =
    let instances = c.args.instances.now in
    let name = c.args.name.now in
    let dependents = c.args.dependents.now in
    let a = c.loop-at.found.order.items in
    let b = c.meet_open.new.self.order.items in
    let i = c.index.result.now in
    let below : c.loop-at.at < length a = search rules in
    let is = c.index.ensures ∙ get_or_default a c.loop-at.at i 0 below in
    let met = met_within c.loop-at.found.seen.items a c.loop-at.at c.loop-at.invariant.marked below in
    let within : i < length dependents = subst (λ (k : ℕ). k < length dependents) (sym is)
    (subst (λ (n : ℕ). get_or a c.loop-at.at 0 < n) (c.loop-at.invariant.count ∙ c.requires.count ∙ sym c.requires.rows) met) in
    let row = c.as_slice.ensures.value ∙ sym (row_at dependents i c.index-dependents-from.result within c.index-dependents-from.is) ∙ ap (λ (k : ℕ). get_or (rows_of dependents) k []) is in
    record {
      marked = c.in_ok-meet_open.ensures.marked;
      count = c.meet_open.ensures.count ∙ c.loop-at.invariant.count;
      explored = more_explored (Passes instances name (rows_of dependents)) (Contains c.args.starts.now) c.loop-at.at a b c.loop-at.invariant.explored below
          (subst (λ (l : List ℕ). AddsAll (IsOpen instances name l) a b) row c.in_ok-meet_open.ensures.added);
    }

pub returns-clause-met : goal.returns-clause-met
returns-clause-met c =
    all_explored (Passes c.args.instances.now c.args.name.now (rows_of c.args.dependents.now)) (Contains c.args.starts.now) c.loop-at.at c.loop-at.found.order.items c.loop-at.invariant.explored
    (few_met c.loop-at.found.seen.items c.loop-at.found.order.items (length c.args.instances.now) c.loop-at.at c.loop-at.invariant.marked (c.loop-at.invariant.count ∙ c.requires.count) c.loop-at-test.false)
