use Rattle.std.proofs.Common.{rules, ◌<◌, ℕ, List, length, get_or, sym, ap, ◌∙◌, subst}
use Rattle.std.specs.Prelude.{slice_get}
use Rattle.std.specs.List.{Contains}
use Rattle.std.proofs.lemmas.List.{get_or_default}
use Rattle.pn_lock_prod.specs.Targets.{Leads, or_none}
use Rattle.pn_lock_prod.specs.Walks.{AddsAll}
use Rattle.pn_lock_prod.proofs.ExploreLemmas.{all_explored, few_met, first_explored, met_within, more_explored}
use Rattle.pn_lock_prod.proofs.ListLemmas.{row_there}
use Rattle.pn_lock_prod.proofs.walk.walk.Goals as goal

pub meet_all-requires-clause-within : goal.meet_all-requires-clause-within
meet_all-requires-clause-within c = λ k h. subst (λ (n : ℕ). k < n) (sym c.requires.count) (c.requires.within k h)

pub loop-at-init : goal.loop-at-init
loop-at-init c = record {
  marked = c.in_ok-meet_all.ensures.marked;
  count = c.meet_all.ensures.count;
  explored = first_explored (Leads c.args.snapshots.now) (Contains c.args.starts.now) c.meet_all.new.self.order.items
      (subst (λ (l : List ℕ). AddsAll (Contains c.args.starts.now) l c.meet_all.new.self.order.items) c.requires.none c.in_ok-meet_all.ensures.added);
}

pub returns-then-at-len-clause-met : goal.returns-then-at-len-clause-met
returns-then-at-len-clause-met c = all_explored (Leads c.args.snapshots.now) (Contains c.args.starts.now) c.loop-at.at c.loop-at.found.order.items c.loop-at.invariant.explored (search rules)

pub bounds-snapshots-from : goal.bounds-snapshots-from
bounds-snapshots-from c =
    let order = c.loop-at.found.order.items in
    let below : c.loop-at.at < length order = search rules in
    let is = c.index.ensures ∙ get_or_default order c.loop-at.at c.index.result.now 0 below in
    let met = met_within c.loop-at.found.seen.items order c.loop-at.at c.loop-at.invariant.marked below in
    subst (λ (k : ℕ). k < length c.args.snapshots.now) (sym is) (subst (λ (n : ℕ). get_or order c.loop-at.at 0 < n) (c.loop-at.invariant.count ∙ c.requires.count) met)

pub meet_all-requires-in-loop-at-clause-within : goal.meet_all-requires-in-loop-at-clause-within
meet_all-requires-in-loop-at-clause-within c =
    let snapshots = c.args.snapshots.now in
    let order = c.loop-at.found.order.items in
    let i = c.index.result.now in
    let below : c.loop-at.at < length order = search rules in
    let is = c.index.ensures ∙ get_or_default order c.loop-at.at i 0 below in
    let met = met_within c.loop-at.found.seen.items order c.loop-at.at c.loop-at.invariant.marked below in
    let within : i < length snapshots = subst (λ (k : ℕ). k < length snapshots) (sym is) (subst (λ (n : ℕ). get_or order c.loop-at.at 0 < n) (c.loop-at.invariant.count ∙ c.requires.count) met) in
    let row = c.deref.ensures.value ∙ c.in_ok-row.ensures ∙ sym (row_there snapshots i c.index-snapshots-from.result within c.index-snapshots-from.is) in
    λ k h. subst (λ (n : ℕ). k < n) (sym (c.loop-at.invariant.count ∙ c.requires.count)) (c.requires.there i k (subst (λ (l : List ℕ). Contains l k) row h))

pub loop-at-preserved : goal.loop-at-preserved
loop-at-preserved c =
    let snapshots = c.args.snapshots.now in
    let a = c.loop-at.found.order.items in
    let b = c.meet_all-in-loop-at.new.self.order.items in
    let i = c.index.result.now in
    let below : c.loop-at.at < length a = search rules in
    let is = c.index.ensures ∙ get_or_default a c.loop-at.at i 0 below in
    let met = met_within c.loop-at.found.seen.items a c.loop-at.at c.loop-at.invariant.marked below in
    let within : i < length snapshots = subst (λ (k : ℕ). k < length snapshots) (sym is) (subst (λ (n : ℕ). get_or a c.loop-at.at 0 < n) (c.loop-at.invariant.count ∙ c.requires.count) met) in
    let row = c.deref.ensures.value ∙ c.in_ok-row.ensures ∙ sym (row_there snapshots i c.index-snapshots-from.result within c.index-snapshots-from.is) ∙ ap (λ (k : ℕ). or_none (slice_get snapshots k)) is in
    record {
      marked = c.in_ok-meet_all-2.ensures.marked;
      count = c.meet_all-in-loop-at.ensures.count ∙ c.loop-at.invariant.count;
      explored = more_explored (Leads snapshots) (Contains c.args.starts.now) c.loop-at.at a b c.loop-at.invariant.explored below
          (subst (λ (l : List ℕ). AddsAll (Contains l) a b) row c.in_ok-meet_all-2.ensures.added);
    }

pub returns-clause-met : goal.returns-clause-met
returns-clause-met c =
    all_explored (Leads c.args.snapshots.now) (Contains c.args.starts.now) c.loop-at.at c.loop-at.found.order.items c.loop-at.invariant.explored
    (few_met c.loop-at.found.seen.items c.loop-at.found.order.items (length c.args.snapshots.now) c.loop-at.at c.loop-at.invariant.marked (c.loop-at.invariant.count ∙ c.requires.count) c.loop-at-test.false)
