use Rattle.std.proofs.Common.{rules, ◌≡◌, ◌<◌, ℕ, List, length, get_or, sym, ap, ◌∙◌, subst}
use Rattle.std.specs.Prelude.{slice_get, option_map}
use Rattle.pn_graph.specs.FreeNames.{deps_past, passing}
use Rattle.pn_graph.proofs.PassLemmas.{passing_deps, past_within}
use Rattle.std.proofs.lemmas.List.{get_or_default}
use Rattle.pn_graph.specs.Graphs.{Dep}
use Rattle.pn_graph.specs.Lookups.{package_deps}
use Rattle.pn_graph.specs.Reaches.{LeadsTo}
use Rattle.pn_graph.specs.Founds.{AddsAll}
use Rattle.pn_graph.proofs.ReachLemmas.{first_explored, more_explored, all_explored, met_within, deps_there, few_met}
use Rattle.pn_graph.proofs.explored.explore.Goals as goal

pub loop-at-init : goal.loop-at-init
loop-at-init c = record {
  marked = c.in_ok-meet.ensures.marked;
  count = c.meet.ensures.count ∙ c.in_ok-found.ensures.count;
  explored = first_explored (passing (option_map (λ n. n.now) c.args.past) c.args.packages.now) c.args.from c.meet.new.self.order.items
      (subst (λ (l : List ℕ). AddsAll (λ k. k ≡ c.args.from) l c.meet.new.self.order.items) c.in_ok-found.ensures.none c.in_ok-meet.ensures.added);
}

pub returns-then-at-len-clause-reached : goal.returns-then-at-len-clause-reached
returns-then-at-len-clause-reached c = all_explored (passing (option_map (λ n. n.now) c.args.past) c.args.packages.now) c.args.from c.loop-at.at c.loop-at.found.order.items c.loop-at.invariant.explored (search rules)

pub bounds-packages-package : goal.bounds-packages-package
bounds-packages-package c =
    let order = c.loop-at.found.order.items in
    let below : c.loop-at.at < length order = search rules in
    let is = c.index.ensures ∙ get_or_default order c.loop-at.at c.index.result.now 0 below in
    let within = met_within c.loop-at.found.seen.items order c.loop-at.at c.loop-at.invariant.marked below in
    subst (λ (k : ℕ). k < length c.args.packages.now) (sym is) (subst (λ (n : ℕ). get_or order c.loop-at.at 0 < n) c.loop-at.invariant.count within)

pub meet_deps-requires-clause-within : goal.meet_deps-requires-clause-within
meet_deps-requires-clause-within c =
    let packages = c.args.packages.now in
    let order = c.loop-at.found.order.items in
    let i = c.index.result.now in
    let below : c.loop-at.at < length order = search rules in
    let is = c.index.ensures ∙ get_or_default order c.loop-at.at i 0 below in
    let met = met_within c.loop-at.found.seen.items order c.loop-at.at c.loop-at.invariant.marked below in
    let within : i < length packages = subst (λ (k : ℕ). k < length packages) (sym is) (subst (λ (n : ℕ). get_or order c.loop-at.at 0 < n) c.loop-at.invariant.count met) in
    let past = option_map (λ n. n.now) c.args.past in
    let there = ap (deps_past past) (deps_there packages i c.index-packages-package.result within ∙ sym c.as_slice.ensures) ∙ sym c.followed.ensures in
    λ k leads. subst (λ (n : ℕ). k < n) (sym c.loop-at.invariant.count)
    (past_within past (length packages) (package_deps (slice_get packages i)) (c.requires.right i) k (subst (λ (l : List Dep). LeadsTo l k) (sym there) leads))

pub loop-at-preserved : goal.loop-at-preserved
loop-at-preserved c =
    let packages = c.args.packages.now in
    let a = c.loop-at.found.order.items in
    let b = c.meet_deps.new.self.order.items in
    let i = c.index.result.now in
    let below : c.loop-at.at < length a = search rules in
    let is = c.index.ensures ∙ get_or_default a c.loop-at.at i 0 below in
    let met = met_within c.loop-at.found.seen.items a c.loop-at.at c.loop-at.invariant.marked below in
    let within : i < length packages = subst (λ (k : ℕ). k < length packages) (sym is) (subst (λ (n : ℕ). get_or a c.loop-at.at 0 < n) c.loop-at.invariant.count met) in
    let past = option_map (λ n. n.now) c.args.past in
    let deps = c.as_slice.ensures ∙ sym (deps_there packages i c.index-packages-package.result within) ∙ ap (λ (k : ℕ). package_deps (slice_get packages k)) is in
    let there = c.followed.ensures ∙ ap (deps_past past) deps ∙ sym (passing_deps past packages (get_or a c.loop-at.at 0)) in
    record {
      marked = c.in_ok-meet_deps.ensures.marked;
      count = c.meet_deps.ensures.count ∙ c.loop-at.invariant.count;
      explored = more_explored (passing past packages) c.args.from c.loop-at.at a b c.loop-at.invariant.explored below
          (subst (λ (l : List Dep). AddsAll (LeadsTo l) a b) there c.in_ok-meet_deps.ensures.added);
    }

pub returns-clause-reached : goal.returns-clause-reached
returns-clause-reached c =
    all_explored (passing (option_map (λ n. n.now) c.args.past) c.args.packages.now) c.args.from c.loop-at.at c.loop-at.found.order.items c.loop-at.invariant.explored
    (few_met c.loop-at.found.seen.items c.loop-at.found.order.items (length c.args.packages.now) c.loop-at.at c.loop-at.invariant.marked c.loop-at.invariant.count c.loop-at-test.false)
