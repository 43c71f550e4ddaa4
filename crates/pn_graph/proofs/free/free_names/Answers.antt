use Rattle.std.proofs.Common.{ℕ, List, length, sym, subst}
use Rattle.std.specs.Prelude.{slice_get}
use Rattle.std.specs.List.{AllPairs, Contains}
use Rattle.pn_graph.specs.Graphs.{Package}
use Rattle.pn_graph.specs.Lookups.{package_deps}
use Rattle.pn_graph.specs.Founds.{AreWithin, AreReached}
use Rattle.pn_graph.specs.FreeNames.{IsFree, Keeps}
use Rattle.pn_graph.proofs.RangeLemmas.{graph_within}
use Rattle.pn_graph.proofs.FreeLemmas.{AreKept, Below, HasPeers, all_within, are_free, candidate, more_kept, whole}
use Rattle.pn_graph.proofs.free.free_names.Goals as goal

pub explore-requires-clause-right : goal.explore-requires-clause-right
explore-requires-clause-right c =
    let p = c.args.p.now in
    subst (λ (l : List Package). (i : ℕ) → AreWithin (length l) (package_deps (slice_get l i))) (sym c.as_slice-packages.ensures) (graph_within p.root p.projects p.packages p.right)

pub gather-requires : goal.gather-requires
gather-requires c = λ k h.
    let f = c.in_ok-reached.reached in
    all_within f.seen.items f.order.items (length c.as_slice-packages.result.now) c.in_ok-reached.ensures.marked c.in_ok-reached.ensures.count k (subst (λ (l : List ℕ). Contains l k) c.deref.ensures.value h)

pub keep-requires-clause-right : goal.keep-requires-clause-right
keep-requires-clause-right c =
    let p = c.args.p.now in
    subst (λ (l : List Package). (i : ℕ) → AreWithin (length l) (package_deps (slice_get l i))) (sym c.as_slice-packages.ensures) (graph_within p.root p.projects p.packages p.right)

pub loop-name-preserved : goal.loop-name-preserved
loop-name-preserved c =
    let packages = c.args.p.now.packages in
    let names = c.deref-name-items.result.now in
    let rises = subst (λ (l : List (List ℕ)). AllPairs Below l) (sym c.deref-name-items.ensures.value) c.in_ok-names.ensures.rises in
    let keeps = subst (λ (l : List Package). Keeps l c.args.of.0 c.name-item.result c.loop-name.free.items c.keep.new.free.items) c.as_slice-packages.ensures c.in_ok-keep.ensures in
    more_kept packages c.args.of.0 names c.loop-name.name-index c.name-item.result c.loop-name.free.items c.keep.new.free.items rises c.loop-name-test.true c.name-item.is c.loop-name.invariant keeps

pub returns : goal.returns
returns c =
    let packages = c.args.p.now.packages in
    let of = c.args.of.0 in
    let f = c.in_ok-reached.reached in
    let names = c.deref-name-items.result.now in
    let free = c.loop-name.free.items in
    let reached = subst (λ (l : List Package). AreReached l of f.order.items) c.as_slice-packages.ensures c.in_ok-reached.ensures.reached in
    let order = subst (λ (l : List ℕ). HasPeers c.as_slice-packages.result.now l c.in_ok-gather.field-0.items) c.deref.ensures.value c.in_ok-gather.ensures in
    let has = subst (λ (l : List Package). HasPeers l f.order.items c.in_ok-gather.field-0.items) c.as_slice-packages.ensures order in
    let all = λ (n : List ℕ) (g : IsFree packages n of). subst (λ (l : List (List ℕ)). Contains l n) (sym c.deref-name-items.ensures.value)
    (c.in_ok-names.ensures.all n (candidate packages of f.order.items c.in_ok-gather.field-0.items reached has n g)) in
    are_free packages of names free all
    (subst (λ (l : List (List ℕ)). AreKept packages of l free) (whole names c.loop-name.name-index c.loop-name.auto.name-index-end c.loop-name-test.false) c.loop-name.invariant)
