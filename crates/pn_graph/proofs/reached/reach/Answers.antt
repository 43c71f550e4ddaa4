use Rattle.std.proofs.Common.{◌≡◌, ℕ, List, length, sym, ap, ◌∙◌, subst}
use Rattle.std.specs.Prelude.{slice_get}
use Rattle.pn_text.specs.declared.index.PkgIx.{PkgIx}
use Rattle.pn_text.proofs.Results.{if_ok}
use Rattle.pn_graph.specs.Graphs.{Package}
use Rattle.pn_graph.specs.Lookups.{package_deps}
use Rattle.pn_graph.specs.Reaches.{IsReach}
use Rattle.pn_graph.specs.Founds.{AreWithin, AreReached, places_from}
use Rattle.pn_graph.proofs.RangeLemmas.{graph_within}
use Rattle.pn_graph.proofs.PlaceLemmas.{is_reach}
use Rattle.pn_graph.proofs.reached.reach.Goals as goal

pub explore-requires-clause-right : goal.explore-requires-clause-right
explore-requires-clause-right c =
    let p = c.args.p.now in
    subst (λ (l : List Package). (i : ℕ) → AreWithin (length l) (package_deps (slice_get l i))) (sym c.as_slice-packages.ensures) (graph_within p.root p.projects p.packages p.right)

pub returns : goal.returns
returns c =
    let packages = c.args.p.now.packages in
    let from = c.args.from.0 in
    let f = c.in_ok-found.found in
    let reached = subst (λ (l : List Package). AreReached l from f.order.items) c.as_slice-packages.ensures c.in_ok-found.ensures.reached in
    let all = is_reach packages from f.seen.items f.order.items c.in_ok-found.ensures.marked reached in
    if_ok {P = λ found. found.items ≡ places_from 0 c.deref.result.now} {Q = λ found. IsReach packages from found.items} c.places.result
    (λ found is. subst (λ (l : List PkgIx). IsReach packages from l) (sym (is ∙ ap (places_from 0) c.deref.ensures.value)) all) c.places.ensures
