use Rattle.std.proofs.Common.{◌<◌, List, [], length, get_or, sym, ap, ◌∙◌, subst}
use Rattle.std.specs.List.{All, Contains}
use Rattle.pn_components.specs.Graphs.{AreComponents, Edges}
use Rattle.pn_components.specs.Rows.{rows_of}
use Rattle.pn_outer.specs.declared.instance.Link.{Link}
use Rattle.pn_dep_paths.specs.Steps.{edges_from}
use Rattle.pn_dep_paths.proofs.RelationLemmas.{edges_within, pairs_in, ranks}
use Rattle.pn_dep_paths.proofs.relation.outer_relation.Goals as goal

pub edges-requires-clause-pairs : goal.edges-requires-clause-pairs
edges-requires-clause-pairs c = λ i p h.
    let instances = c.args.instances.now in
    let outer = c.in_ok-outer.outer in
    subst (λ (l : List Link). p < length l) (sym c.deref.ensures.value)
    (pairs_in instances outer.pairs.items (rows_of outer.rows.items) c.in_ok-outer.ensures i p (subst (λ l. Contains (get_or (rows_of l) i []) p) c.deref-2.ensures.value h))

pub components-requires : goal.components-requires
components-requires c =
    let instances = c.args.instances.now in
    let outer = c.in_ok-outer.outer in
    subst (λ (l : Edges). All (λ e. (e.0 < length instances) × (e.1 < length instances)) l) (sym c.deref-3.ensures.value)
    (edges_within instances outer.pairs.items (rows_of outer.rows.items) c.in_ok-outer.ensures c.args.projects c.requires.peers c.in_ok-edges.edges.items
    (c.in_ok-edges.ensures ∙ ap (λ (l : List Link). edges_from l 0 (rows_of c.deref-2.result.now)) c.deref.ensures.value ∙ ap (λ l. edges_from outer.pairs.items 0 (rows_of l)) c.deref-2.ensures.value))

pub returns-clause-ranks : goal.returns-clause-ranks
returns-clause-ranks c =
    let instances = c.args.instances.now in
    let outer = c.in_ok-outer.outer in
    ranks instances outer.pairs.items (rows_of outer.rows.items) c.in_ok-outer.ensures c.args.projects c.requires.peers c.in_ok-edges.edges.items c.in_ok-numbers.numbers.items
    (c.in_ok-edges.ensures ∙ ap (λ (l : List Link). edges_from l 0 (rows_of c.deref-2.result.now)) c.deref.ensures.value ∙ ap (λ l. edges_from outer.pairs.items 0 (rows_of l)) c.deref-2.ensures.value)
    (subst (λ (l : Edges). AreComponents (length instances) l c.in_ok-numbers.numbers.items) c.deref-3.ensures.value c.in_ok-numbers.ensures)
