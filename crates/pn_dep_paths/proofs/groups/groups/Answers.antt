use Rattle.std.proofs.Common.{◌≡◌, ℕ, List, [], length, get_or, map, sym, ap, ◌∙◌, subst}
use Rattle.std.specs.Prelude.{slice_get}
use Rattle.std.specs.List.{Contains}
use Rattle.pn_components.specs.Rows.{rows_of}
use Rattle.pn_outer.specs.declared.instance.Link.{Link}
use Rattle.pn_dep_paths.specs.Steps.{IsPairThere, group_at}
use Rattle.pn_dep_paths.proofs.GroupLemmas.{are_groups, in_three}
use Rattle.pn_dep_paths.proofs.RelationLemmas.{pairs_there}
use Rattle.pn_dep_paths.proofs.groups.groups.Goals as goal

pub row_groups-requires-clause-there : goal.row_groups-requires-clause-there
row_groups-requires-clause-there c = λ p h.
    let instances = c.args.instances.now in
    let outer = c.args.relation.now.outer in
    let folders = c.args.folders.now in
    subst (λ (l : List Link). IsPairThere (length instances) (length folders) (slice_get l p)) (sym c.as_slice-pairs.ensures.value)
    (pairs_there instances outer.pairs.items (rows_of outer.rows.items) c.requires.outer (length folders) c.requires.peers c.args.i p
    (subst (λ (l : List ℕ). Contains l p) (c.row_at-row.ensures ∙ ap (λ l. get_or (rows_of l) c.args.i []) c.deref.ensures.value) h))

pub returns : goal.returns
returns c =
    let instances = c.args.instances.now in
    let outer = c.args.relation.now.outer in
    let folders = c.args.folders.now in
    let texts = c.args.texts.now in
    let i = c.args.i in
    let numbers = c.args.relation.now.numbers.items in
    let found = c.in_ok-found.found.items in
    let is : found ≡ map (group_at folders instances numbers texts outer.pairs.items i) (get_or (rows_of outer.rows.items) i []) =
    c.in_ok-found.ensures ∙ ap (λ (l : List Link). map (group_at folders instances c.as_slice-numbers.result.now texts l i) c.row_at-row.result.now) c.as_slice-pairs.ensures.value
    ∙ ap (λ (l : List ℕ). map (group_at folders instances l texts outer.pairs.items i) c.row_at-row.result.now) c.as_slice-numbers.ensures.value
    ∙ ap (λ (l : List ℕ). map (group_at folders instances numbers texts outer.pairs.items i) l) (c.row_at-row.ensures ∙ ap (λ l. get_or (rows_of l) i []) c.deref.ensures.value) in
    in_three c.rising.result _ _ _ _ c.rising.ensures.rising c.rising.ensures.right c.rising.ensures.all
    (λ v a b d. are_groups folders instances numbers texts i c.requires.ranks outer.pairs.items (rows_of outer.rows.items) found v.items c.requires.outer is a b d)
