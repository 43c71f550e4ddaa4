use Rattle.std.proofs.Common.{◌≡◌, ℕ, List, length, map, true, bytes_eq, sym, ap, ◌∙◌, subst, arith}
use Rattle.std.specs.List.{All, IsDistinct}
use Rattle.std.proofs.lemmas.List.{length-map}
use Rattle.pn_graph.specs.declared.links.Project.{Project}
use Rattle.pn_outer.specs.Instances.{ArePeersThere}
use Rattle.pn_text.proofs.Results.{if_ok}
use Rattle.pn_deppath.specs.Ordinals.{with_ordinals}
use Rattle.pn_deppath.specs.Paths.{id_part, is_dep_path}
use Rattle.pn_dep_paths.specs.BaseTexts.{AreBaseTexts}
use Rattle.pn_dep_paths.specs.PathsLaw.{ArePathsOf, HasNames}
use Rattle.pn_dep_paths.proofs.ConvertLemmas.{are_converted, converted_ids}
use Rattle.pn_dep_paths.proofs.PathsLawLemmas.{all_paths, path_ids}
use Rattle.pn_dep_paths.proofs.paths.dep_paths.Goals as goal

pub base_texts-requires-clause-few : goal.base_texts-requires-clause-few
base_texts-requires-clause-few c =
    let i = c.args.instances.now in
    (are_converted c.args.plain.now.packages i.packages i.links i.roots (length c.args.plain.now.projects) c.deref.result.now i.right c.requires.projects (c.deref.ensures.value ∙ c.in_ok-converted.ensures.all)).few

pub base_texts-requires-clause-within : goal.base_texts-requires-clause-within
base_texts-requires-clause-within c =
    let i = c.args.instances.now in
    (are_converted c.args.plain.now.packages i.packages i.links i.roots (length c.args.plain.now.projects) c.deref.result.now i.right c.requires.projects (c.deref.ensures.value ∙ c.in_ok-converted.ensures.all)).within

pub base_texts-requires-clause-peers : goal.base_texts-requires-clause-peers
base_texts-requires-clause-peers c =
    let i = c.args.instances.now in
    let projects = c.args.plain.now.projects in
    let long : length c.deref-2.result.now ≡ length projects = ap length (c.deref-2.ensures.value ∙ c.in_ok-folders.ensures) ∙ length-map projects (λ (q : Project). q.folder) in
    subst (λ (n : ℕ). ArePeersThere n c.deref.result.now) (sym long)
    (are_converted c.args.plain.now.packages i.packages i.links i.roots (length projects) c.deref.result.now i.right c.requires.projects (c.deref.ensures.value ∙ c.in_ok-converted.ensures.all)).peers

pub with_ordinals-requires : goal.with_ordinals-requires
with_ordinals-requires c =
    let i = c.args.instances.now in
    let few = (are_converted c.args.plain.now.packages i.packages i.links i.roots (length c.args.plain.now.projects) c.deref.result.now i.right c.requires.projects (c.deref.ensures.value ∙ c.in_ok-converted.ensures.all)).few in
    let long = c.in_ok-texts.ensures.count in
    let same = ap length c.deref-3.ensures.value in
    omega (arith, few, long, same)

-- the texts with ordinals are the instances' dep paths
own : (c : goal.After-drop-converted-2) → ArePathsOf c.deref.result.now (with_ordinals c.deref-3.result.now)
own c =
    let i = c.args.instances.now in
    let few = (are_converted c.args.plain.now.packages i.packages i.links i.roots (length c.args.plain.now.projects) c.deref.result.now i.right c.requires.projects (c.deref.ensures.value ∙ c.in_ok-converted.ensures.all)).few in
    c.paths_law.ensures.paths c.deref-2.result.now c.deref.result.now c.deref-3.result.now few (subst (All HasNames) (sym c.deref.ensures.value) c.in_ok-converted.ensures.names)
    (subst (AreBaseTexts c.deref-2.result.now c.deref.result.now) (sym c.deref-3.ensures.value) c.in_ok-texts.ensures)

pub returns-clause-paths : goal.returns-clause-paths
returns-clause-paths c = if_ok c.with_ordinals.result (λ paths is. subst (All (λ (p : List ℕ). is_dep_path p ≡ true)) (sym is) (all_paths c.deref.result.now _ (own c))) c.with_ordinals.ensures

pub returns-clause-ids : goal.returns-clause-ids
returns-clause-ids c =
    let i = c.args.instances.now in
    if_ok c.with_ordinals.result
    (λ paths is. ap (map id_part) is ∙ path_ids c.deref.result.now _ (own c)
    ∙ converted_ids c.args.plain.now.packages i.packages i.links i.roots c.deref.result.now i.right (c.deref.ensures.value ∙ c.in_ok-converted.ensures.all)) c.with_ordinals.ensures

pub returns-clause-once : goal.returns-clause-once
returns-clause-once c = if_ok c.with_ordinals.result (λ paths is. subst (IsDistinct bytes_eq) (sym is) (own c).distinct) c.with_ordinals.ensures
