use Rattle.std.proofs.Common.{List, map, length, ap, ◌∙◌}
use Rattle.pn_graph.specs.declared.links.Package.{Package}
use Rattle.pn_graph.specs.declared.links.Project.{Project}
use Rattle.pn_instances.specs.Singles.{package_links, places, project_links}
use Rattle.pn_instances.proofs.SingleLemmas.{same_instances}
use Rattle.pn_instances.proofs.singles.single.Goals as goal

pub of-requires : goal.of-requires
of-requires c =
    let p = c.args.p.now in
    same_instances p.root p.projects p.packages p.right c.in_ok-packages.packages c.in_ok-links.links c.in_ok-roots.roots
    (c.in_ok-packages.ensures ∙ ap (λ (l : List Package). places (length l)) c.as_slice.ensures)
    (c.in_ok-links.ensures ∙ ap (λ (l : List Package). map package_links l) c.as_slice-2.ensures)
    (c.in_ok-roots.ensures ∙ ap (λ (l : List Project). map project_links l) c.as_slice-3.ensures)
