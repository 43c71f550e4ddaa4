use Rattle.pn_walk.specs.declared.wish.Place.TheVariants.{Project as at_project, Package as at_package}
use Rattle.pn_shape.proofs.DepListLemmas.{none_yet}
use Rattle.pn_shape.proofs.lists.DepLists.empty.Goals as goal

pub returns : goal.returns
returns c = record {
  projects_have = none_yet at_project c.args.projects c.in_ok-of_projects.of_projects.items c.in_ok-of_projects.ensures;
  packages_have = none_yet at_package c.args.packages c.in_ok-of_packages.of_packages.items c.in_ok-of_packages.ensures;
}
