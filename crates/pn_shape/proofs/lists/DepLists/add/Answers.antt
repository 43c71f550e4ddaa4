use Rattle.std.proofs.Common.{◌≡◌, ◌<◌, [], ◌∷◌, length, refl, subst}
use Rattle.pn_text.proofs.Results.{on_ok}
use Rattle.pn_graph.specs.declared.links.Dep.{Dep}
use Rattle.pn_walk.specs.Calls.{link_of}
use Rattle.pn_walk.specs.Walks.{Link}
use Rattle.pn_walk.specs.declared.wish.Place.TheVariants.{Project as at_project, Package as at_package}
use Rattle.pn_shape.specs.Shapes.{dep_to}
use Rattle.pn_shape.specs.Fits.{IsPlace}
use Rattle.pn_shape.proofs.LinkLemmas.{one_absent}
use Rattle.pn_shape.proofs.DepListLemmas.{elsewhere, put_here, no_project, no_package}
use Rattle.pn_shape.proofs.lists.DepLists.add.Goals as goal

pub returns-in_default : goal.returns-in_default
returns-in_default c = λ p k links h.
    let l : Link = link_of c.args.taken in
    let none : dep_to l.turn l.to ≡ [] = c.in_default.ensures l.turn refl in
    record {
      projects_have = elsewhere at_project p links l c.args.self.now.projects.items (λ j. one_absent (at_project j) l none) h.projects_have;
      packages_have = elsewhere at_package k links l c.args.self.now.packages.items (λ j. one_absent (at_package j) l none) h.packages_have;
    }

pub returns-in-Project : goal.returns-in-Project
returns-in-Project c =
    let l : Link = link_of c.args.taken in
    let old = c.args.self.now in
    let q = c.in-Project.at in
    let dep : Dep = c.in-Some.dep in
    let some : dep_to l.turn l.to ≡ dep ∷ [] = c.in-Some.ensures l.turn refl in
    let who : l.turn.who ≡ at_project q = c.in-Project.is in
    let within : q < length old.projects.items = subst (IsPlace (length old.projects.items) (length old.packages.items)) who c.requires.who in
    on_ok c.put.result (λ made. λ p k links h. record {
      projects_have = put_here at_project (λ i j. refl) p q links l dep old.projects.items c.put.new.lists.items who within some made h.projects_have;
      packages_have = elsewhere at_package k links l old.packages.items (no_package l q who) h.packages_have;
    }) c.put.ensures

pub returns-in-Package : goal.returns-in-Package
returns-in-Package c =
    let l : Link = link_of c.args.taken in
    let old = c.args.self.now in
    let q = c.in-Package.at in
    let dep : Dep = c.in-Some.dep in
    let some : dep_to l.turn l.to ≡ dep ∷ [] = c.in-Some.ensures l.turn refl in
    let who : l.turn.who ≡ at_package q = c.in-Package.is in
    let within : q < length old.packages.items = subst (IsPlace (length old.projects.items) (length old.packages.items)) who c.requires.who in
    on_ok c.put-in-Package.result (λ made. λ p k links h. record {
      projects_have = elsewhere at_project p links l old.projects.items (no_project l q who) h.projects_have;
      packages_have = put_here at_package (λ i j. refl) k q links l dep old.packages.items c.put-in-Package.new.lists.items who within some made h.packages_have;
    }) c.put-in-Package.ensures
