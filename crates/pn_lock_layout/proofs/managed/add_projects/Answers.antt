use Rattle.std.proofs.Common.{◌∙◌, ◌≤◌, ◌∷◌, ap, length, subst, sym}
use Rattle.pn_text.specs.declared.limits.TheConstants.{PATH_LIMIT}
use Rattle.pn_text.specs.Name.{modules}
use Rattle.pn_text.specs.Path.{path_text}
use Rattle.pn_tree.specs.Trees.{Managed}
use Rattle.pn_lock_layout.specs.Layouts.{project_managed}
use Rattle.pn_lock_layout.specs.Places.{folder_of}
use Rattle.pn_lock_layout.proofs.LockLemmas.{item_in}
use Rattle.pn_lock_layout.proofs.StepLemmas.{folder_here, taken}
use Rattle.pn_lock_layout.proofs.managed.add_projects.Goals as goal

pub modules_in-requires : goal.modules_in-requires
modules_in-requires c =
    let i = c.index-importers-n.result in
    let is = folder_here (folder_of c.args.root.now) c.args.importers.now c.args.projects.now c.loop-n.n i c.index-projects-n.result c.requires.projects c.loop-n-test.true c.index-importers-n.is c.index-projects-n.is in
    subst (λ p. length (path_text (modules ∷ p)) ≤ PATH_LIMIT) (sym is) (c.requires.short i (item_in c.args.importers.now c.loop-n.n i c.loop-n-test.true c.index-importers-n.is))

pub loop-n-preserved : goal.loop-n-preserved
loop-n-preserved c =
    let i = c.index-importers-n.result in
    let is = folder_here (folder_of c.args.root.now) c.args.importers.now c.args.projects.now c.loop-n.n i c.index-projects-n.result c.requires.projects c.loop-n-test.true c.index-importers-n.is c.index-projects-n.is in
    let folder = c.in_ok-modules.ensures ∙ ap (λ p. modules ∷ p) is in
    let one : Managed = (c.in_ok-modules.modules, c.in_ok-marker.marker) in
    taken (project_managed c.args.root.now) c.args.importers.now c.loop-n.n i one c.args.all.now.items c.loop-n.all.items c.push.new.self.items c.loop-n-test.true c.index-importers-n.is
    (λ k. let m : Managed = (folder k, c.in_ok-marker.ensures k) in m) c.in_ok-push.ensures.items c.loop-n.invariant
