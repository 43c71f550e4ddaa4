use Rattle.std.proofs.Common.{◌≤◌, ◌∷◌, ap, length, map, subst, sym}
use Rattle.pn_text.specs.declared.limits.TheConstants.{PATH_LIMIT}
use Rattle.pn_text.specs.Name.{modules}
use Rattle.pn_text.specs.Path.{path_text}
use Rattle.pn_lock_layout.specs.Folders.{found_folder}
use Rattle.pn_lock_layout.specs.Layouts.{all_dependencies, project_tops, top_of}
use Rattle.pn_lock_layout.specs.Places.{folder_of}
use Rattle.pn_lock_layout.proofs.LockLemmas.{item_in}
use Rattle.pn_lock_layout.proofs.StepLemmas.{folder_here, taken_flat}
use Rattle.pn_lock_layout.proofs.tops.add_projects.Goals as goal

pub add_project-requires : goal.add_project-requires
add_project-requires c =
    let i = c.index-importers-n.result in
    let is = folder_here (folder_of c.args.root.now) c.args.importers.now c.args.projects.now c.loop-n.n i c.index-projects-n.result c.requires.projects c.loop-n-test.true c.index-importers-n.is c.index-projects-n.is in
    subst (λ p. length (path_text (modules ∷ p)) ≤ PATH_LIMIT) (sym is) (c.requires.short i (item_in c.args.importers.now c.loop-n.n i c.loop-n-test.true c.index-importers-n.is))

pub loop-n-preserved : goal.loop-n-preserved
loop-n-preserved c =
    let i = c.index-importers-n.result in
    let lead = found_folder c.args.folders.now in
    let is = folder_here (folder_of c.args.root.now) c.args.importers.now c.args.projects.now c.loop-n.n i c.index-projects-n.result c.requires.projects c.loop-n-test.true c.index-importers-n.is c.index-projects-n.is in
    taken_flat (project_tops lead c.args.root.now) c.args.importers.now c.loop-n.n i c.args.all.now.items c.loop-n.all.items c.add_project.new.all.items (map (top_of lead c.index-projects-n.result) (all_dependencies i)) c.loop-n-test.true c.index-importers-n.is
    (ap (λ p. map (top_of lead p) (all_dependencies i)) is) c.in_ok-add_project.ensures c.loop-n.invariant
