use Rattle.std.proofs.Common.{◌≡◌, Some}
use Rattle.std.specs.Prelude.{◌↔◌, IsTrue}
use Rattle.pn_fs.specs.Tree.{folder}
use Rattle.pn_node.specs.Steps.{steps_of}
use Rattle.pn_node.specs.Lookups.{LeadsIn}
use Rattle.pn_node.proofs.Ups.{leads_from, leads_root}
use Rattle.pn_node.proofs.lookup.walk_into.Goals as goal
use Rattle.pn_text.proofs.Results.{for_some, if_some}

pub returns-in_ok-walk_from-clause-leads : goal.returns-in_ok-walk_from-clause-leads
returns-in_ok-walk_from-clause-leads g c =
    let w = c.in_ok-walk_from.field-0 in
    if_some (λ t. LeadsIn t c.args.folder.now c.args.name.now w) (g.R.ReadFs.seen c.args.fs.now).tree (λ t told.
    let here = for_some (λ t. IsTrue c.in_ok-is_folder.field-0 ↔ (t c.args.folder.now ≡ Some folder)) _ c.in_ok-is_folder.ensures.folder t told in
    leads_from t (g.met.R.ReadFs.well_formed c.args.fs.now t told) c.args.folder.now c.args.name.now w.at (steps_of w.steps.items) (here.0 c.if-branch.true) c.in_ok-walk_from.ensures.at c.in_ok-walk_from.ensures.steps)

pub returns-in_ok-walk_down-clause-leads : goal.returns-in_ok-walk_down-clause-leads
returns-in_ok-walk_down-clause-leads g c =
    let w = c.in_ok-walk_down.field-0 in
    if_some (λ t. LeadsIn t c.args.folder.now c.args.name.now w) (g.R.ReadFs.seen c.args.fs.now).tree (λ t told.
    leads_root t c.args.folder.now c.args.name.now w.at (steps_of w.steps.items) c.in_ok-walk_down.ensures.at c.in_ok-walk_down.ensures.steps)
