use Rattle.std.proofs.Common.{◌≡◌, sym, ◌∙◌, Some, None, arith}
use Rattle.pn_node.specs.Find.{walk}
use Rattle.pn_node.specs.Steps.{steps_of}
use Rattle.pn_node.specs.Legs.{EndsAt}
use Rattle.pn_node.proofs.LegLemmas.{walk_there, walk_nowhere, walk_onward}
use Rattle.pn_node.proofs.walk.Walk.finish.Goals as goal
use Rattle.pn_text.proofs.Results.{for_some, if_some}
use Rattle.pn_fs.proofs.SeenLemmas.{keeps_on}

pub returns-in-There-clause-found : goal.returns-in-There-clause-found
returns-in-There-clause-found g c =
    let inv = c.legs.invariant in
    if_some (λ t. Some c.leg.new.self.at ≡ walk c.args.links t c.args.self.at (steps_of c.args.self.steps.items)) (g.R.ReadFs.seen c.args.fs.now).tree (λ t told.
    sym (inv.left t told
    ∙ walk_there c.legs.links t c.legs.self.at (steps_of c.legs.self.steps.items) c.leg.new.self.at (steps_of c.leg.new.self.steps.items) c.in_ok-leg.field-0
    (for_some (λ t. EndsAt t c.legs.self.at (steps_of c.legs.self.steps.items) c.leg.new.self.at (steps_of c.leg.new.self.steps.items) c.in_ok-leg.field-0) _ c.in_ok-leg.ensures.goes t (inv.kept.tree ∙ told)) c.in-There.is))

pub returns-in-Nowhere-clause-found : goal.returns-in-Nowhere-clause-found
returns-in-Nowhere-clause-found g c =
    let inv = c.legs.invariant in
    if_some (λ t. None ≡ walk c.args.links t c.args.self.at (steps_of c.args.self.steps.items)) (g.R.ReadFs.seen c.args.fs.now).tree (λ t told.
    sym (inv.left t told
    ∙ walk_nowhere c.legs.links t c.legs.self.at (steps_of c.legs.self.steps.items) c.leg.new.self.at (steps_of c.leg.new.self.steps.items) c.in_ok-leg.field-0
    (for_some (λ t. EndsAt t c.legs.self.at (steps_of c.legs.self.steps.items) c.leg.new.self.at (steps_of c.leg.new.self.steps.items) c.in_ok-leg.field-0) _ c.in_ok-leg.ensures.goes t (inv.kept.tree ∙ told)) c.in-Nowhere.is))

pub legs-preserved : goal.legs-preserved
legs-preserved g c =
    let inv = c.legs.invariant in
    record {
      kept = keeps_on _ _ _ inv.kept c.in_ok-leg.ensures.kept;
      left = λ t told.
          inv.left t told
          ∙ walk_onward c.legs.links t c.legs.self.at (steps_of c.legs.self.steps.items) c.leg.new.self.at (steps_of c.leg.new.self.steps.items) c.in_ok-leg.field-0
          (for_some (λ t. EndsAt t c.legs.self.at (steps_of c.legs.self.steps.items) c.leg.new.self.at (steps_of c.leg.new.self.steps.items) c.in_ok-leg.field-0) _ c.in_ok-leg.ensures.goes t (inv.kept.tree ∙ told)) c.in-Onward.is (omega arith);
    }
