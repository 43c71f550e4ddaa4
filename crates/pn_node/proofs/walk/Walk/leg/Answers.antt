use Rattle.std.proofs.Common.{◌∙◌}
use Rattle.pn_node.specs.Steps.{step_of, steps_of}
use Rattle.pn_node.specs.Legs.{Goes, EndsAt}
use Rattle.pn_node.proofs.LegLemmas.{leg_on, leg_ends}
use Rattle.pn_node.proofs.walk.Walk.leg.Goals as goal
use Rattle.pn_text.proofs.Results.{for_some, if_some}
use Rattle.pn_fs.proofs.SeenLemmas.{keeps_on}

pub returns-in-Some-2-clause-goes : goal.returns-in-Some-2-clause-goes
returns-in-Some-2-clause-goes g c =
    let inv = c.steps.invariant in
    if_some (λ t. EndsAt t c.args.self.now.at (steps_of c.args.self.now.steps.items) c.take.new.self.at (steps_of c.take.new.self.steps.items) c.in-Some-2.leg) (g.R.ReadFs.seen c.args.fs.now).tree (λ t told.
    leg_ends t c.args.self.now.at c.args.self.now.steps.items c.steps.self.at c.steps.self.steps.items c.pop.new.self.items c.in-Some.step c.take.new.self.at c.take.new.self.steps.items c.in_ok-leg.field-0 c.in-Some-2.leg
    (inv.left t told) c.in-Some.ensures.items
    (for_some (λ t. Goes t c.steps.self.at (step_of c.in-Some.step) (steps_of c.pop.new.self.items) c.take.new.self.at (steps_of c.take.new.self.steps.items) c.in_ok-leg.field-0) _ c.in_ok-leg.ensures.goes t (inv.kept.tree ∙ told))
    c.in-Some-2.is)

pub steps-preserved : goal.steps-preserved
steps-preserved g c =
    let inv = c.steps.invariant in
    record {
      kept = keeps_on _ _ _ inv.kept c.in_ok-leg.ensures.kept;
      left = λ t told.
          leg_on t c.args.self.now.at c.args.self.now.steps.items c.steps.self.at c.steps.self.steps.items c.pop.new.self.items c.in-Some.step c.take.new.self.at c.take.new.self.steps.items c.in_ok-leg.field-0
          (inv.left t told) c.in-Some.ensures.items
          (for_some (λ t. Goes t c.steps.self.at (step_of c.in-Some.step) (steps_of c.pop.new.self.items) c.take.new.self.at (steps_of c.take.new.self.steps.items) c.in_ok-leg.field-0) _ c.in_ok-leg.ensures.goes t (inv.kept.tree ∙ told))
          c.in_default-2.is;
    }
