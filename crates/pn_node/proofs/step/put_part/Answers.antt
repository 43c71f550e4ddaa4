use Rattle.pn_node.proofs.StepTexts.{put_pushed}
use Rattle.pn_node.proofs.step.put_part.Goals as goal

pub returns-in_ok-push : goal.returns-in_ok-push
returns-in_ok-push c = put_pushed c.args.part.now c.args.steps.now.items c.push.new.self.items c.in_ok-step.field-0 c.in-Some.step c.in_ok-step.ensures c.in-Some.is c.in_ok-push.ensures.items
