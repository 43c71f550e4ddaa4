use Rattle.pn_yaml_print.proofs.PrintedNodes.{take-spaces}
use Rattle.pn_yaml_print.proofs.level.spaces.Goals as goal

pub returns : goal.returns
returns c = take-spaces c.args.count 128 c.requires
