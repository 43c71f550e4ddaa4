use Rattle.pn_yaml.proofs.Escaping.{no_escape}
use Rattle.pn_yaml.proofs.escape.escape_at.Goals as goal

pub returns-in_default : goal.returns-in_default
returns-in_default c = no_escape c.args.line c.args.text.now c.in_default.ensures
