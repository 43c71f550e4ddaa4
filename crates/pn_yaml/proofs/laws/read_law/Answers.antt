use Rattle.pn_yaml.proofs.BlockApart.{read-law}
use Rattle.pn_yaml.proofs.laws.read_law.Goals as goal

pub returns : goal.returns
returns c = read-law
