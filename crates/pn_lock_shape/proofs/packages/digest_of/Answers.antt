use Rattle.pn_lock_shape.proofs.DigestLemmas.{digest_exact}
use Rattle.pn_lock_shape.proofs.packages.digest_of.Goals as goal

pub returns : goal.returns
returns c = digest_exact c.args.text.now c.read.result c.read.ensures.exact
