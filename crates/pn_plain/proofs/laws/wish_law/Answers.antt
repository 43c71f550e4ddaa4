use Rattle.pn_plain.proofs.WishLemmas.{wish_law}
use Rattle.pn_plain.proofs.laws.wish_law.Goals as goal

pub returns : goal.returns
returns c = wish_law
