use Rattle.pn_published.proofs.OneShelf.{published}
use Rattle.pn_published.proofs.laws.published_law.Goals as goal

pub returns : goal.returns
returns c = published
