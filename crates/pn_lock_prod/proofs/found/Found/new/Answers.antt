use Rattle.std.proofs.Common.{rules}
use Rattle.pn_lock_prod.proofs.FoundLemmas.{none_marked}
use Rattle.pn_lock_prod.proofs.found.Found.new.Goals as goal

pub returns-clause-marked : goal.returns-clause-marked
returns-clause-marked c = search (rules, none_marked c.args.count)
