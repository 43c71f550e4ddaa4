use Rattle.pn_registry.proofs.GivenLemmas.{nothing_listings}
use Rattle.pn_registry.proofs.walk.list_folder.Goals as goal

pub returns-in_err-names-clause-gave : goal.returns-in_err-names-clause-gave
returns-in_err-names-clause-gave g c = nothing_listings c.args.at.now (g.R.ReadFs.seen c.args.registry.now) (g.R.ReadFs.seen c.names_of.new.registry) 0 c.in_err-names.ensures.gave_none
