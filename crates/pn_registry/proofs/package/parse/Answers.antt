use Rattle.pn_registry.proofs.Packages.{other_refused, own_read}
use Rattle.pn_registry.proofs.package.parse.Goals as goal

pub returns-in-Ok-states_own-clause-read : goal.returns-in-Ok-states_own-clause-read
returns-in-Ok-states_own-clause-read c = own_read c.args.id.now c.args.bytes.now c.in-Ok.manifest c.in-Ok.ensures.ok c.in-Ok-states_own.ensures.own

pub returns-in-Err-clause-refused : goal.returns-in-Err-clause-refused
returns-in-Err-clause-refused c = other_refused c.args.id.now c.args.bytes.now c.in-Ok.manifest c.in-Err.fault c.in-Ok.ensures.ok c.in-Err.ensures.other
