use Rattle.std.proofs.Common.{sym}
use Rattle.pn_lock_make.proofs.OrderLemmas.{found_place, no_found}
use Rattle.pn_locking.proofs.search.place.Goals as goal

pub returns-in-Ok-clause-place : goal.returns-in-Ok-clause-place
returns-in-Ok-clause-place c = sym (found_place c.args.id.now c.args.ids.now c.in-Ok.at c.requires c.in-Ok.ensures.bound c.in-Ok.ensures.position)

pub returns-in-Err-clause-place : goal.returns-in-Err-clause-place
returns-in-Err-clause-place c = sym (no_found c.args.id.now c.args.ids.now c.in-Err.field-0 c.requires c.in-Err.ensures.position)
