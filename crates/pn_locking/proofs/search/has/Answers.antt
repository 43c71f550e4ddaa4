use Rattle.std.proofs.Common.{sym, ap, ◌∙◌}
use Rattle.std.specs.Prelude.{is_some}
use Rattle.pn_lock_make.proofs.OrderLemmas.{found_place, no_found}
use Rattle.pn_locking.proofs.PlaceLemmas.{in_place}
use Rattle.pn_locking.proofs.search.has.Goals as goal

pub returns-in-Ok : goal.returns-in-Ok
returns-in-Ok c = sym (in_place c.args.name.now c.args.names.now ∙ ap is_some (found_place c.args.name.now c.args.names.now c.in-Ok.field-0 c.requires c.in-Ok.ensures.bound c.in-Ok.ensures.position))

pub returns-in-Err : goal.returns-in-Err
returns-in-Err c = sym (in_place c.args.name.now c.args.names.now ∙ ap is_some (no_found c.args.name.now c.args.names.now c.in-Err.field-0 c.requires c.in-Err.ensures.position))
