use Rattle.std.proofs.Common.{sym, ◌∙◌}
use Rattle.pn_text.specs.Ids.{is_id}
use Rattle.pn_lock_shape.proofs.IdLemmas.{id_none, id_some}
use Rattle.pn_lock_shape.proofs.packages.read_id.Goals as goal

pub returns-in-Some : goal.returns-in-Some
returns-in-Some c = id_some (is_id c.args.id.now) c.args.id.now c.in-Some.id (sym c.in-Some.is ∙ c.in_ok-id.ensures)

pub returns-in-None : goal.returns-in-None
returns-in-None c = id_none (is_id c.args.id.now) c.args.id.now c.here.result c.here.ensures (sym c.in-None.is ∙ c.in_ok-id.ensures)
