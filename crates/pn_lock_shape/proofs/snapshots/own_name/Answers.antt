use Rattle.std.proofs.Common.{ap, sym, ◌∙◌}
use Rattle.pn_text.specs.Ids.{id_name, is_id}
use Rattle.pn_text.proofs.Results.{if_ok}
use Rattle.pn_lock_shape.proofs.IdLemmas.{id_known, id_same, not_none}
use Rattle.pn_lock_shape.proofs.snapshots.own_name.Goals as goal

pub unreachable-requires : goal.unreachable-requires
unreachable-requires c = not_none (is_id c.split_path.result.0.now) c.split_path.result.0.now (ap is_id c.split_path.ensures.id ∙ id_known c.args.path.now c.requires) (sym c.in-None.is ∙ c.in_ok-id.ensures)

pub returns : goal.returns
returns c =
    let same = id_same (is_id c.split_path.result.0.now) c.split_path.result.0.now c.in-Some.id (sym c.in-Some.is ∙ c.in_ok-id.ensures) in
    if_ok c.copy.result (λ name e. e ∙ c.name.ensures ∙ ap id_name (same ∙ c.split_path.ensures.id)) c.copy.ensures
