use Rattle.pn_asked.proofs.FindLemmas.{lost_known, not_lost}
use Rattle.pn_asked.proofs.projects.is_lost.Goals as goal

pub returns-then-agree : goal.returns-then-agree
returns-then-agree c =
    not_lost c.args.importer.now c.args.rows.now c.args.alias.now _ _ c.as_slice.result.now c.agree.result c.agree.ensures c.value_at.ensures c.value_at-2.ensures c.as_slice.ensures c.if-agree.true

pub returns : goal.returns
returns c =
    lost_known c.args.importer.now c.args.rows.now c.args.alias.now _ _ c.as_slice.result.now c.agree.result c.has_alias.result c.agree.ensures c.value_at.ensures c.value_at-2.ensures c.as_slice.ensures c.if-agree.false c.has_alias.ensures
