use Rattle.pn_config.proofs.ValueLemmas.{pairs_end}
use Rattle.pn_config.proofs.value.member_pairs.Goals as goal

pub returns-clause-ok : goal.returns-clause-ok
returns-clause-ok c = pairs_end c.args.members.now c.loop-key.key-index c.loop-key.pairs c.loop-key-test.false c.loop-key.invariant.left
