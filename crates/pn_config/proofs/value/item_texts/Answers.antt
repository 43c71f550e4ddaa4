use Rattle.pn_config.proofs.ValueLemmas.{texts_end}
use Rattle.pn_config.proofs.value.item_texts.Goals as goal

pub returns-clause-ok : goal.returns-clause-ok
returns-clause-ok c = texts_end c.args.items.now c.loop-item.item-index c.loop-item.texts c.loop-item-test.false c.loop-item.invariant.left
