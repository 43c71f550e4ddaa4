use Rattle.pn_memstore.proofs.AreAddressesLemmas.{numbers}
use Rattle.pn_memstore.proofs.temps.numbers.Goals as goal

pub returns : goal.returns
returns c =
    let keys = c.keys-k-items.ensures in
    numbers c.args.temps.now c.loop-k.all.items c.loop-k.k-iterator c.keys-k-items.result keys.rest keys.ordered keys.has c.loop-k.invariant c.in-None.ensures.steps.0
