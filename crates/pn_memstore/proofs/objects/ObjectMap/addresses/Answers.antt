use Rattle.pn_memstore.proofs.AreAddressesLemmas.{addresses}
use Rattle.pn_memstore.proofs.objects.ObjectMap.addresses.Goals as goal

pub returns : goal.returns
returns c =
    let keys = c.keys-at-items.ensures in
    addresses c.args.self.now c.loop-at.all.items c.loop-at.at-iterator c.keys-at-items.result keys.rest keys.ordered keys.has c.loop-at.invariant c.in-None.ensures.steps.0
