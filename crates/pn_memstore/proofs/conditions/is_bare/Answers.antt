use Rattle.pn_memstore.proofs.AreAddressesLemmas.{bare}
use Rattle.pn_memstore.proofs.conditions.is_bare.Goals as goal

pub returns-in-Some : goal.returns-in-Some
returns-in-Some c = bare c.in-Some.folder.now c.args.world.now c.args.k c.is_empty.result c.in-Some.ensures.value c.is_empty.ensures
