use Rattle.pn_storecore.specs.declared.step.StoreStep.TheVariants.{Shard}
use Rattle.pn_memstore.proofs.puts.shard.Goals as goal

pub returns-clause-left : goal.returns-clause-left
returns-clause-left g c k files held =
    let one = g.D.StoreDisk.seen c.args.disk.now in
    let two = g.D.StoreDisk.seen c.shard.new.self in
    let own = Shard c.args.place c.args.first in
    c.leaves_law.ensures one two own k files (c.did_law.ensures.does one two own c.shard.result c.shard.ensures.kept c.shard.ensures.step) tt held
