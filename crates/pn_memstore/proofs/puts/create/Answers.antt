use Rattle.std.proofs.Common.{refl}
use Rattle.pn_storecore.specs.declared.step.StoreStep.TheVariants.{Create}
use Rattle.pn_storecore.specs.Held.{no_files}
use Rattle.pn_memstore.proofs.puts.create.Goals as goal

pub returns-clause-folder : goal.returns-clause-folder
returns-clause-folder g c =
    let one = g.D.StoreDisk.seen c.args.disk.now in
    let two = g.D.StoreDisk.seen c.create.new.self in
    c.holds_law.ensures.made one two (Create c.args.k 0) c.args.k no_files c.create.result c.create.ensures.kept refl c.create.ensures.step c.requires
