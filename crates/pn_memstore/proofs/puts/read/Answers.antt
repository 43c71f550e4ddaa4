use Rattle.pn_storecore.specs.declared.step.Place.TheVariants.{Files}
use Rattle.pn_storecore.specs.declared.step.StoreStep.TheVariants.{Read}
use Rattle.pn_memstore.proofs.puts.read.Goals as goal

pub returns-in_err-found-clause-left : goal.returns-in_err-found-clause-left
returns-in_err-found-clause-left g c k files held =
    let one = g.D.StoreDisk.seen c.args.disk.now in
    let two = g.D.StoreDisk.seen c.read.new.self in
    c.leaves_law.ensures one two Read k files (c.did_law.ensures.read one two Files c.args.at.now 0 c.read.new.into c.read.result c.read.ensures.kept c.read.ensures.step) tt held

pub returns-in_err-found-clause-grew : goal.returns-in_err-found-clause-grew
returns-in_err-found-clause-grew g c =
    let one = g.D.StoreDisk.seen c.args.disk.now in
    let two = g.D.StoreDisk.seen c.read.new.self in
    c.grew_law.ensures.call one two Read (λ j told. tt) (c.did_law.ensures.read one two Files c.args.at.now 0 c.read.new.into c.read.result c.read.ensures.kept c.read.ensures.step)

pub returns-clause-left : goal.returns-clause-left
returns-clause-left g c k files held =
    let one = g.D.StoreDisk.seen c.args.disk.now in
    let two = g.D.StoreDisk.seen c.read.new.self in
    c.leaves_law.ensures one two Read k files (c.did_law.ensures.read one two Files c.args.at.now 0 c.read.new.into c.read.result c.read.ensures.kept c.read.ensures.step) tt held

pub returns-clause-grew : goal.returns-clause-grew
returns-clause-grew g c =
    let one = g.D.StoreDisk.seen c.args.disk.now in
    let two = g.D.StoreDisk.seen c.read.new.self in
    c.grew_law.ensures.call one two Read (λ j told. tt) (c.did_law.ensures.read one two Files c.args.at.now 0 c.read.new.into c.read.result c.read.ensures.kept c.read.ensures.step)
