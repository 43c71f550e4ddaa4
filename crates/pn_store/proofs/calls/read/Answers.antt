use Rattle.pn_storecore.specs.declared.step.StoreStep.TheVariants.{Read}
use Rattle.pn_store.proofs.LeavesLemmas.{all_call}
use Rattle.pn_store.proofs.calls.read.Goals as goal

pub returns-clause-read : goal.returns-clause-read
returns-clause-read g c =
    let one = g.D.StoreDisk.seen c.args.disk.now in
    let two = g.D.StoreDisk.seen c.read.new.self in
    c.was_law.ensures.read one two c.args.place c.args.at.now c.args.from c.read.new.into c.read.result c.read.ensures.kept c.read.ensures.step

pub returns-clause-left : goal.returns-clause-left
returns-clause-left g c =
    let one = g.D.StoreDisk.seen c.args.disk.now in
    let two = g.D.StoreDisk.seen c.read.new.self in
    all_call c.leaves_law.ensures c.claims_law.ensures one two (c.did_law.ensures.read one two c.args.place c.args.at.now c.args.from c.read.new.into c.read.result c.read.ensures.kept c.read.ensures.step)

pub returns-clause-grew : goal.returns-clause-grew
returns-clause-grew g c =
    let one = g.D.StoreDisk.seen c.args.disk.now in
    let two = g.D.StoreDisk.seen c.read.new.self in
    c.grew_law.ensures.call one two Read (λ j told. tt) (c.did_law.ensures.read one two c.args.place c.args.at.now c.args.from c.read.new.into c.read.result c.read.ensures.kept c.read.ensures.step)

pub returns-clause-stands : goal.returns-clause-stands
returns-clause-stands g c =
    let one = g.D.StoreDisk.seen c.args.disk.now in
    let two = g.D.StoreDisk.seen c.read.new.self in
    c.stands_law.ensures.read one two c.args.place c.args.at.now c.args.from c.read.new.into c.read.result c.read.ensures.kept c.read.ensures.step
