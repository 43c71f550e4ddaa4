use Rattle.pn_storecore.specs.declared.step.StoreStep.TheVariants.{Read}
use Rattle.pn_memstore.proofs.puts.numbers.Goals as goal

pub returns-in_err-numbers-clause-left : goal.returns-in_err-numbers-clause-left
returns-in_err-numbers-clause-left g c k files held =
    let one = g.D.StoreDisk.seen c.args.disk.now in
    let two = g.D.StoreDisk.seen c.numbers.new.self in
    c.leaves_law.ensures one two Read k files (c.did_law.ensures.numbers one two c.numbers.result c.numbers.ensures.kept c.numbers.ensures.step) tt held

pub returns-in_err-numbers-clause-grew : goal.returns-in_err-numbers-clause-grew
returns-in_err-numbers-clause-grew g c =
    let one = g.D.StoreDisk.seen c.args.disk.now in
    let two = g.D.StoreDisk.seen c.numbers.new.self in
    c.grew_law.ensures.call one two Read (λ j told. tt) (c.did_law.ensures.numbers one two c.numbers.result c.numbers.ensures.kept c.numbers.ensures.step)

pub returns-clause-left : goal.returns-clause-left
returns-clause-left g c k files held =
    let one = g.D.StoreDisk.seen c.args.disk.now in
    let two = g.D.StoreDisk.seen c.numbers.new.self in
    c.leaves_law.ensures one two Read k files (c.did_law.ensures.numbers one two c.numbers.result c.numbers.ensures.kept c.numbers.ensures.step) tt held

pub returns-clause-grew : goal.returns-clause-grew
returns-clause-grew g c =
    let one = g.D.StoreDisk.seen c.args.disk.now in
    let two = g.D.StoreDisk.seen c.numbers.new.self in
    c.grew_law.ensures.call one two Read (λ j told. tt) (c.did_law.ensures.numbers one two c.numbers.result c.numbers.ensures.kept c.numbers.ensures.step)
