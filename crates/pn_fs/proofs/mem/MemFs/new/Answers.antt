use Rattle.pn_fs.proofs.mem.MemFs.new.Goals as goal

pub returns-clause-seen : goal.returns-clause-seen
returns-clause-seen c = λ i. record { tree = (c.new-files.ensures i).tree; touched = (c.new-files.ensures i).touched; faults = c.new-turns.ensures.faults i; bytes = (c.new-files.ensures i).bytes; names = (c.new-files.ensures i).names }
