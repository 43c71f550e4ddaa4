use Rattle.pn_memstore.proofs.puts.look.Goals as goal

pub returns-in_err-listed-clause-left : goal.returns-in_err-listed-clause-left
returns-in_err-listed-clause-left g c k files held = c.list.ensures.left k files (c.read.ensures.left k files held)

pub returns-in_err-claimed-clause-left : goal.returns-in_err-claimed-clause-left
returns-in_err-claimed-clause-left g c k files held = c.numbers.ensures.left k files (c.list.ensures.left k files (c.read.ensures.left k files held))

pub returns-then-listed-clause-left : goal.returns-then-listed-clause-left
returns-then-listed-clause-left g c k files held = c.numbers.ensures.left k files (c.list.ensures.left k files (c.read.ensures.left k files held))

pub returns-else-listed-clause-left : goal.returns-else-listed-clause-left
returns-else-listed-clause-left g c k files held = c.numbers.ensures.left k files (c.list.ensures.left k files (c.read.ensures.left k files held))
