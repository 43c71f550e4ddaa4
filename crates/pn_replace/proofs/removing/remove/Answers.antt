use Rattle.pn_replace.proofs.RemovesLemmas.{cuts_call, gone_call}
use Rattle.pn_replace.proofs.removing.remove.Goals as goal

pub returns-clause-cuts : goal.returns-clause-cuts
returns-clause-cuts g c = cuts_call c.remove.result c.args.path.now (g.P.ReadFs.seen c.args.fs.now) (g.P.ReadFs.seen c.remove.new.self) c.remove.ensures.made c.remove.ensures.touched

pub returns-clause-gone : goal.returns-clause-gone
returns-clause-gone g c = gone_call c.remove.result c.args.path.now _ _ c.remove.ensures.made
