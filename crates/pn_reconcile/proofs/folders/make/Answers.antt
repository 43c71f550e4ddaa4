use Rattle.pn_reconcile.proofs.DownLemmas.{touches_call}
use Rattle.pn_reconcile.proofs.folders.make.Goals as goal

pub returns-in-Ok-clause-touched : goal.returns-in-Ok-clause-touched
returns-in-Ok-clause-touched g c = touches_call c.make_folder.result c.args.path.now (g.P.ReadFs.seen c.args.fs.now) (g.P.ReadFs.seen c.make_folder.new.self) c.requires c.make_folder.ensures.touched

pub returns-in-Err-Failed-clause-touched : goal.returns-in-Err-Failed-clause-touched
returns-in-Err-Failed-clause-touched g c = touches_call c.make_folder.result c.args.path.now (g.P.ReadFs.seen c.args.fs.now) (g.P.ReadFs.seen c.make_folder.new.self) c.requires c.make_folder.ensures.touched

pub returns-in-Err-Memory-clause-touched : goal.returns-in-Err-Memory-clause-touched
returns-in-Err-Memory-clause-touched g c = touches_call c.make_folder.result c.args.path.now (g.P.ReadFs.seen c.args.fs.now) (g.P.ReadFs.seen c.make_folder.new.self) c.requires c.make_folder.ensures.touched
