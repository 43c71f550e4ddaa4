use Rattle.pn_replace.proofs.RemovesLemmas.{removed_all, half_removed, removed_touched}
use Rattle.pn_replace.proofs.removing.remove_all.Goals as goal

pub returns-in-Ok-clause-ok : goal.returns-in-Ok-clause-ok
returns-in-Ok-clause-ok g c =
    let s = g.P.ReadFs.seen in
    removed_all c.args.path.now (s c.args.fs.now) (s c.cut.new.fs) (λ u told. g.met.P.ReadFs.well_formed c.cut.new.fs u told) c.cut.ensures.cuts c.in-Ok.ensures.gone

pub returns-in-Ok-clause-touched : goal.returns-in-Ok-clause-touched
returns-in-Ok-clause-touched g c = removed_touched c.args.path.now (g.P.ReadFs.seen c.args.fs.now) (g.P.ReadFs.seen c.cut.new.fs) c.cut.ensures.cuts

pub returns-in-Err-Failed-clause-err : goal.returns-in-Err-Failed-clause-err
returns-in-Err-Failed-clause-err g c = half_removed c.args.path.now (g.P.ReadFs.seen c.args.fs.now) (g.P.ReadFs.seen c.cut.new.fs) c.cut.ensures.cuts

pub returns-in-Err-Failed-clause-touched : goal.returns-in-Err-Failed-clause-touched
returns-in-Err-Failed-clause-touched g c = removed_touched c.args.path.now (g.P.ReadFs.seen c.args.fs.now) (g.P.ReadFs.seen c.cut.new.fs) c.cut.ensures.cuts

pub returns-in-Err-Memory-clause-err : goal.returns-in-Err-Memory-clause-err
returns-in-Err-Memory-clause-err g c = half_removed c.args.path.now (g.P.ReadFs.seen c.args.fs.now) (g.P.ReadFs.seen c.cut.new.fs) c.cut.ensures.cuts

pub returns-in-Err-Memory-clause-touched : goal.returns-in-Err-Memory-clause-touched
returns-in-Err-Memory-clause-touched g c = removed_touched c.args.path.now (g.P.ReadFs.seen c.args.fs.now) (g.P.ReadFs.seen c.cut.new.fs) c.cut.ensures.cuts
