use Rattle.pn_text.proofs.Results.{any_err, on_ok, on_err}
use Rattle.pn_lockfile.proofs.RewritesLemmas.{cut_free, cut_target, half_cut, half_replaced, rewritten, told_cut, touched_all, touched_cut}
use Rattle.pn_lockfile.proofs.rewriting.write_lockfile.Goals as goal

pub returns-in_err-remove_all-clause-err : goal.returns-in_err-remove_all-clause-err
returns-in_err-remove_all-clause-err g c =
    any_err c.from_residual.result (half_cut c.args.path.now c.args.temp.now c.args.bytes.now _ _ c.requires.beside c.in_err-remove_all.ensures.err)

pub returns-in_err-remove_all-clause-touched : goal.returns-in_err-remove_all-clause-touched
returns-in_err-remove_all-clause-touched g c = touched_cut c.args.path.now c.args.temp.now (g.P.ReadFs.seen c.args.fs.now) (g.P.ReadFs.seen c.remove_all.new.fs) c.remove_all.ensures.touched

pub replace-requires-clause-target : goal.replace-requires-clause-target
replace-requires-clause-target g c =
    told_cut c.args.temp.now _ _ (λ t u. cut_target c.args.path.now c.args.temp.now t u c.requires.beside) c.in_ok-remove_all.ensures.ok c.requires.target

pub replace-requires-clause-free : goal.replace-requires-clause-free
replace-requires-clause-free g c =
    told_cut c.args.temp.now _ _ (λ t u. cut_free c.args.path.now c.args.temp.now t u c.requires.beside) c.in_ok-remove_all.ensures.ok c.requires.target

pub returns-clause-ok : goal.returns-clause-ok
returns-clause-ok g c =
    on_ok c.replace.result (rewritten c.args.path.now c.args.temp.now c.args.bytes.now (g.P.ReadFs.seen c.args.fs.now).tree _ _ c.requires.beside c.in_ok-remove_all.ensures.ok) c.replace.ensures.ok

pub returns-clause-err : goal.returns-clause-err
returns-clause-err g c =
    on_err c.replace.result (half_replaced c.args.path.now c.args.temp.now c.args.bytes.now (g.P.ReadFs.seen c.args.fs.now).tree _ _ c.requires.beside c.in_ok-remove_all.ensures.ok) c.replace.ensures.err

pub returns-clause-touched : goal.returns-clause-touched
returns-clause-touched g c =
    touched_all c.args.path.now c.args.temp.now (g.P.ReadFs.seen c.args.fs.now) (g.P.ReadFs.seen c.remove_all.new.fs) (g.P.ReadFs.seen c.replace.new.fs) c.in_ok-remove_all.ensures.ok c.in_ok-remove_all.ensures.touched c.replace.ensures.touched
