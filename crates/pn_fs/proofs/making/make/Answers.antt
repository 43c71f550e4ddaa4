use Rattle.std.proofs.Common.{[], ap, sym, ◌∙◌}
use Rattle.pn_fs.specs.Bodies.{entry_of}
use Rattle.pn_fs.specs.Calls.{told_put}
use Rattle.pn_fs.proofs.Puts.{made_is_file, made_grown}
use Rattle.pn_fs.proofs.NodeLemmas.{on_ok}
use Rattle.pn_fs.proofs.making.make.Goals as goal

pub append-requires : goal.append-requires
append-requires g c t told = made_is_file _ _ [] t (sym c.in_ok-create-in-File.ensures.made.ok ∙ told)

pub returns-in_ok-create-in-File-clause-ok : goal.returns-in_ok-create-in-File-clause-ok
returns-in_ok-create-in-File-clause-ok g c =
    let s = (g.P.ReadFs.seen c.args.fs.now).tree in
    on_ok c.append.result (λ e. e ∙ made_grown s (g.P.ReadFs.seen c.create.new.self).tree c.args.path.now _ _ c.in_ok-create-in-File.ensures.made.ok c.deref.ensures.value
    ∙ ap (λ b. told_put s c.args.path.now (entry_of b)) (sym c.in-File.is)) c.append.ensures.grown.ok
