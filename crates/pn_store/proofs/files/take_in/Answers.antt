use Rattle.std.proofs.Common.{◌++◌, Some, subst}
use Rattle.std.specs.Prelude.{OnOk}
use Rattle.pn_store.specs.Held.{HoldsFile}
use Rattle.pn_store.proofs.files.take_in.Goals as goal

pub returns-clause-ok : goal.returns-clause-ok
returns-clause-ok g c bytes held =
    subst (λ x. OnOk c.append.result (HoldsFile (g.D.StoreDisk.seen c.append.new.disk) c.args.k (Some (bytes ++ x)))) c.split_at.ensures.front (c.append.ensures.ok bytes held)
