use Rattle.std.proofs.Common.{◌∷◌, [], subst}
use Rattle.std.specs.Prelude.{IfSome}
use Rattle.pn_scan.specs.Managed.{Managed, AreOurs}
use Rattle.pn_scan.specs.ScanFaults.{HasFew}
use Rattle.pn_cmd.proofs.scan.scan_folder.Goals as goal

pub returns-in-Ok-clause-passed : goal.returns-in-Ok-clause-passed
returns-in-Ok-clause-passed g c =
    let tree = (g.P.ReadFs.seen c.args.project.now).tree in
    record {
      fits = c.requires.fits;
      ours = subst (λ (m : Managed). IfSome tree (λ t. AreOurs t (m ∷ []))) c.in_ok-managed.ensures c.in-Ok.ensures.ours;
      few = subst (λ (m : Managed). IfSome tree (λ t. HasFew t (m ∷ []))) c.in_ok-managed.ensures c.in-Ok.ensures.few;
    }
