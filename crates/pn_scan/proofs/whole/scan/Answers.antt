use Rattle.std.proofs.Common.{◌∙◌}
use Rattle.std.specs.Prelude.{IfOk}
use Rattle.pn_text.proofs.Results.{for_some, if_some}
use Rattle.pn_scan.specs.Scans.{IsScan}
use Rattle.pn_scan.specs.Looks.{AreLooked}
use Rattle.pn_scan.specs.Turns.{FindsBelow}
use Rattle.pn_scan.proofs.IsScanLemmas.{scan_from}
use Rattle.pn_scan.proofs.whole.scan.Goals as goal

pub returns-in-Ok-walk-clause-scan : goal.returns-in-Ok-walk-clause-scan
returns-in-Ok-walk-clause-scan g c =
    let managed = c.args.managed.now in
    let marked = c.in-Ok.ours.marked.items in
    let standing = c.in-Ok.ours.standing.items in
    let found = c.in-Ok-walk.found.items in
    let looked = for_some (λ t. AreLooked t managed marked standing) _ c.in-Ok.ensures.looked in
    let below = for_some (λ t. FindsBelow t managed standing found) _ c.in-Ok-walk.ensures.below in
    if_some (λ t. IfOk c.gather.result (IsScan t)) (g.P.ReadFs.seen c.args.fs.now).tree (λ t told.
    scan_from t (g.met.P.ReadFs.well_formed c.args.fs.now t told) managed marked standing found c.gather.result (looked t told) (below t (c.in-Ok.ensures.kept.tree ∙ told)) c.gather.ensures.managed c.gather.ensures.keeps)
