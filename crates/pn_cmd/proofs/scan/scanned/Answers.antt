use Rattle.std.proofs.Common.{subst}
use Rattle.pn_text.specs.Path.{Path}
use Rattle.pn_cmd.specs.World.{world}
use Rattle.pn_cmd.specs.Points.{Refuses}
use Rattle.pn_cmd.specs.Scans.{IsScanned, Unscanned}
use Rattle.pn_cmd.proofs.scan.scanned.Goals as goal

pub returns-in-Ok-scan_folder-clause-passed : goal.returns-in-Ok-scan_folder-clause-passed
returns-in-Ok-scan_folder-clause-passed g c = subst (IsScanned (g.P.ReadFs.seen c.args.project.now).tree) c.in-Ok.ensures.ok c.in-Ok-scan_folder.ensures.passed

pub returns-in-Err-clause-refused : goal.returns-in-Err-clause-refused
returns-in-Err-clause-refused g c registry store out =
    let p = g.P.ReadFs.seen in
    subst (λ (q : Path). Refuses (Unscanned q) (world (p c.args.project.now) registry store out) (world (p c.scan_folder.new.project) registry store out) c.in-Err.status) c.in-Ok.ensures.ok (c.in-Err.ensures.refused registry store out)
