use Rattle.std.proofs.Common.{subst, sym}
use Rattle.pn_cmd.specs.World.{world}
use Rattle.pn_cmd.specs.Points.{Refuses}
use Rattle.pn_cmd.specs.Fetches.{Unfetched}
use Rattle.pn_fetch.specs.Numbers.{LeavesOne}
use Rattle.pn_cmd.specs.Fetches.{IsStuck}
use Rattle.pn_cmd.proofs.FetchLemmas.{fetch_refused, stuck_status}
use Rattle.pn_cmd.proofs.prepare.fetched.Goals as goal

pub returns-in-Err-clause-refused : goal.returns-in-Err-clause-refused
returns-in-Err-clause-refused g c project out =
    let r = g.R.ReadFs.seen in
    let d = g.D.StoreDisk.seen in
    let packages = c.args.packages.now in
    subst (Refuses (Unfetched packages) (world project (r c.args.registry.now) (d c.args.store.now) out) (world project (r c.fetch.new.registry) (d c.fetch.new.disk) out)) (sym c.unfetched.ensures)
    (fetch_refused c.in-Err.fault packages project (r c.args.registry.now) (r c.fetch.new.registry) (d c.args.store.now) (d c.fetch.new.disk) out c.requires.files c.in-Err.ensures.refused)

pub returns-in-Err-clause-left : goal.returns-in-Err-clause-left
returns-in-Err-clause-left g c =
    let d = g.D.StoreDisk.seen in
    let registry = (g.R.ReadFs.seen c.args.registry.now).tree in
    let packages = c.args.packages.now in
    subst (λ s. LeavesOne (IsStuck registry packages (d c.args.store.now) (d c.fetch.new.disk) s) (d c.args.store.now) (d c.fetch.new.disk)) (sym c.unfetched.ensures)
    (stuck_status registry packages (d c.args.store.now) (d c.fetch.new.disk) c.in-Err.fault c.in-Err.ensures.left)
