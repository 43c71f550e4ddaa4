use Rattle.pn_cmd.specs.World.{world}
use Rattle.pn_cmd.proofs.StandingLemmas.{passed_at, refused_at}
use Rattle.pn_cmd.proofs.standing.nothing_stands.Goals as goal

pub returns-in-Ok-kind-clause-passed : goal.returns-in-Ok-kind-clause-passed
returns-in-Ok-kind-clause-passed g c =
    passed_at c.free_path.result (g.P.ReadFs.seen c.args.project.now).tree c.in-Ok.path _ c.in-Ok-kind.kind c.in-Ok.ensures.fits c.in-Ok.ensures.ok c.in-Ok-kind.ensures.kind c.free_path.ensures.free

pub returns-in-Ok-kind-clause-refused : goal.returns-in-Ok-kind-clause-refused
returns-in-Ok-kind-clause-refused g c registry store out =
    let seen = g.P.ReadFs.seen in
    refused_at c.free_path.result (world (seen c.args.project.now) registry store out) (world (seen c.kind.new.self) registry store out) c.in-Ok.path _ c.in-Ok-kind.kind c.in-Ok.ensures.ok c.in-Ok-kind.ensures.kind c.free_path.ensures.stood
