use Rattle.pn_registry.proofs.Packages.{found_ok, refused_err}
use Rattle.pn_registry.proofs.package.read_at.Goals as goal

pub returns-in-Ok-clause-found : goal.returns-in-Ok-clause-found
returns-in-Ok-clause-found g c =
    found_ok (g.R.ReadFs.seen c.args.registry.now).tree c.args.id.now c.args.path.now c.as_slice.result.now c.in-Ok.bytes.items c.parse.result c.requires c.in-Ok.ensures.bytes c.in-Ok.ensures.short c.as_slice.ensures.value c.parse.ensures.read

pub returns-in-Ok-clause-fault : goal.returns-in-Ok-clause-fault
returns-in-Ok-clause-fault g c =
    refused_err (g.R.ReadFs.seen c.args.registry.now) (g.R.ReadFs.seen c.read_small.new.fs) c.args.id.now c.args.path.now c.as_slice.result.now c.in-Ok.bytes.items c.parse.result c.requires c.in-Ok.ensures.bytes c.in-Ok.ensures.short c.as_slice.ensures.value c.parse.ensures.refused
