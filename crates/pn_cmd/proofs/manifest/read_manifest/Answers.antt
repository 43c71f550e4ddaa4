use Rattle.std.proofs.Common.{subst}
use Rattle.pn_cmd.specs.World.{world}
use Rattle.pn_cmd.specs.Points.{Refuses}
use Rattle.pn_cmd.specs.Manifests.{NoManifest}
use Rattle.pn_cmd.proofs.ManifestLemmas.{found_ok, refused_err}
use Rattle.pn_cmd.proofs.manifest.read_manifest.Goals as goal

pub returns-clause-found : goal.returns-clause-found
returns-clause-found g c =
    found_ok c.parse.result (g.P.ReadFs.seen c.args.project.now).tree c.in-Ok.path _ c.in-Ok-read_text.bytes.items _ c.in-Ok.ensures.fits c.in-Ok-read_text.ensures.found c.as_slice.ensures.value c.in-Ok.ensures.ok c.parse.ensures.found

pub returns-clause-refused : goal.returns-clause-refused
returns-clause-refused g c registry store out =
    let seen = g.P.ReadFs.seen in
    refused_err c.parse.result (world (seen c.args.project.now) registry store out) (world (seen c.read_text.new.project) registry store out) c.in-Ok.path _ c.in-Ok-read_text.bytes.items _ c.in-Ok.ensures.fits c.in-Ok-read_text.ensures.found c.as_slice.ensures.value c.in-Ok.ensures.ok c.parse.ensures.refused

pub returns-in-Err-clause-refused : goal.returns-in-Err-clause-refused
returns-in-Err-clause-refused g c registry store out =
    let seen = g.P.ReadFs.seen in
    subst (λ p. Refuses (NoManifest p) (world (seen c.args.project.now) registry store out) (world (seen c.read_text.new.project) registry store out) c.in-Err.status) c.in-Ok.ensures.ok (c.in-Err.ensures.refused registry store out)
