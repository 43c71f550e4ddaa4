use Rattle.std.proofs.Common.{◌∙◌}
use Rattle.pn_manifest.specs.Says.{said_of}
use Rattle.pn_locking.specs.Projects.{project_of}
use Rattle.pn_locking.proofs.AskedLemmas.{project_made}
use Rattle.pn_locking.proofs.project.asked_project.Goals as goal

pub returns : goal.returns
returns c =
    project_made c.args.auto_peers (project_of c.args.project.now) (said_of c.in_ok-face.face) c.in_ok-wishes.wishes c.deref.result.now c.deref-2.result.now _ c.in_ok-face.ensures.is c.in_ok-wishes.ensures
    (c.deref.ensures.value ∙ c.in_ok-dev_names.ensures.same) (c.deref-2.ensures.value ∙ c.in_ok-dev_names.ensures.same) c.in_ok-folder.ensures c.in_ok-dependencies.ensures c.in_ok-dev.ensures c.in_ok-optional.ensures
