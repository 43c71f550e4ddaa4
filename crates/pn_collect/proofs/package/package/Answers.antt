use Rattle.pn_collect.specs.Outline.{HasFiles, AreFilesBelow}
use Rattle.pn_collect.proofs.Causes.{if_all}
use Rattle.pn_collect.proofs.Listing.{has_files}
use Rattle.pn_collect.proofs.package.package.Goals as goal

pub returns-in-Ok-put-clause-files : goal.returns-in-Ok-put-clause-files
returns-in-Ok-put-clause-files g c =
    if_all (λ t. AreFilesBelow t c.in-Ok.folder c.in-Ok-listed.files.items) (λ t. HasFiles t c.in-Ok-put.package) (g.R.ReadFs.seen c.args.registry.now).tree
    (λ t h. has_files t c.in-Ok-put.package c.in-Ok.folder c.in-Ok-listed.files.items c.in-Ok-put.ensures.folder c.in-Ok-put.ensures.files h) c.in-Ok-listed.ensures.files
