use Rattle.std.proofs.Common.{◌∙◌, refl, subst, Some, None}
use Rattle.std.specs.Prelude.{OnOk}
use Rattle.pn_storecore.specs.declared.step.Place.TheVariants.{Files}
use Rattle.pn_storecore.specs.declared.step.StoreStep.TheVariants.{PublishFile}
use Rattle.pn_storecore.specs.Held.{Holds, no_files, files_with}
use Rattle.pn_text.proofs.Results.{on_ok}
use Rattle.pn_memstore.proofs.puts.move_file.Goals as goal

pub returns-clause-folder : goal.returns-clause-folder
returns-clause-folder g c =
    let one = g.D.StoreDisk.seen c.args.disk.now in
    let two = g.D.StoreDisk.seen c.publish_file.new.self in
    let bytes = c.requires.holds.0 in
    let files = files_with no_files 0 (Some bytes) in
    subst (λ now. OnOk c.publish_file.result (Holds two c.args.k now))
    (c.holds_law.ensures.again no_files 0 (Some bytes) None ∙ c.holds_law.ensures.emptied 0)
    (c.holds_law.ensures.made one two (PublishFile c.args.k 0 c.args.at.now) c.args.k files c.publish_file.result c.publish_file.ensures.kept refl c.publish_file.ensures.step c.requires.holds.1)

pub returns-clause-stands : goal.returns-clause-stands
returns-clause-stands g c =
    let one = g.D.StoreDisk.seen c.args.disk.now in
    let two = g.D.StoreDisk.seen c.publish_file.new.self in
    let bytes = c.requires.holds.0 in
    let files = files_with no_files 0 (Some bytes) in
    on_ok c.publish_file.result (c.stands_law.ensures.object two Files c.args.at.now bytes)
    (c.stands_law.ensures.file one two c.args.k 0 c.args.at.now bytes files c.publish_file.result c.publish_file.ensures.kept c.publish_file.ensures.step c.requires.holds.1 refl)
