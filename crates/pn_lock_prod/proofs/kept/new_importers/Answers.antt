use Rattle.std.proofs.Common.{length, subst, sym}
use Rattle.pn_lock_prod.specs.Places.{IsNumberedImporter}
use Rattle.pn_lock_prod.proofs.kept.new_importers.Goals as goal

pub new_importer-requires : goal.new_importer-requires
new_importer-requires c = subst (IsNumberedImporter (length c.args.numbers.now)) (sym c.old-item.is) (c.requires c.loop-old.old-index c.old-item.result c.loop-old-test.true)
