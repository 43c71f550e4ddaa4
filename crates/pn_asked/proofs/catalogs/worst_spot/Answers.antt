use Rattle.pn_asked.specs.Spots.{fits_at}
use Rattle.pn_asked.proofs.SpotLemmas.{spots_next}
use Rattle.pn_asked.proofs.catalogs.worst_spot.Goals as goal

pub loop-importer-preserved : goal.loop-importer-preserved
loop-importer-preserved c =
    spots_next (fits_at c.args.locked.now c.args.asked.now) c.args.importers.now c.loop-importer.importer-index c.importer-item.result c.loop-importer.best c.in_ok-best-2.best _
    c.loop-importer-test.true c.importer-item.is c.in_ok-best-2.ensures c.loop-importer.invariant
