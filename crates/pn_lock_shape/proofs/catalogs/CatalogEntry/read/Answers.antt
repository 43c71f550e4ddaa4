use Rattle.pn_lock_shape.specs.Bare.{tree}
use Rattle.pn_lock_shape.proofs.GroupLemmas.{group_read}
use Rattle.pn_lock_shape.proofs.catalogs.CatalogEntry.read.Goals as goal

pub returns : goal.returns
returns c = group_read c.args.name.now c.as_str.result.now c.in_ok-copy.field-0 (tree c.args.node.now) c.in_ok-entries.entries c.as_str.ensures c.in_ok-copy.ensures c.in_ok-entries.ensures.read
