use Rattle.std.proofs.Common.{sym, Some}
use Rattle.pn_storecore.specs.declared.step.Place.TheVariants.{Files}
use Rattle.pn_storecore.specs.Held.{no_files, files_with}
use Rattle.pn_memstore.proofs.puts.put_listing.Goals as goal

pub move_listing-requires-clause-holds : goal.move_listing-requires-clause-holds
move_listing-requires-clause-holds g c =
    let seen = g.D.StoreDisk.seen in
    let law = c.grew_law.ensures in
    let one = seen c.args.disk.now in
    let two = seen c.write.new.disk in
    let three = seen c.shard.new.disk in
    let text = c.args.text.now in (
      text,
      c.shard.ensures.left c.args.k (files_with no_files 0 (Some text)) c.in_ok-write.ensures.folder,
      sym c.of_bytes-at.ensures,
      c.requires.text,
      λ file names. law.object one three Files file (law.both one two three c.write.ensures.grew c.shard.ensures.grew) (c.requires.named file names),
    )
