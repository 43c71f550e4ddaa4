use Rattle.std.proofs.Common.{sym, Some}
use Rattle.pn_storecore.specs.Held.{no_files, files_with}
use Rattle.pn_memstore.proofs.puts.put_file.Goals as goal

pub move_file-requires-clause-holds : goal.move_file-requires-clause-holds
move_file-requires-clause-holds g c =
    let bytes = c.args.bytes.now in
    (bytes, c.shard.ensures.left c.args.k (files_with no_files 0 (Some bytes)) c.in_ok-write.ensures.folder, record { addressed = sym c.of_bytes-at.ensures; short = c.requires.short })
