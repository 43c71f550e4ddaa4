use Rattle.std.proofs.Common.{◌++◌, refl, subst, Some}
use Rattle.std.specs.Prelude.{OnOk}
use Rattle.pn_storecore.specs.Held.{Holds, no_files, files_with}
use Rattle.pn_memstore.proofs.puts.add.Goals as goal

pub append-requires : goal.append-requires
append-requires g c =
    let one = g.D.StoreDisk.seen c.args.disk.now in
    c.asks_law.ensures.append one c.args.k 0 c.args.more.now c.requires.0 (files_with no_files 0 (Some c.requires.0)) c.requires.1 refl

pub returns-clause-folder : goal.returns-clause-folder
returns-clause-folder g c bytes held =
    let one = g.D.StoreDisk.seen c.args.disk.now in
    let two = g.D.StoreDisk.seen c.append.new.self in
    let files = files_with no_files 0 (Some bytes) in
    let more = c.args.more.now in
    subst (λ now. OnOk c.append.result (Holds two c.args.k now)) (c.holds_law.ensures.again no_files 0 (Some bytes) (Some (bytes ++ more)))
    (c.holds_law.ensures.appended one two c.args.k 0 more files c.append.result c.append.ensures.kept c.append.ensures.step held)
