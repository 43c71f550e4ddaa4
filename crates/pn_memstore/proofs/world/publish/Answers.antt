use Rattle.std.proofs.Common.{ap, sym, ◌∙◌, Some, None}
use Rattle.pn_storecore.specs.World.{with_bytes}
use Rattle.pn_memstore.specs.Kept.{objects_in}
use Rattle.pn_memstore.proofs.WithBytesLemmas.{twice, stands_put}
use Rattle.pn_memstore.proofs.world.publish.Goals as goal

pub replace-requires : goal.replace-requires
replace-requires c = stands_put (objects_in c.args.objects.now) (objects_in c.put.new.self) c.args.at.now _ c.in_ok-put.ensures.ok

pub returns-in-Some-clause-objects : goal.returns-in-Some-clause-objects
returns-in-Some-clause-objects c =
    let o = objects_in c.args.objects.now in
    twice o (objects_in c.put.new.self) (objects_in c.replace.new.self) c.args.at.now _ (Some c.in-Some.bytes) c.in_ok-put.ensures.ok c.replace.ensures
    ∙ ap (with_bytes o c.args.at.now) (sym c.in-Some.is ∙ c.take.ensures.bytes)

pub returns-in-None-clause-objects : goal.returns-in-None-clause-objects
returns-in-None-clause-objects c =
    let o = objects_in c.args.objects.now in
    twice o (objects_in c.put.new.self) (objects_in c.remove.new.self) c.args.at.now _ None c.in_ok-put.ensures.ok c.remove.ensures
    ∙ ap (with_bytes o c.args.at.now) (sym c.in-None.is ∙ c.take.ensures.bytes)
