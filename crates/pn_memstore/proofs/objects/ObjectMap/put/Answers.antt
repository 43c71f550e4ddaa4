use Rattle.std.proofs.Common.{Some, ap, ◌∙◌}
use Rattle.pn_storecore.specs.World.{with_bytes}
use Rattle.pn_memstore.specs.Kept.{objects_in}
use Rattle.pn_memstore.proofs.WithBytesLemmas.{changed}
use Rattle.pn_memstore.proofs.objects.ObjectMap.put.Goals as goal

pub returns-clause-ok : goal.returns-clause-ok
returns-clause-ok c = let o = objects_in c.args.self.now in changed o.shards c.args.self.now.bytes c.insert.new.self c.copy.result (Some c.args.bytes) c.in_ok-insert.ensures.updates ∙ ap (λ at. with_bytes o at (Some c.args.bytes)) c.copy.ensures
