use Rattle.std.proofs.Common.{None}
use Rattle.pn_memstore.specs.Kept.{objects_in}
use Rattle.pn_memstore.proofs.WithBytesLemmas.{changed}
use Rattle.pn_memstore.proofs.objects.ObjectMap.remove.Goals as goal

pub returns : goal.returns
returns c = let o = objects_in c.args.self.now in changed o.shards c.args.self.now.bytes c.remove.new.self c.args.at.now None c.remove.ensures.updates
