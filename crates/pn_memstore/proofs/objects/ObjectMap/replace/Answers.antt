use Rattle.std.proofs.Common.{rules, Some}
use Rattle.pn_memstore.specs.Kept.{objects_in}
use Rattle.pn_memstore.proofs.WithBytesLemmas.{changed}
use Rattle.pn_memstore.proofs.objects.ObjectMap.replace.Goals as goal

pub returns : goal.returns
returns c = let o = objects_in c.args.self.now in changed o.shards c.args.self.now.bytes (c.get_mut.follows.lender c.args.bytes) c.args.at.now (Some c.args.bytes) ((c.get_mut.follows.holds c.args.bytes).3 (search rules))
