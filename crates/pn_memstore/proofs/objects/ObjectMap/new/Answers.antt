use Rattle.std.specs.Map.{lookup}
use Rattle.std.specs.BTreeMap.{is_at}
use Rattle.std.specs.Cmp.Lexicographic.{slice_cmp}
use Rattle.std.specs.Ordering.{nat_cmp}
use Rattle.pn_memstore.proofs.objects.ObjectMap.new.Goals as goal

pub returns : goal.returns
returns c = λ i. record { shards = λ first. c.no_shards.ensures first i; bytes = λ at. lookup (is_at (slice_cmp nat_cmp at)) (c.new.ensures.empty i) }
