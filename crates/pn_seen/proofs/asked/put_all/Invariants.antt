use Rattle.std.proofs.Common.{◌≡◌, ◌++◌, map, drop}
use Rattle.pn_manifest.specs.Listed.{pair_of}
use Rattle.pn_plain.specs.Seen.{wish}
use Rattle.pn_seen.proofs.asked.put_all.Given as goal

abbrev pub invariant-loop-dependency : goal.invariant-loop-dependency
invariant-loop-dependency l =
    l.items.items ++ map (wish l.optional) (map pair_of (drop l.dependency-index l.dependency-items)) ≡ l.fn.items.items ++ map (wish l.optional) (map pair_of l.dependency-items)
