use Rattle.std.proofs.Common.{◌≡◌, ◌++◌, map, drop, false}
use Rattle.std.specs.Prelude.{filter}
use Rattle.pn_manifest.specs.Says.{said_of}
use Rattle.pn_plain.specs.Seen.{is_wanted, pair_of, wish}
use Rattle.pn_seen.proofs.asked.put_wanted.Given as goal

abbrev pub invariant-loop-peer : goal.invariant-loop-peer
invariant-loop-peer l =
    l.items.items ++ map (wish false) (map pair_of (filter (is_wanted (said_of l.manifest)) (drop l.peer-index l.peer-items)))
    ≡ l.fn.items.items ++ map (wish false) (map pair_of (filter (is_wanted (said_of l.manifest)) l.peer-items))
