use Rattle.std.proofs.Common.{[]}
use Rattle.std.specs.List.Sorted.{IsStrictlySortedBy}
use Rattle.pn_manifest.specs.Said.{AreRising}
use Rattle.pn_walk.proofs.tests.package.Goals as goal

none_rise : AreRising []
unfolding IsStrictlySortedBy
none_rise = tt

pub of-peers-requires : goal.of-peers-requires
of-peers-requires c = rw c.new.ensures.items none_rise
