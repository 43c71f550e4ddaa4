use Rattle.std.proofs.Common.{length, subst, sym}
use Rattle.pn_lock_prod.specs.Places.{IsNumberedSnapshot}
use Rattle.pn_lock_prod.proofs.kept.new_snapshots.Goals as goal

pub new_snapshot-requires : goal.new_snapshot-requires
new_snapshot-requires c = subst (IsNumberedSnapshot (length c.args.numbers.now)) (sym c.index-these-n.is) (c.requires.numbered c.loop-n.n c.index-these-n.result c.loop-n-test.true)
