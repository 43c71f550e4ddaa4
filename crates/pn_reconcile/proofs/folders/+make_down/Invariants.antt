use Rattle.std.proofs.Common.{length}
use Rattle.pn_reconcile.proofs.folders.+make_down.Given as goal

abbrev pub decreases-make_down : goal.decreases-make_down
decreases-make_down g l = length l.path.now
