use Rattle.std.proofs.Common.{◌≡◌, length}
use Rattle.pn_draft.specs.Drawing.{is_within}
use Rattle.pn_workspace.proofs.within.is_within.Given as goal

abbrev pub invariant-folders : goal.invariant-folders
invariant-folders l = is_within l.folder l.at ≡ is_within l.folder l.path

abbrev pub decreases-folders : goal.decreases-folders
decreases-folders l = length l.at
