use Rattle.std.proofs.Common.{◌≡◌, ◌∷◌, length}
use Rattle.pn_draft.specs.Drawing.{is_within}
use Rattle.pn_workspace.proofs.within.is_within_entry.Given as goal

abbrev pub invariant-folders : goal.invariant-folders
invariant-folders l = is_within (l.name ∷ l.folder) l.at ≡ is_within (l.name ∷ l.folder) l.path

abbrev pub decreases-folders : goal.decreases-folders
decreases-folders l = length l.at
