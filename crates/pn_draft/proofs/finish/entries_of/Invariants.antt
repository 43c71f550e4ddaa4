use Rattle.pn_draft.proofs.Finishing.{IsPartDone}
use Rattle.pn_draft.proofs.finish.entries_of.Given as goal

-- the first marks are entries
abbrev pub invariant-marks : goal.invariant-marks
invariant-marks l = IsPartDone l.fn.marks.entries l.text-iterator l.entries.items
