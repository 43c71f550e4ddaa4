use Rattle.std.proofs.Common.{length, map}
use denote.Text.{Utf8}
use denote.Shadow.{shadow}
use Rattle.pn_draft.specs.Sheets.{sheet}
use Rattle.pn_draft.proofs.Climbing.{IsGoing}
use Rattle.pn_draft.proofs.marks.unmarked.Given as goal

abbrev pub invariant-up : goal.invariant-up
invariant-up l = record {
  utf8 : shadow (Utf8 l.folder);
  going : IsGoing (sheet l.marks) l.text l.folder (map (λ f. f.now) l.folders.items);
}

abbrev pub decreases-up : goal.decreases-up
decreases-up l = length l.folder
