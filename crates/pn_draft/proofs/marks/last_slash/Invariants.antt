use Rattle.std.proofs.Common.{◌≡◌, ◌<◌, ◌+◌, length, drop}
use Rattle.std.specs.Prelude.{true}
use Rattle.pn_text.specs.Path.{is_flat}
use Rattle.pn_draft.proofs.marks.last_slash.Given as goal

abbrev pub invariant-loop-at : goal.invariant-loop-at
invariant-loop-at l = record {
  within : l.at < length l.text;
  flat : is_flat (drop (l.at + 1) l.text) ≡ true;
}

abbrev pub decreases-loop-at : goal.decreases-loop-at
decreases-loop-at l = l.at
