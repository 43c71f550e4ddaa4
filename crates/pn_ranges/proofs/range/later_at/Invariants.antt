use Rattle.std.proofs.Common.{◌≡◌, ◌≤◌, ◌+◌, ℕ, List, false, length}
use Rattle.pn_ranges.specs.Bytes.{is_space, starts_with}
use Rattle.pn_ranges.specs.Overs.{OverLater}
use Rattle.pn_ranges.specs.Places.{first_fault, gap}
use Rattle.pn_ranges.specs.Reading.{ComparatorsAt}
use Rattle.pn_ranges.specs.Unread.{NoLater}
use Rattle.pn_ranges.proofs.range.later_at.Given as goal

abbrev pub invariant-comparators : goal.invariant-comparators
invariant-comparators l = record {
  read : (whole : List ℕ) (k : ℕ) → ComparatorsAt whole k l.fn.bounds.items l.fn.text → ComparatorsAt whole (k + l.count) l.bounds.items l.rest;
  spaces : starts_with is_space l.rest ≡ false;
  few : l.count + length l.rest ≤ length l.fn.text;
  goes : first_fault (gap false) l.fn.text ≡ first_fault (gap false) l.rest;
  none : NoLater l.rest → NoLater l.fn.text;
  over : (left : ℕ) → OverLater l.rest left → OverLater l.fn.text left;
}

abbrev pub decreases-comparators : goal.decreases-comparators
decreases-comparators l = length l.rest
