use Rattle.std.proofs.Common.{◌≡◌, ℕ, ◌≤◌, ◌+◌, Vec, Global, length, map}
use Rattle.pn_ranges.specs.declared.bound.Bound.{Bound}
use Rattle.pn_ranges.specs.Overs.{HasOver}
use Rattle.pn_ranges.specs.Places.{first_fault, start}
use Rattle.pn_ranges.specs.Reading.{RangesBefore}
use Rattle.pn_ranges.specs.Refusals.{NoOver}
use Rattle.pn_ranges.proofs.set.ranges_in.Given as goal

abbrev pub invariant-each : goal.invariant-each
invariant-each l = record {
  read : RangesBefore l.fn.text l.rest l.count (map (λ (v : Vec Bound Global). v.items) l.ranges.items);
  few : l.count + length l.rest ≤ length l.fn.text;
  none : NoOver l.rest → NoOver l.fn.text;
  over : (left : ℕ) → HasOver l.rest left → HasOver l.fn.text left;
  goes : first_fault start l.fn.text ≡ first_fault start l.rest;
}

abbrev pub decreases-each : goal.decreases-each
decreases-each l = length l.rest
