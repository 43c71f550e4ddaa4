use Rattle.std.proofs.Common.{◌≡◌, length, false}
use Rattle.semver.specs.Grammar.{is_identifier_byte, is_pre_identifier}
use Rattle.pn_ranges.specs.Bytes.{starts_with}
use Rattle.pn_ranges.specs.Grammar.{AreIdentifiers}
use Rattle.pn_ranges.specs.Reading.{Fronted}
use Rattle.pn_ranges.specs.Places.{Turn, first_fault, hyphen, pre}
use Rattle.pn_ranges.proofs.tail.behind_pre.Given as goal

abbrev pub invariant-dots : goal.invariant-dots
invariant-dots l = record {
  read : Fronted (AreIdentifiers is_pre_identifier) l.fn.text l.rest;
  ends : starts_with is_identifier_byte l.rest ≡ false;
  goes : (e : Turn) → first_fault (hyphen e) l.fn.text ≡ first_fault (pre e) l.rest;
}

abbrev pub decreases-dots : goal.decreases-dots
decreases-dots l = length l.rest
