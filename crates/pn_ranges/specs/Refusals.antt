-- Why a text is refused.
use Rattle.std.specs.Prelude.{◌≡◌, ◌<◌, ◌≤◌, ◌⊎◌, ℕ, ◌-◌, List, length, Some}
use Rattle.pn_ranges.specs.declared.fault.RangeFault.{RangeFault}
use Rattle.pn_ranges.specs.declared.fault.RangeFault.TheVariants as fault
use Rattle.pn_ranges.specs.declared.fault.Stop.{Stop}
use Rattle.pn_ranges.specs.declared.fault.Stop.TheVariants as stop
use Rattle.pn_ranges.specs.Grammar.{AreRanges}
use Rattle.pn_ranges.specs.Limits.{Limit}
use Rattle.pn_ranges.specs.Places.{first_fault, start}
use Rattle.pn_ranges.specs.Overs.{HasOver}

-- no bound is raised to 2^64 in what is read whole
abbrev pub NoOver : List ℕ → Type 0
NoOver text = (left : ℕ) → HasOver text left → ⊥

-- the first byte at which no reading goes on, or the end
pub record StopsByte (text : List ℕ) (at : ℕ) : Type 0 where
  pub within : at ≤ length text
  pub first : first_fault start text ≡ Some (stop.Byte (length text - at))

-- the first number of 2^64 or more, where all before it goes on
pub record StopsNumber (text : List ℕ) (at : ℕ) : Type 0 where
  pub within : at ≤ length text
  pub first : first_fault start text ≡ Some (stop.Number (length text - at))

-- the part of a version that a bound raises to 2^64
pub record StopsOver (text : List ℕ) (at : ℕ) : Type 0 where
  pub within : at ≤ length text
  pub raised : HasOver text (length text - at)

-- a wrong byte, and no bound is raised before it
pub record HasBadByte (text : List ℕ) (at : ℕ) : Type 0 where
  pub byte : StopsByte text at
  pub fit : NoOver text

-- a number of 2^64 or more, and no bound is raised before it; or the part that one raises
abbrev pub HasLargeNumber : List ℕ → ℕ → Type 0
HasLargeNumber text at = (StopsNumber text at × NoOver text) ⊎ StopsOver text at

-- ranges of more than 1,024 comparators
pub record HasMany (text : List ℕ) : Type 0 where
  pub count : ℕ
  pub ranges : List (List Limit)
  pub read : AreRanges text count ranges
  pub many : 1024 < count

abbrev pub RangeRefused : List ℕ → RangeFault → Type 0
RangeRefused text (fault.BadByte at) = HasBadByte text at
RangeRefused text (fault.NumberTooLarge at) = HasLargeNumber text at
RangeRefused text fault.TooMany = HasMany text
RangeRefused text fault.Memory = Unit {0}

-- a count of bytes that are left, as a place in a text of this length
abbrev pub refusal_of : ℕ → Stop → RangeFault
refusal_of len (stop.Byte left) = fault.BadByte (len - left)
refusal_of len (stop.Number left) = fault.NumberTooLarge (len - left)
refusal_of len stop.Memory = fault.Memory

abbrev pub IsLeftOf : ℕ → Stop → Type 0
IsLeftOf len (stop.Byte left) = left ≤ len
IsLeftOf len (stop.Number left) = left ≤ len
IsLeftOf len stop.Memory = Unit {0}
