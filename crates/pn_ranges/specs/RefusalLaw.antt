-- Of a text at most one fault is named, and the first one.
use Rattle.std.specs.Prelude.{◌≡◌, ◌≢◌, ◌<◌, ℕ, List}
use Rattle.pn_ranges.specs.declared.fault.RangeFault.{RangeFault}
use Rattle.pn_ranges.specs.declared.fault.RangeFault.TheVariants.{Memory}
use Rattle.pn_ranges.specs.Grammar.{Spells}
use Rattle.pn_ranges.specs.Limits.{Limit}
use Rattle.pn_ranges.specs.Refusals.{RangeRefused, StopsByte, StopsNumber, StopsOver}

-- want of memory aside, a text has at most one refusal, and none where it spells ranges; a bound that is raised to 2^64
-- stands before a wrong byte and before a number of 2^64 or more
pub record RefusalLaw : Type 0 where
  pub one : (text : List ℕ) (e f : RangeFault) → RangeRefused text e → RangeRefused text f → e ≢ Memory → f ≢ Memory → e ≡ f
  pub none : (text : List ℕ) (ranges : List (List Limit)) (e : RangeFault) → Spells text ranges → RangeRefused text e → e ≢ Memory → ⊥
  pub byte : (text : List ℕ) (at other : ℕ) → StopsOver text at → StopsByte text other → at < other
  pub number : (text : List ℕ) (at other : ℕ) → StopsOver text at → StopsNumber text other → at < other
