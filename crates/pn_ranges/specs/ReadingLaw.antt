-- A text has one reading.
use Rattle.std.specs.Prelude.{◌≡◌, ℕ, List}
use Rattle.pn_ranges.specs.Grammar.{AreRanges, Spells}
use Rattle.pn_ranges.specs.Limits.{Limit}

-- a text spells at most one list of ranges, also where their comparators aren't few, and it has one count of these
pub record ReadingLaw : Type 0 where
  pub one : (text : List ℕ) (r s : List (List Limit)) → Spells text r → Spells text s → r ≡ s
  pub ranges : (text : List ℕ) (k m : ℕ) (r s : List (List Limit)) → AreRanges text k r → AreRanges text m s → r ≡ s
  pub count : (text : List ℕ) (k m : ℕ) (r s : List (List Limit)) → AreRanges text k r → AreRanges text m s → k ≡ m
