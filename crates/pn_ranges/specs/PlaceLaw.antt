-- The place of a wrong byte, in the words of the grammar.
use Rattle.std.specs.Prelude.{◌≡◌, ◌<◌, ◌≤◌, ◌^◌, ◌+◌, ◌++◌, ◌∷◌, ℕ, false, List, [], drop, length, take}
use Rattle.pn_ranges.specs.Bytes.{is_digit, number_at}
use Rattle.pn_ranges.specs.Forms.{AreForms, IsFront}
use Rattle.pn_ranges.specs.Grammar.{AreRanges}
use Rattle.pn_ranges.specs.Limits.{Limit}
use Rattle.pn_ranges.specs.Refusals.{StopsByte, StopsNumber}

-- the bytes before a place begin some text of the form, and with the byte there they begin none; at the end, the text
-- itself is none
pub record StopsAt (text : List ℕ) (at : ℕ) : Type 0 where
  pub within : at ≤ length text
  pub front : IsFront (take at text)
  pub byte : at < length text → IsFront (take (at + 1) text) → ⊥
  pub early : at ≡ length text → AreForms text → ⊥

-- a number of 2^64 or more begins there: the bytes before it and its first digit begin some text of the form, as do the
-- bytes before it and the wildcard `*`, and no digit stands right before it
pub record IsLongAt (text : List ℕ) (at : ℕ) : Type 0 where
  pub front : IsFront (take (at + 1) text)
  pub part : IsFront (take at text ++ 42 ∷ [])
  pub apart : (before : List ℕ) (b : ℕ) → take at text ≡ before ++ b ∷ [] → is_digit b ≡ false
  pub long : 2 ^ 64 ≤ number_at (drop at text)

-- what spells ranges is of the form; a wrong byte stands at the first place where no reading of the form goes on, and a
-- number that is too large where it is written
pub record PlaceLaw : Type 0 where
  pub form : (text : List ℕ) (k : ℕ) (ranges : List (List Limit)) → AreRanges text k ranges → AreForms text
  pub place : (text : List ℕ) (at : ℕ) → StopsByte text at → StopsAt text at
  pub number : (text : List ℕ) (at : ℕ) → StopsNumber text at → IsLongAt text at
