-- Of a text at most one fault is named, and the first one.
use Rattle.std.proofs.Common.{◌≡◌, ◌≢◌, ◌≤◌, ◌<◌, ◌-◌, ℕ, List, length, Some, refl, sym, ap, ◌∙◌, arith, inl, inr}
use Rattle.pn_ranges.specs.declared.fault.RangeFault.{RangeFault}
use Rattle.pn_ranges.specs.declared.fault.RangeFault.TheVariants as fault
use Rattle.pn_ranges.specs.declared.fault.Stop.TheVariants as stop
use Rattle.pn_ranges.specs.Grammar.{Spells}
use Rattle.pn_ranges.specs.Limits.{Limit}
use Rattle.pn_ranges.specs.RefusalLaw.{RefusalLaw}
use Rattle.pn_ranges.specs.Refusals.{HasBadByte, HasLargeNumber, HasMany, RangeRefused, StopsByte, StopsNumber, StopsOver}
use Rattle.pn_ranges.proofs.Counts.{too-many}
use Rattle.pn_ranges.proofs.Firsts.{over-first}
use Rattle.pn_ranges.proofs.Reached.{over-ranges, over-unique}
use Rattle.pn_ranges.proofs.Stopped.{no-byte, no-number, ranges-form}

same-byte : (m n : ℕ) → Some (stop.Byte m) ≡ Some (stop.Byte n) → m ≡ n
same-byte m n h = cc h

same-number : (m n : ℕ) → Some (stop.Number m) ≡ Some (stop.Number n) → m ≡ n
same-number m n h = cc h

same-place : (l m n : ℕ) → m ≤ l → n ≤ l → l - m ≡ l - n → m ≡ n
same-place l m n h k e = omega arith

bytes : (text : List ℕ) (m n : ℕ) → HasBadByte text m → HasBadByte text n → m ≡ n
bytes text m n h k = same-place (length text) m n h.byte.within k.byte.within (same-byte (length text - m) (length text - n) (sym h.byte.first ∙ k.byte.first))

byte-number : (text : List ℕ) (m n : ℕ) → HasBadByte text m → HasLargeNumber text n → ⊥
byte-number text m n h k = elim k [
  | inl f ↦ let w : Some (stop.Byte (length text - m)) ≡ Some (stop.Number (length text - n)) = sym h.byte.first ∙ f.0.first in cc w
  | inr o ↦ h.fit (length text - n) o.raised
]

numbers : (text : List ℕ) (m n : ℕ) → HasLargeNumber text m → HasLargeNumber text n → m ≡ n
numbers text m n h k = elim h [
  | inl f ↦ elim k [
    | inl e ↦ same-place (length text) m n f.0.within e.0.within (same-number (length text - m) (length text - n) (sym f.0.first ∙ e.0.first))
    | inr o ↦ absurd (f.1 (length text - n) o.raised)
  ]
  | inr p ↦ elim k [
    | inl e ↦ absurd (e.1 (length text - m) p.raised)
    | inr o ↦ same-place (length text) m n p.within o.within (over-unique text (length text - m) p.raised text (length text - n) o.raised refl)
  ]
]

byte-many : (text : List ℕ) (m : ℕ) → HasBadByte text m → HasMany text → ⊥
byte-many text m h k = no-byte text (length text - m) (ranges-form text k.count k.ranges k.read) h.byte.first

number-many : (text : List ℕ) (m : ℕ) → HasLargeNumber text m → HasMany text → ⊥
number-many text m h k = elim h [
  | inl f ↦ no-number text (length text - m) (ranges-form text k.count k.ranges k.read) f.0.first
  | inr o ↦ over-ranges text (length text - m) o.raised text k.count k.ranges k.read refl
]

one : (text : List ℕ) (e f : RangeFault) → RangeRefused text e → RangeRefused text f → e ≢ fault.Memory → f ≢ fault.Memory → e ≡ f
one text fault.Memory f h k m n = absurd (m refl)
one text (fault.BadByte a) fault.Memory h k m n = absurd (n refl)
one text (fault.BadByte a) (fault.BadByte b) h k m n = ap (λ z. fault.BadByte z) (bytes text a b h k)
one text (fault.BadByte a) (fault.NumberTooLarge b) h k m n = absurd (byte-number text a b h k)
one text (fault.BadByte a) fault.TooMany h k m n = absurd (byte-many text a h k)
one text (fault.NumberTooLarge a) fault.Memory h k m n = absurd (n refl)
one text (fault.NumberTooLarge a) (fault.BadByte b) h k m n = absurd (byte-number text b a k h)
one text (fault.NumberTooLarge a) (fault.NumberTooLarge b) h k m n = ap (λ z. fault.NumberTooLarge z) (numbers text a b h k)
one text (fault.NumberTooLarge a) fault.TooMany h k m n = absurd (number-many text a h k)
one text fault.TooMany fault.Memory h k m n = absurd (n refl)
one text fault.TooMany (fault.BadByte b) h k m n = absurd (byte-many text b k h)
one text fault.TooMany (fault.NumberTooLarge b) h k m n = absurd (number-many text b k h)
one text fault.TooMany fault.TooMany h k m n = refl

pub none : (text : List ℕ) (ranges : List (List Limit)) (e : RangeFault) → Spells text ranges → RangeRefused text e → e ≢ fault.Memory → ⊥
none text r fault.Memory s h m = m refl
none text r (fault.BadByte a) s h m = no-byte text (length text - a) (ranges-form text s.count r s.read) h.byte.first
none text r (fault.NumberTooLarge a) s h m = elim h [
  | inl f ↦ no-number text (length text - a) (ranges-form text s.count r s.read) f.0.first
  | inr o ↦ over-ranges text (length text - a) o.raised text s.count r s.read refl
]
none text r fault.TooMany s h m = too-many text h.count h.ranges h.read h.many r s

before : (l at other : ℕ) → other ≤ l → l - other < l - at → at < other
before l at other h k = omega arith

over-byte : (text : List ℕ) (at other : ℕ) → StopsOver text at → StopsByte text other → at < other
over-byte text at other h k = before (length text) at other k.within (over-first text (length text - at) (stop.Byte (length text - other)) h.raised k.first)

over-number : (text : List ℕ) (at other : ℕ) → StopsOver text at → StopsNumber text other → at < other
over-number text at other h k = before (length text) at other k.within (over-first text (length text - at) (stop.Number (length text - other)) h.raised k.first)

pub refusals : RefusalLaw
refusals = record { one = one; none = none; byte = over-byte; number = over-number }
