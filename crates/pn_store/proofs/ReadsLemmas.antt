-- Lemmas on what is read in pieces.
use Rattle.std.proofs.Common.{◌≡◌, ◌≢◌, ℕ, ◌+◌, ◌<◌, ◌≤◌, List, [], ◌∷◌, ◌++◌, length, take, drop, refl, sym, ap, ◌∙◌, arith, subst, true, false, Option, Some, None, inl, inr, ◌⊎◌, length-append, length-take}
use Rattle.std.specs.Prelude.{IfSome, bytes_eq}
use Rattle.std.proofs.Math.Dec.{ltb}
use Rattle.std.proofs.lemmas.Bool.{ltb-true, ltb-false}
use Rattle.std.proofs.Math.Seq.{take-add}
use Rattle.std.proofs.lemmas.List.{take_all, take-take}
use Rattle.std.proofs.lemmas.Slice.Eq.{bytes_eq-Decides}
use Rattle.pn_digest.specs.declared.hasher.Hasher512.{Hasher512}
use Rattle.pn_digest.specs.Hashing.{Holds as Hashes}
use Rattle.pn_storecore.specs.declared.step.Place.{Place}
use Rattle.pn_storecore.specs.Steps.{Journal}
use Rattle.pn_storecore.specs.Seen.{Seen}
use Rattle.pn_text.specs.declared.limits.TheConstants.{FILE_LIMIT}
use Rattle.pn_storecore.specs.Calls.{IsRead}
use Rattle.pn_text.specs.Pieces.{IsPieceOf}
use Rattle.pn_storecore.specs.Grew.{Grew, Was, WasTo, ReadTo}
use Rattle.pn_storecore.specs.CallLaws.{WasLaw}
use Rattle.pn_store.specs.Reads.{Changed, StoodThere}

-- what is known of the bytes so far
pub data Reading (place : Place) (at bytes : List ℕ) (from : ℕ) (old now : Seen) : Type 0 where
  start : from ≡ 0 → Reading place at bytes from old now
  front : (w : List ℕ) → Was place at (Some w) old now → bytes ≡ take from w → from ≤ length w → Reading place at bytes from old now
  changed : Changed place at old now → Reading place at bytes from old now

pub record IsReading (place : Place) (at : List ℕ) (from : ℕ) (hasher : Hasher512) (old now : Seen) : Type 0 where
  pub bytes : List ℕ
  pub size : from ≡ length bytes
  pub hashed : Hashes hasher bytes
  pub reading : Reading place at bytes from old now

-- a piece of bytes that stood
piece_of : (place : Place) (at : List ℕ) (from n : ℕ) (into : List ℕ) (j : Journal) (new : Option Journal) (bytes : Option (List ℕ)) → WasTo place at bytes j new → IsRead bytes from into (Some n) → (b : List ℕ) × WasTo place at (Some b) j new × IsPieceOf b from into n
piece_of place at from n into j new None was read = absurd read
piece_of place at from n into j new (Some b) was read = (b, was, read)

told_piece : (place : Place) (at : List ℕ) (from n : ℕ) (into : List ℕ) (o new : Option Journal) → IfSome o (λ j. ReadTo place at from into (Some n) j new) → (o ≡ None) ⊎ ((b : List ℕ) × IfSome o (λ j. WasTo place at (Some b) j new) × IsPieceOf b from into n)
told_piece place at from n into None new h = inl refl
told_piece place at from n into (Some j) new h = inr (piece_of place at from n into j new h.bytes h.was h.answer)

none_of : (place : Place) (at : List ℕ) (from : ℕ) (into : List ℕ) (j : Journal) (new : Option Journal) (bytes : Option (List ℕ)) → WasTo place at bytes j new → IsRead bytes from into None → WasTo place at None j new
none_of place at from into j new None was read = was
none_of place at from into j new (Some b) was read = absurd read

told_none : (place : Place) (at : List ℕ) (from : ℕ) (into : List ℕ) (o new : Option Journal) → IfSome o (λ j. ReadTo place at from into None j new) → IfSome o (λ j. WasTo place at None j new)
told_none place at from into None new h = tt
told_none place at from into (Some j) new h = none_of place at from into j new h.bytes h.was h.answer

pub absent : WasLaw → (place : Place) (at : List ℕ) (from : ℕ) (into : List ℕ) (old mid new : Seen) → Grew old mid → IfSome mid.journal (λ j. ReadTo place at from into None j new.journal) → Was place at None old new
absent law place at from into old mid new grew h = law.before old mid new place at None grew (told_none place at from into mid.journal new.journal h)

-- something that was read stood there
pub present : (place : Place) (at : List ℕ) (from n : ℕ) (into : List ℕ) (o new : Option Journal) → IfSome o (λ j. ReadTo place at from into (Some n) j new) → (b : List ℕ) × IfSome o (λ j. WasTo place at (Some b) j new)
present place at from n into None new h = ([], tt)
present place at from n into (Some j) new h = let p = piece_of place at from n into j new h.bytes h.was h.answer in (p.0, p.1)

changed_behind : WasLaw → (place : Place) (at : List ℕ) (old mid new : Seen) → Grew mid new → Changed place at old mid → Changed place at old new
changed_behind law place at old mid new grew h = record { one = h.one; other = h.other; differ = h.differ; first = law.behind old mid new place at (Some h.one) h.first grew; second = law.behind old mid new place at (Some h.other) h.second grew }

same_or_not : (a b : List ℕ) → (a ≡ b) ⊎ (a ≢ b)
same_or_not a b = elim (bytes_eq a b) as (λ t. bytes_eq a b ≡ t → (a ≡ b) ⊎ (a ≢ b)) [
  | true ↦ λ e. inl ((bytes_eq-Decides a b).0 e)
  | false ↦ λ e. inr (λ same. let is : bytes_eq a b ≡ true = (bytes_eq-Decides a b).1 same in cc (is, e))
] refl

-- what a piece from bytes b adds to a front of w
next_front : (b w bytes into : List ℕ) (from n : ℕ) → b ≡ w → bytes ≡ take from w → from ≤ length w → IsPieceOf b from into n → (bytes ++ take n into ≡ take (from + n) w) × (from + n ≤ length w)
next_front b w bytes into from n same is within p = (
  ap (λ x. bytes ++ x) (p.came ∙ ap (λ x. take n (drop from x)) same) ∙ ap (λ x. x ++ take n (drop from w)) is ∙ sym (take-add from n w),
  omega (arith, p.within, ap length same, within),
)

nothing : (bytes b : List ℕ) (from : ℕ) → from ≡ 0 → from ≡ length bytes → bytes ≡ take from b
nothing [] b from zero_is size = sym (ap (λ k. take k b) zero_is)
nothing (x ∷ xs) b from zero_is size = absurd (omega (arith, zero_is, size))

at_end : (b w into : List ℕ) (from n : ℕ) → b ≡ w → n ≡ 0 → IsPieceOf b from into n → length w ≤ from
at_end b w into from n same none p = ends_by (length w) (length b) from n none p.some (ap length same)
  where
    ends_by : (m l from n : ℕ) → n ≡ 0 → (from < l → 0 < n) → l ≡ m → m ≤ from
    ends_by m l from n none some same = elim (ltb from l) as (λ t. ltb from l ≡ t → m ≤ from) [
      | true ↦ λ e. let more : 0 < n = some (ltb-true from l e) in omega (arith, more, none)
      | false ↦ λ e. let less : l ≤ from = ltb-false from l e in omega (arith, less, same)
    ] refl

whole : (b w bytes into : List ℕ) (from n : ℕ) → b ≡ w → bytes ≡ take from w → n ≡ 0 → IsPieceOf b from into n → bytes ≡ w
whole b w bytes into from n same is none p = is ∙ take_all from w (at_end b w into from n same none p)

pub reads_on : WasLaw → (place : Place) (at bytes into : List ℕ) (from n : ℕ) (old mid new : Seen) → Grew old mid → Grew mid new → from ≡ length bytes → n ≤ length into → Reading place at bytes from old mid
    → IfSome mid.journal (λ j. ReadTo place at from into (Some n) j new.journal) → Reading place at (bytes ++ take n into) (from + n) old new
reads_on law place at bytes into from n old mid new grew more size within r h = elim (told_piece place at from n into mid.journal new.journal h) [
  | inl untold ↦ front (bytes ++ take n into) (law.before old mid new place at (Some (bytes ++ take n into)) grew (subst (λ o. IfSome o (λ j. WasTo place at (Some (bytes ++ take n into)) j new.journal)) (sym untold) tt))
      (sym (take_all (from + n) (bytes ++ take n into) (omega (arith, size, within, length-append bytes (take n into), length-take n into)))) (omega (arith, size, within, length-append bytes (take n into), length-take n into))
  | inr p ↦ grown law place at bytes into from n old mid new grew more size p.0 (law.before old mid new place at (Some p.0) grew p.1) p.2 r
]
  where
    grown : WasLaw → (place : Place) (at bytes into : List ℕ) (from n : ℕ) (old mid new : Seen) → Grew old mid → Grew mid new → from ≡ length bytes → (b : List ℕ) → Was place at (Some b) old new → IsPieceOf b from into n → Reading place at bytes from old mid → Reading place at (bytes ++ take n into) (from + n) old new
    grown law place at bytes into from n old mid new grew more size b was p (start zero_is) =
        let none : bytes ≡ take from b = nothing bytes b from zero_is size in
        let step = next_front b b bytes into from n refl none (omega (arith, zero_is)) p in
        front b was step.0 step.1
    grown law place at bytes into from n old mid new grew more size b was p (front w stood is inside) = elim (same_or_not b w) [
      | inl same ↦ let step = next_front b w bytes into from n same is inside p in front w (law.behind old mid new place at (Some w) stood more) step.0 step.1
      | inr apart ↦ changed (record { one = b; other = w; differ = apart; first = was; second = law.behind old mid new place at (Some w) stood more })
    ]
    grown law place at bytes into from n old mid new grew more size b was p (changed c) = changed (changed_behind law place at old mid new more c)

-- where no more comes
pub reads_end : WasLaw → (place : Place) (at bytes into : List ℕ) (from n : ℕ) (old mid new : Seen) → Grew old mid → Grew mid new → from ≡ length bytes → n ≡ 0 → Reading place at bytes from old mid
    → IfSome mid.journal (λ j. ReadTo place at from into (Some n) j new.journal) → StoodThere place at bytes old new
reads_end law place at bytes into from n old mid new grew more size none r h = elim (told_piece place at from n into mid.journal new.journal h) [
  | inl untold ↦ inl (law.before old mid new place at (Some bytes) grew (subst (λ o. IfSome o (λ j. WasTo place at (Some bytes) j new.journal)) (sym untold) tt))
  | inr p ↦ ended law place at bytes into from n old mid new more size none p.0 (law.before old mid new place at (Some p.0) grew p.1) p.2 r
]
  where
    ended : WasLaw → (place : Place) (at bytes into : List ℕ) (from n : ℕ) (old mid new : Seen) → Grew mid new → from ≡ length bytes → n ≡ 0 → (b : List ℕ) → Was place at (Some b) old new → IsPieceOf b from into n → Reading place at bytes from old mid → StoodThere place at bytes old new
    ended law place at bytes into from n old mid new more size none b was p (start zero_is) =
        inl (subst (λ x. Was place at (Some x) old new) (sym (whole b b bytes into from n refl (nothing bytes b from zero_is size) none p)) was)
    ended law place at bytes into from n old mid new more size none b was p (front w stood is inside) = elim (same_or_not b w) [
      | inl same ↦ inl (subst (λ x. Was place at (Some x) old new) (sym (whole b w bytes into from n same is none p)) (law.behind old mid new place at (Some w) stood more))
      | inr apart ↦ inr (record { one = b; other = w; differ = apart; first = was; second = law.behind old mid new place at (Some w) stood more })
    ]
    ended law place at bytes into from n old mid new more size none b was p (changed c) = inr (changed_behind law place at old mid new more c)

-- more than the limit was read
pub too_long : (place : Place) (at bytes : List ℕ) (from : ℕ) (old new : Seen) → FILE_LIMIT < from → from ≡ length bytes → Reading place at bytes from old new → (w : List ℕ) × (FILE_LIMIT < length w) × StoodThere place at w old new
too_long place at bytes from old new past size (start zero_is) = absurd (omega (arith, past, zero_is))
too_long place at bytes from old new past size (front w stood is inside) = (w, omega (arith, past, inside), inl stood)
too_long place at bytes from old new past size (changed c) = (bytes, omega (arith, past, size), inr c)

-- a front of a piece
fewer_of : (bytes : List ℕ) (from : ℕ) (into : List ℕ) (n m : ℕ) → 0 < m → m ≤ n → IsPieceOf bytes from into n → IsPieceOf bytes from into m
fewer_of bytes from into n m some less p = record {
  came = sym (take-take m n into less) ∙ ap (take m) p.came ∙ take-take m n (drop from bytes) less;
  within = omega (arith, less, p.within);
  some = λ h. some;
}

fewer_read : (bytes : Option (List ℕ)) (from : ℕ) (into : List ℕ) (n m : ℕ) → 0 < m → m ≤ n → IsRead bytes from into (Some n) → IsRead bytes from into (Some m)
fewer_read None from into n m some less read = read
fewer_read (Some b) from into n m some less read = fewer_of b from into n m some less read

pub fewer : (place : Place) (at : List ℕ) (from n m : ℕ) (into : List ℕ) (o new : Option Journal) → 0 < m → m ≤ n → IfSome o (λ j. ReadTo place at from into (Some n) j new) → IfSome o (λ j. ReadTo place at from into (Some m) j new)
fewer place at from n m into None new some less h = tt
fewer place at from n m into (Some j) new some less h = record { bytes = h.bytes; was = h.was; answer = fewer_read h.bytes from into n m some less h.answer }
