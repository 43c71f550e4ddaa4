-- The first path that stands twice.
use Rattle.std.proofs.Common.{◌≡◌, ℕ, ◌+◌, ◌<◌, ◌≤◌, List, length, get_or, refl, sym, ap, ◌∙◌, subst, arith, Bool, true, false, cond, inl, inr, Some}
use Rattle.std.specs.Prelude.{◌⊎◌, ◌↔◌, ◌||◌, IsTrue, nat_lt, slice_get}
use Rattle.std.specs.Str.{bytes_eq}
use Rattle.std.proofs.lemmas.Slice.Eq.{bytes_eq-Decides}
use Rattle.pn_digest.specs.Listing.{Entry, IsRelPath, rel_text}
use Rattle.pn_digest.specs.ListingFaults.{IsTwiceAt, IsFirst, IsNowhere}
use Rattle.pn_digest.proofs.IsBadAtLemmas.{each_more, last}
use Rattle.pn_text.proofs.Numbers.{below}
use Rattle.pn_digest.proofs.PlaceLemmas.{at_place, one_at, within_at}
use Rattle.pn_digest.proofs.IsRelPathLemmas.{same_rel}
use Rattle.pn_text.proofs.Bools.{or_cases, or_cond, or_right, true_false}

-- a path before i has this text
abbrev pub IsTextBefore : List Entry → ℕ → List ℕ → Type 0
IsTextBefore files i t = (k : ℕ) × (e : Entry) × (k < i) × (slice_get files k ≡ Some e) × (rel_text e.0 ≡ t)

-- No path before i stands twice, and a set has their texts.
pub record NoneTwice (files : List Entry) (has : List ℕ → Bool) (i : ℕ) : Type 0 where
  pub none : (k : ℕ) → k < i → IsTwiceAt files k → ⊥
  pub paths : (k : ℕ) (e : Entry) → k < i → slice_get files k ≡ Some e → IsRelPath e.0
  pub exact : (t : List ℕ) → IsTrue (has t) ↔ IsTextBefore files i t

module _ (files : List Entry) (has : List ℕ → Bool) (i : ℕ) (x : Entry) (before : NoneTwice files has i) (within : i < length files) (is : x ≡ get_or files i x) (path : IsRelPath x.0) where
  here : slice_get files i ≡ Some x
  here = at_place files i x within is

  parted : (k : ℕ) → k < i + 1 → (k < i) ⊎ (k ≡ i)
  parted k lt = elim (nat_lt k i) as (λ b. nat_lt k i ≡ b → (k < i) ⊎ (k ≡ i)) [
    | true ↦ λ e. inl (below k i e)
    | false ↦ λ e. inr (last k i e lt)
  ] refl

  -- at the place i
  at_i : (k : ℕ) (e : Entry) → k ≡ i → slice_get files k ≡ Some e → x ≡ e
  at_i k e same stands = one_at files i x e here (subst (λ j. slice_get files j ≡ Some e) same stands)

  not_twice : has (rel_text x.0) ≡ false → IsTwiceAt files i → ⊥
  not_twice new t =
      let same : x ≡ (t.path, t.digest) = one_at files i x (t.path, t.digest) here t.stands in
      let text : rel_text t.path ≡ rel_text x.0 = ap (λ (z : Entry). rel_text z.0) (sym same) in
      true_false (has (rel_text x.0)) ((before.exact (rel_text x.0)).1 (t.place, (t.path, t.digest_there), t.earlier, t.stands_there, text)) new

  pub none_twice_more : (has' : List ℕ → Bool) → has (rel_text x.0) ≡ false → ((t : List ℕ) → has' t ≡ cond (bytes_eq (rel_text x.0) t) true (has t)) → NoneTwice files has' (i + 1)
  none_twice_more has' new adds = record {
    none = each_more (IsTwiceAt files) i before.none (not_twice new);
    paths = λ k e lt stands. elim (parted k lt) [
      | inl a ↦ before.paths k e a stands
      | inr s ↦ subst (λ (z : Entry). IsRelPath z.0) (at_i k e s stands) path
    ];
    exact = λ t. (λ h. grown t (or_cases (bytes_eq (rel_text x.0) t) (has t) (sym (or_cond (bytes_eq (rel_text x.0) t) (has t)) ∙ sym (adds t) ∙ h)), back t);
  }
    where
      grown : (t : List ℕ) → (bytes_eq (rel_text x.0) t ≡ true) ⊎ (has t ≡ true) → IsTextBefore files (i + 1) t
      grown t h = elim h [
        | inl e ↦ (i, x, omega arith, here, (bytes_eq-Decides (rel_text x.0) t).0 e)
        | inr o ↦ let b = (before.exact t).0 o in (b.0, b.1, omega (arith, b.2), b.3, b.4)
      ]

      back : (t : List ℕ) → IsTextBefore files (i + 1) t → has' t ≡ true
      back t b = adds t ∙ or_cond (bytes_eq (rel_text x.0) t) (has t) ∙ elim (parted b.0 b.2) [
        | inl a ↦ or_right (bytes_eq (rel_text x.0) t) (has t) ((before.exact t).1 (b.0, b.1, a, b.3, b.4))
        | inr s ↦ ap (λ c. c || has t) ((bytes_eq-Decides (rel_text x.0) t).1 (ap (λ (z : Entry). rel_text z.0) (at_i b.0 b.1 s b.3) ∙ b.4))
      ]

  pub first_twice : has (rel_text x.0) ≡ true → IsFirst (IsTwiceAt files) i
  first_twice old =
      let b = (before.exact (rel_text x.0)).0 old in
      let same : b.1.0 ≡ x.0 = same_rel b.1.0 x.0 (before.paths b.0 b.1 b.2 b.3) path b.4 in
      record {
        here = record {
          path = x.0;
          digest = x.1;
          stands = here;
          place = b.0;
          earlier = b.2;
          digest_there = b.1.1;
          stands_there = subst (λ p. slice_get files b.0 ≡ Some (p, b.1.1)) same b.3;
        };
        none = before.none;
      }

pub twice_nowhere : (files : List Entry) (has : List ℕ → Bool) (i : ℕ) → length files ≤ i → NoneTwice files has i → IsNowhere (IsTwiceAt files)
twice_nowhere files has i end before k t =
    let within = within_at files k (t.path, t.digest) t.stands in
    before.none k (omega (arith, within)) t
