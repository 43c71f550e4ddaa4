-- The first path that no listing may have.
use Rattle.std.proofs.Common.{◌≡◌, ℕ, ◌+◌, ◌<◌, ◌≤◌, List, ◌∷◌, ◌++◌, length, take, get_or, refl, sym, subst, arith, Bool, true, false, inl, inr}
use Rattle.std.specs.Prelude.{◌⊎◌, nat_lt}
use Rattle.std.specs.List.{Contains}
use Rattle.std.proofs.lemmas.List.{take_all}
use Rattle.std.proofs.lemmas.Bool.Decides.{nat_tests}
use Rattle.pn_digest.specs.Digests.{IsDigest}
use Rattle.pn_digest.specs.Listing.{Entry, IsRelPath, IsEntry, rel_text, has_feed}
use Rattle.pn_digest.specs.ListingFaults.{IsBadAt, IsFirst, IsNowhere, HasBelow}
use Rattle.pn_digest.specs.Folders.{HasFolders}
use Rattle.pn_digest.proofs.PlaceLemmas.{in_front_more, at_place, one_at, within_at}
use Rattle.pn_digest.proofs.IsRelPathLemmas.{goes_on, text_goes_on}
use Rattle.pn_text.proofs.Members.{none_in}
use Rattle.pn_text.proofs.Bools.{true_false}
use Rattle.pn_text.proofs.Numbers.{below}

-- No path before this place is bad.
pub record NoneBad (files : List Entry) (i : ℕ) : Type 0 where
  pub none : (k : ℕ) → k < i → IsBadAt files k → ⊥
  pub entries : (e : Entry) → Contains (take i files) e → IsEntry e

pub none_bad : (files : List Entry) → NoneBad files 0
none_bad files = record { none = λ k lt. absurd (omega (arith, lt)); entries = λ e h. absurd (none_in e h) }

pub last : (k i : ℕ) → nat_lt k i ≡ false → k < i + 1 → k ≡ i
last k i e lt = grind (arith, nat_tests, e)

-- what holds of each place before i and of i holds of each before i + 1
pub each_more : (P : ℕ → Type 0) (i : ℕ) → ((k : ℕ) → k < i → P k → ⊥) → (P i → ⊥) → (k : ℕ) → k < i + 1 → P k → ⊥
each_more P i none here k lt p = elim (nat_lt k i) as (λ b. nat_lt k i ≡ b → ⊥) [
  | true ↦ λ e. none k (below k i e) p
  | false ↦ λ e. here (subst P (last k i e lt) p)
] refl

pub none_bad_more : (files : List Entry) (has : List ℕ → Bool) (i : ℕ) (x : Entry) → HasFolders files has → NoneBad files i → i < length files → x ≡ get_or files i x → IsRelPath x.0 → IsDigest x.1
    → has_feed (rel_text x.0) ≡ false → has (rel_text x.0) ≡ false → NoneBad files (i + 1)
none_bad_more files has i x folders before within is path digest line apart = record {
  none = each_more (IsBadAt files) i before.none here;
  entries = λ e h. elim (in_front_more files i x e within is h) [
    | inl a ↦ before.entries e a
    | inr s ↦ subst IsEntry s (record { path = path; one_line = line; digest = digest })
  ];
}
  where
    above : HasBelow files x.0 → ⊥
    above b =
        let r = text_goes_on x.0 b.part b.down path in
        true_false (has (rel_text x.0)) ((folders.exact (rel_text x.0)).1 ((b.part ∷ b.down ++ x.0, b.digest), b.stands, r)) apart

    here : IsBadAt files i → ⊥
    here bad =
        let same : x ≡ bad.entry = one_at files i x bad.entry (at_place files i x within is) bad.stands in
        elim bad.bad [
          | inl f ↦ true_false (has_feed (rel_text x.0)) (subst (λ (z : Entry). has_feed (rel_text z.0) ≡ true) (sym same) f) line
          | inr b ↦ above (subst (λ (z : Entry). HasBelow files z.0) (sym same) b)
        ]

-- the first bad path
pub first_bad : (files : List Entry) (has : List ℕ → Bool) (i : ℕ) (x : Entry) → HasFolders files has → NoneBad files i → i < length files → x ≡ get_or files i x → IsRelPath x.0
    → (has_feed (rel_text x.0) ≡ true) ⊎ (has (rel_text x.0) ≡ true) → IsFirst (IsBadAt files) i
first_bad files has i x folders before within is path bad = record {
  here = record { entry = x; stands = at_place files i x within is; bad = elim bad [ inl f ↦ inl f | inr h ↦ inr (below_it h) ] };
  none = before.none;
}
  where
    below_it : has (rel_text x.0) ≡ true → HasBelow files x.0
    below_it h =
        let a = (folders.exact (rel_text x.0)).0 h in
        let e = a.0 in
        let g = goes_on x.0 e.0 a.2.0 path (folders.paths e a.1) a.2.1 in
        record { part = g.0; down = g.1; digest = e.1; stands = subst (λ z. Contains files (z, e.1)) g.2 a.1 }

pub bad_nowhere : (files : List Entry) (i : ℕ) → length files ≤ i → NoneBad files i → IsNowhere (IsBadAt files)
bad_nowhere files i end before k bad =
    let within = within_at files k bad.entry bad.stands in
    before.none k (omega (arith, within)) bad

pub entries_all : (files : List Entry) (i : ℕ) → length files ≤ i → NoneBad files i → (e : Entry) → Contains files e → IsEntry e
entries_all files i end before e h = before.entries e (subst (λ z. Contains z e) (sym (take_all i files end)) h)
