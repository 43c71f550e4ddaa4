-- Texts of files in order, and what a search among them finds.
use Rattle.std.proofs.Common.{◌≡◌, ℕ, ◌+◌, ◌<◌, ◌≤◌, List, [], ◌∷◌, ◌++◌, length, map, take, drop, get_or, refl, sym, ap, ◌∙◌, subst, arith, true, false, nat_cmp, length-append}
use Rattle.std.specs.declared.cmp.Ordering.TheVariants.{Less, Greater}
use Rattle.std.proofs.lemmas.Bool.Decides.{nat_tests}
use Rattle.std.specs.Prelude.{Result, Ok, Err, is_ok, suc, nat_lt}
use Prim.Native.Nat.{zero}
use Rattle.std.specs.Bool.{MatchBool}
use Rattle.std.specs.Ordering.{is_lt}
use Rattle.std.specs.Cmp.Lexicographic.{slice_cmp}
use Rattle.std.specs.List.Sorted.{IsStrictlySortedBy, IsSortedBy, IsSearchInRange, IsBinarySearchResult}
use Rattle.std.proofs.lemmas.Cmp.{nat_list_cmp_total, tied_itself}
use Rattle.std.proofs.lemmas.List.Elements.{Contains-get_or}
use Rattle.std.proofs.lemmas.List.Sorted.{searchable_from_sorted}
use Rattle.std.proofs.lemmas.Map.Lookups.{exact_bytes}
use Rattle.pn_text.specs.Path.{text_below}
use Rattle.pn_registry.specs.Files.{File, IsRising}
use Rattle.pn_registry.specs.Listed.{file_of, text_of}
use Rattle.pn_registry.specs.Apart.{HasText, HasAbove}
use Rattle.pn_registry.specs.declared.list.PackageFile.{PackageFile}
use Rattle.pn_text.proofs.Bytes.{around_slash, at_seam, before_seam}
use Rattle.pn_text.proofs.Members.{from_map, to_map}
use Rattle.pn_text.proofs.Orders.{is_less, not_before_self, not_both_before}

not_back : (x y : List ℕ) → slice_cmp nat_cmp x y ≡ Less → is_lt (slice_cmp nat_cmp y x) ≡ false
not_back x y h = elim (is_lt (slice_cmp nat_cmp y x)) as (λ b. is_lt (slice_cmp nat_cmp y x) ≡ b → b ≡ false) [
  | true ↦ λ e. absurd (not_both_before x y h (is_less (slice_cmp nat_cmp y x) e))
  | false ↦ λ e. refl
] refl

read_on : (x : PackageFile) (xs : List PackageFile) (k : ℕ) (d : PackageFile) → get_or (x ∷ xs) (suc k + 1) d ≡ get_or xs (k + 1) d
read_on x xs k d = let e : suc k + 1 ≡ suc (k + 1) = omega arith in ap (λ n. get_or (x ∷ xs) n d) e

-- files that rise are sorted
sorted : (fs : List PackageFile) → IsRising (map file_of fs) → IsSortedBy (λ a b. is_lt (slice_cmp nat_cmp (text_of a) (text_of b))) fs
unfolding IsStrictlySortedBy
sorted [] h k d low within = absurd (omega arith)
sorted (f ∷ []) h k d low within = absurd (omega arith)
sorted (f ∷ g ∷ fs) h zero d low within = not_back (text_of f) (text_of g) h.0.0
sorted (f ∷ g ∷ fs) h (suc k) d low within =
    subst (λ z. is_lt (slice_cmp nat_cmp (text_of z) (text_of (get_or (g ∷ fs) k d))) ≡ false) (sym (read_on f (g ∷ fs) k d)) (sorted (g ∷ fs) h.1 k d (omega arith) (omega arith))

not_after_itself : (x : List ℕ) → slice_cmp nat_cmp x x ≡ Greater → ⊥
not_after_itself x h = let same = tied_itself nat_list_cmp_total x in cc (same, h)

-- what a search by text found
pub searched : (x : List ℕ) (fs : List PackageFile) (r : Result ℕ ℕ) → IsRising (map file_of fs) → IsSearchInRange r (length fs) → IsBinarySearchResult (λ y. slice_cmp nat_cmp (text_of y) x) fs r
    → MatchBool (is_ok r) (HasText (map file_of fs) x) (HasText (map file_of fs) x → ⊥)
searched x [] (Ok at) rising within equal = absurd (omega (arith, within))
searched x (f ∷ fs) (Ok at) rising within equal =
    let y = get_or (f ∷ fs) at f in
    (file_of y, to_map file_of (f ∷ fs) y (Contains-get_or (f ∷ fs) at f within), exact_bytes (text_of y) x (equal f))
searched x fs (Err at) rising within parted = λ h.
    let r = from_map file_of fs h.0 h.1 in
    let y = r.0 in
    let k = r.1.0 in
    let same : text_of (get_or fs k y) ≡ x = ap text_of r.1.2 ∙ ap (λ (g : File). text_below g.0) r.2 ∙ h.2 in
    let parts = parted (searchable_from_sorted nat_list_cmp_total text_of fs x (sorted fs rising)) in
    elim (nat_lt k at) as (λ b. nat_lt k at ≡ b → ⊥) [
      | true ↦ λ e. not_before_self x (subst (λ z. slice_cmp nat_cmp z x ≡ Less) same (parts.0 k y (omega arith) (below k at e)))
      | false ↦ λ e. not_after_itself x (subst (λ z. slice_cmp nat_cmp z x ≡ Greater) same (parts.1 k y (not_below k at e) r.1.1))
    ] refl
  where
    below : (k n : ℕ) → nat_lt k n ≡ true → k < n
    below k n e = grind (arith, nat_tests, e)

    not_below : (k n : ℕ) → nat_lt k n ≡ false → n ≤ k
    not_below k n e = grind (arith, nat_tests, e)

pub above_here : (files : List File) (text : List ℕ) (i : ℕ) → i < length text → get_or text i 0 ≡ 47 → HasText files (47 ∷ take i text) → HasAbove files text
above_here files text i within slash stands = record { front = take i text; rest = drop (i + 1) text; stands = stands; is = around_slash text i within slash }

-- no front before a slash below i is the text of one of the files
abbrev pub NoneAbove : List File → List ℕ → ℕ → Type 0
NoneAbove files text i = (k : ℕ) → k < i → get_or text k 0 ≡ 47 → HasText files (47 ∷ take k text) → ⊥

pub none_more : (files : List File) (text : List ℕ) (i : ℕ) → NoneAbove files text i → (get_or text i 0 ≡ 47 → HasText files (47 ∷ take i text) → ⊥) → NoneAbove files text (i + 1)
none_more files text i none here k lt slash has = elim (nat_lt k i) as (λ b. nat_lt k i ≡ b → ⊥) [
  | true ↦ λ e. none k (below k i e) slash has
  | false ↦ λ e. let same : k ≡ i = last k i e lt in here (subst (λ j. get_or text j 0 ≡ 47) same slash) (subst (λ j. HasText files (47 ∷ take j text)) same has)
] refl
  where
    below : (k n : ℕ) → nat_lt k n ≡ true → k < n
    below k n e = grind (arith, nat_tests, e)

    last : (k n : ℕ) → nat_lt k n ≡ false → k < n + 1 → k ≡ n
    last k n e lt = let le : n ≤ k = grind (arith, nat_tests, e) in omega (arith, le, lt)

within_seam : (front rest : List ℕ) → length front < length (front ++ 47 ∷ rest)
within_seam front rest = omega (arith, length-append front (47 ∷ rest))

pub none_above : (files : List File) (text : List ℕ) → NoneAbove files text (length text) → HasAbove files text → ⊥
none_above files text none h =
    let n = length h.front in
    let back = sym h.is in
    none n (subst (λ t. n < length t) back (within_seam h.front h.rest)) (subst (λ t. get_or t n 0 ≡ 47) back (at_seam h.front h.rest))
    (subst (λ t. HasText files (47 ∷ t)) (sym (subst (λ t. take n t ≡ h.front) back (before_seam h.front h.rest))) h.stands)
