-- What a search by name finds where names rise.
use Rattle.std.proofs.Common.{◌≡◌, ◌<◌, ◌+◌, ℕ, true, false, List, [], ◌∷◌, length, get_or, map, refl, sym, ap, ◌∙◌, subst, arith, nat_cmp, inl, inr}
use Rattle.std.specs.Prelude.{Result, Ok, Err, is_ok, nat_lt}
use Rattle.std.specs.Cmp.Lexicographic.{slice_cmp}
use Rattle.std.specs.List.{list_any, Contains}
use Rattle.std.specs.List.Sorted.{IsSortedBy, IsSearchInRange, IsBinarySearchResult}
use Rattle.std.specs.Ordering.{is_lt, ordering_reverse}
use Rattle.std.specs.Str.{bytes_eq}
use Rattle.std.specs.declared.cmp.Ordering.TheVariants.{Less, Equal, Greater}
use Rattle.std.proofs.lemmas.Bool.{ltb-true, ltb-false}
use Rattle.std.proofs.lemmas.Cmp.{nat_list_cmp_total, tied_itself}
use Rattle.std.proofs.lemmas.List.{get_or-map, length-map}
use Rattle.std.proofs.lemmas.List.Elements.{Contains-get_or}
use Rattle.std.proofs.lemmas.List.Sorted.{searchable_from_sorted}
use Rattle.std.proofs.lemmas.Map.Keys.{Less-from_sorted}
use Rattle.std.proofs.lemmas.Map.Lookups.{exact_bytes}
use Rattle.std.proofs.lemmas.Map.Views.{Contains-from_any}
use Rattle.std.proofs.lemmas.Slice.Eq.{bytes_eq-Decides}
use Rattle.pn_text.proofs.Bools.{or_right}
use Rattle.pn_text.proofs.Members.{none_in, in_cons, from_map, to_map}
use Rattle.pn_text.proofs.Orders.{not_before_self}
use Rattle.pn_manifest.specs.Listed.{pair_of}
use Rattle.pn_manifest.specs.Pairs.{names}
use Rattle.pn_manifest.specs.Said.{AreRising}
use Rattle.pn_manifest.specs.declared.dependencies.Dependency.{Dependency}

-- a name is among the members of a list, or isn't
pub any_of : (x : List ℕ) (ns : List (List ℕ)) → Contains ns x → list_any (bytes_eq x) ns ≡ true
any_of x [] h = absurd (none_in x h)
any_of x (n ∷ ns) h = elim (in_cons n ns x h) [
  | inl same ↦ rw ((bytes_eq-Decides x n).1 (sym same))
  | inr more ↦ or_right (bytes_eq x n) (list_any (bytes_eq x) ns) (any_of x ns more)
]

none_of : (x : List ℕ) (ns : List (List ℕ)) → (Contains ns x → ⊥) → list_any (bytes_eq x) ns ≡ false
none_of x ns h = elim (list_any (bytes_eq x) ns) as (λ b. list_any (bytes_eq x) ns ≡ b → b ≡ false) [
  | true ↦ λ e. absurd (h (Contains-from_any {eq = bytes_eq} (λ a b d. (bytes_eq-Decides a b).0 d) x ns e))
  | false ↦ λ e. refl
] refl

module _ {X : Type 0} (key : X → List ℕ) where
  sorted : (xs : List X) → AreRising (map key xs) → IsSortedBy (λ a b. is_lt (slice_cmp nat_cmp (key a) (key b))) xs
  sorted xs h k d low within =
      let a = key (get_or xs k d) in
      let b = key (get_or xs (k + 1) d) in
      let first : get_or (map key xs) k (key d) ≡ a = get_or-map key xs k d (key d) (omega arith) in
      let second : get_or (map key xs) (k + 1) (key d) ≡ b = get_or-map key xs (k + 1) d (key d) within in
      let rises = Less-from_sorted (slice_cmp nat_cmp) (map key xs) k (k + 1) (key d) h (omega arith) (subst (λ n. k + 1 < n) (sym (length-map xs key)) within) in
      let less : slice_cmp nat_cmp a b ≡ Less = ap (λ x. slice_cmp nat_cmp x b) (sym first) ∙ ap (slice_cmp nat_cmp (get_or (map key xs) k (key d))) (sym second) ∙ rises in
      ap is_lt (nat_list_cmp_total.antisymm b a ∙ ap ordering_reverse less)

  pub searched : (xs : List X) (n : List ℕ) (r : Result ℕ ℕ) → AreRising (map key xs) → IsSearchInRange r (length xs) → IsBinarySearchResult (λ y. slice_cmp nat_cmp (key y) n) xs r
      → is_ok r ≡ list_any (bytes_eq n) (map key xs)
  searched [] n (Ok at) rising within equal = absurd (omega (arith, within))
  searched (x ∷ xs) n (Ok at) rising within equal =
      let y = get_or (x ∷ xs) at x in
      let same : key y ≡ n = exact_bytes (key y) n (equal x) in
      sym (any_of n (map key (x ∷ xs)) (subst (λ z. Contains (map key (x ∷ xs)) z) same (to_map key (x ∷ xs) y (Contains-get_or (x ∷ xs) at x within))))
  searched xs n (Err at) rising within parted = sym (none_of n (map key xs) (λ h.
      let r = from_map key xs n h in
      let y = r.0 in
      let k = r.1.0 in
      let same : key (get_or xs k y) ≡ n = ap key r.1.2 ∙ r.2 in
      let parts = parted (searchable_from_sorted nat_list_cmp_total key xs n (sorted xs rising)) in
      elim (nat_lt k at) as (λ b. nat_lt k at ≡ b → ⊥) [
        | true ↦ λ e. not_before_self n (subst (λ z. slice_cmp nat_cmp z n ≡ Less) same (parts.0 k y (omega arith) (ltb-true k at e)))
        | false ↦ λ e.
            let after : slice_cmp nat_cmp n n ≡ Greater = subst (λ z. slice_cmp nat_cmp z n ≡ Greater) same (parts.1 k y (ltb-false k at e) r.1.1) in
            let clash : Equal ≡ Greater = sym (tied_itself nat_list_cmp_total n) ∙ after in cc
      ] refl))

pub listed_names : (ds : List Dependency) → names (map pair_of ds) ≡ map (λ (d : Dependency). d.name) ds
listed_names [] = refl
listed_names (d ∷ ds) = ap (λ ns. d.name ∷ ns) (listed_names ds)
