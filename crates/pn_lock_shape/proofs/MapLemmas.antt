-- Maps that are read and sorted.
use Rattle.std.proofs.Common.{◌≡◌, ℕ, true, List, map, sym, ap, ◌∙◌, subst}
use Rattle.std.specs.Prelude.{Ok, IsPermutation}
use Rattle.std.specs.List.Sorted.{IsSortedBy}
use Rattle.std.specs.Cmp.Lexicographic.{slice_cmp}
use Rattle.std.specs.Ordering.{is_lt, nat_cmp}
use Rattle.pn_yaml.specs.Data.{Data, Members, are_apart}
use Rattle.pn_yaml.specs.Data.{map as map_data}
use Rattle.pn_lock.specs.Kept.{Rises}
use Rattle.pn_lock_shape.specs.Keys.{Once}
use Rattle.pn_lock_shape.specs.Shapes.{Outcome, ◌>>=◌, each, in_order, map_in}
use Rattle.pn_lock_shape.proofs.ApartLemmas.{read_once}
use Rattle.pn_lock_shape.proofs.SortLemmas.{sorted_once, sorted_rises}

module _ {A : Type 0} (key : A → List ℕ) (read : List ℕ → Data → Outcome A) (own : (k : List ℕ) (d : Data) (x : A) → read k d ≡ Ok x → key x ≡ k) where
  once : (d : Data) (ms : Members) (xs : List A) → d ≡ map_data ms → are_apart d ≡ true → each read ms ≡ Ok xs → Once (map key xs)
  once d ms xs e h r = read_once read key own ms xs (subst (λ d. are_apart d ≡ true) e h) r

  -- what is read of a map
  pub map_read : (d : Data) (ms : Members) (xs ys : List A) → d ≡ map_data ms → are_apart d ≡ true → each read ms ≡ Ok xs → IsPermutation xs ys
      → IsSortedBy (λ a b. is_lt (slice_cmp nat_cmp (key a) (key b))) ys → map_in key read d ≡ Ok ys
  map_read d ms xs ys e h r p s =
      ap (map_in key read) e ∙ ap (λ o. o >>= λ zs. Ok (in_order key zs)) r ∙ ap Ok (sym (sorted_once key xs ys p (once d ms xs e h r) s))

  pub map_rises : (d : Data) (ms : Members) (xs ys : List A) → d ≡ map_data ms → are_apart d ≡ true → each read ms ≡ Ok xs → IsPermutation xs ys
      → IsSortedBy (λ a b. is_lt (slice_cmp nat_cmp (key a) (key b))) ys → Rises (map key ys)
  map_rises d ms xs ys e h r p s =
      let o = once d ms xs e h r in
      subst (λ zs. Rises (map key zs)) (sym (sorted_once key xs ys p o s)) (sorted_rises key xs o)
