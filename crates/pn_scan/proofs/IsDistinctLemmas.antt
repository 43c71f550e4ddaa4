-- Lists without the same path twice.
use Rattle.std.proofs.Common.{◌≡◌, List, [], ◌∷◌, ◌++◌, inl, inr, sym, subst}
use Rattle.std.specs.List.{Contains}
use Rattle.std.proofs.lemmas.List.Elements.{Contains-append_left, Contains-append_cases, Contains-push}
use Rattle.pn_text.specs.Path.{Path}
use Rattle.pn_text.proofs.Members.{none_in, in_cons, here, there}
use Rattle.pn_scan.specs.ScanFaults.{IsDistinct}

pub distinct_append : (xs ys : List Path) → IsDistinct xs → IsDistinct ys → ((p : Path) → Contains xs p → Contains ys p → ⊥) → IsDistinct (xs ++ ys)
distinct_append [] ys a b apart = b
distinct_append (x ∷ xs) ys a b apart = (
  λ h. elim (Contains-append_cases xs ys x h) [ inl i ↦ a.0 i | inr j ↦ apart x (here x xs) j ],
  distinct_append xs ys a.1 b (λ p i j. apart p (there x xs p i) j),
)

pub distinct_front : (xs ys : List Path) → IsDistinct (xs ++ ys) → IsDistinct xs
distinct_front [] ys h = tt
distinct_front (x ∷ xs) ys h = (λ i. h.0 (Contains-append_left xs ys x i), distinct_front xs ys h.1)

pub distinct_last : (xs : List Path) (q : Path) → IsDistinct (xs ++ q ∷ []) → Contains xs q → ⊥
distinct_last [] q h i = none_in q i
distinct_last (x ∷ xs) q h i = elim (in_cons x xs q i) [
  | inl e ↦ h.0 (subst (λ z. Contains (xs ++ q ∷ []) z) (sym e) (Contains-push xs q))
  | inr j ↦ distinct_last xs q h.1 j
]
