-- A list in order of its keys has each key once.
use Rattle.std.proofs.Common.{◌≡◌, ℕ, List, [], ◌∷◌, map, sym, ap, ◌∙◌, subst, inl, inr}
use Rattle.std.specs.Cmp.Lexicographic.{slice_cmp}
use Rattle.std.specs.List.{AllZip, Contains}
use Rattle.std.specs.List.Sorted.{IsStrictlySortedBy}
use Rattle.std.specs.Ordering.{nat_cmp}
use Rattle.std.specs.Prelude.{zip}
use Rattle.std.specs.declared.cmp.Ordering.TheVariants.{Less}
use Rattle.std.proofs.lemmas.List.Elements.{All-contains, All-from_recursion}
use Rattle.pn_text.proofs.Members.{to_map, none_in, in_cons, here, there}
use Rattle.pn_text.proofs.Orders.{not_before_self}
use Rattle.pn_digest.specs.Listing.{Entry}
use Rattle.pn_package.specs.declared.packages.Package.{Package}
use Rattle.pn_layout.specs.Listed.{Listed, HasListing, AreOfPackages}

first_below : {X : Type 0} (key : X → List ℕ) (x : X) (xs : List X) → IsStrictlySortedBy (slice_cmp nat_cmp) (map key (x ∷ xs)) → (d : X) → Contains xs d → key x ≡ key d → ⊥
unfolding IsStrictlySortedBy
first_below key x xs rising d c same =
    let before = All-contains (λ y. slice_cmp nat_cmp (key x) y ≡ Less) (map key xs) (key d) (All-from_recursion (λ y. slice_cmp nat_cmp (key x) y ≡ Less) (map key xs) rising.0) (to_map key xs d c) in
    not_before_self (key d) (subst (λ k. slice_cmp nat_cmp k (key d) ≡ Less) same before)

pub once : {X : Type 0} (key : X → List ℕ) (xs : List X) → IsStrictlySortedBy (slice_cmp nat_cmp) (map key xs) → (d e : X) → Contains xs d → Contains xs e → key d ≡ key e → d ≡ e
unfolding IsStrictlySortedBy
once key [] rising d e h k same = absurd (none_in d h)
once key (x ∷ xs) rising d e h k same = elim (in_cons x xs d h) [
  | inl a ↦ elim (in_cons x xs e k) [
    | inl b ↦ sym a ∙ b
    | inr b ↦ absurd (first_below key x xs rising e b (ap key a ∙ same))
  ]
  | inr a ↦ elim (in_cons x xs e k) [
    | inl b ↦ absurd (first_below key x xs rising d a (ap key b ∙ sym same))
    | inr b ↦ once key xs rising.1 d e a b same
  ]
]

-- what holds of a package and its listing
pub zip_all : (R : Package → List Entry → Type 0) (ps : List Package) (ls : List (List Entry)) → AllZip R ps ls → (x : Listed) → Contains (zip ps ls) x → Contains ps x.0 × R x.0 x.1
zip_all R [] ls h x c = absurd (none_in x c)
zip_all R (p ∷ ps) [] h x c = absurd h
zip_all R (p ∷ ps) (l ∷ ls) h x c = elim (in_cons (p, l) (zip ps ls) x c) [
  | inl e ↦ (subst (λ (y : Listed). Contains (p ∷ ps) y.0) e (here p ps), subst (λ (y : Listed). R y.0 y.1) e h.0)
  | inr more ↦ let k = zip_all R ps ls h.1 x more in (there p ps x.0 k.0, k.1)
]

-- a package's listing
pub zip_has : (R : Package → List Entry → Type 0) (ps : List Package) (ls : List (List Entry)) → AllZip R ps ls → (p : Package) → Contains ps p → (es : List Entry) × Contains (zip ps ls) (p, es)
zip_has R [] ls h p c = absurd (none_in p c)
zip_has R (q ∷ ps) [] h p c = absurd h
zip_has R (q ∷ ps) (l ∷ ls) h p c = elim (in_cons q ps p c) [
  | inl e ↦ (l, subst (λ r. Contains (zip (q ∷ ps) (l ∷ ls)) (r, l)) e (here (q, l) (zip ps ls)))
  | inr more ↦ let k = zip_has R ps ls h.1 p more in (k.0, there (q, l) (zip ps ls) (p, k.0) k.1)
]

pub all_zipped : (R Q : Package → List Entry → Type 0) (ps : List Package) (ls : List (List Entry)) → AllZip R ps ls → ((x : Listed) → Contains (zip ps ls) x → Q x.0 x.1) → AllZip Q ps ls
all_zipped R Q [] [] h each = tt
all_zipped R Q [] (l ∷ ls) h each = absurd h
all_zipped R Q (p ∷ ps) [] h each = absurd h
all_zipped R Q (p ∷ ps) (l ∷ ls) h each = (each (p, l) (here (p, l) (zip ps ls)), all_zipped R Q ps ls h.1 (λ x c. each x (there (p, l) (zip ps ls) x c)))

zipped_ids : (R : Package → List Entry → Type 0) (ps : List Package) (ls : List (List Entry)) → AllZip R ps ls → map (λ (x : Listed). x.0.id) (zip ps ls) ≡ map (λ (p : Package). p.id) ps
zipped_ids R [] ls h = λ i. []
zipped_ids R (p ∷ ps) [] h = absurd h
zipped_ids R (p ∷ ps) (l ∷ ls) h = ap (λ is. p.id ∷ is) (zipped_ids R ps ls h.1)

-- no two of them have one id
pub one_of_id : (packages : List Package) (listings : List (List Entry)) → AreOfPackages packages listings → (x y : Listed) → Contains (zip packages listings) x → Contains (zip packages listings) y → x.0.id ≡ y.0.id → x ≡ y
one_of_id packages listings h x y cx cy same =
    once (λ (z : Listed). z.0.id) (zip packages listings) (subst (IsStrictlySortedBy (slice_cmp nat_cmp)) (sym (zipped_ids HasListing packages listings h.each)) h.rising) x y cx cy same
