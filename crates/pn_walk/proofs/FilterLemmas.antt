-- What a filter keeps.
use Rattle.std.proofs.Common.{◌≡◌, Bool, true, false, List, [], ◌∷◌, ap, sym, ◌∙◌, subst, refl, inl, inr}
use Rattle.std.specs.Prelude.{cond, filter}
use Rattle.std.specs.List.{Contains}
use Rattle.std.proofs.lemmas.List.Elements.{All-contains, All-contains_itself, All-filter, filter_passes}
use Rattle.pn_text.proofs.Bools.{true_false}
use Rattle.pn_text.proofs.Members.{in_cons, here, there}

pub in_filter : {X : Type 0} (test : X → Bool) (xs : List X) (x : X) → Contains (filter test xs) x → Contains xs x × (test x ≡ true)
in_filter test xs x h = (
  All-contains (Contains xs) (filter test xs) x (All-filter test (Contains xs) xs (All-contains_itself xs)) h,
  All-contains (λ y. test y ≡ true) (filter test xs) x (filter_passes test xs) h,
)

pub to_filter : {X : Type 0} (test : X → Bool) (xs : List X) (x : X) → Contains xs x → test x ≡ true → Contains (filter test xs) x
to_filter test [] x h passes = h
to_filter {X} test (y ∷ ys) x h passes = elim (test y) as (λ b. test y ≡ b → Contains (cond b (y ∷ filter test ys) (filter test ys)) x) [
  | true ↦ λ is. elim (in_cons y ys x h) [
    | inl same ↦ subst (λ (z : X). Contains (z ∷ filter test ys) x) (sym same) (here x (filter test ys))
    | inr more ↦ there y (filter test ys) x (to_filter test ys x more passes)
  ]
  | false ↦ λ is. elim (in_cons y ys x h) [
    | inl same ↦ absurd (true_false (test x) passes (ap test (sym same) ∙ is))
    | inr more ↦ to_filter test ys x more passes
  ]
] refl
