-- Tests of bytes.
use Rattle.std.proofs.Common.{◌≡◌, ℕ, Bool, true, false, List, [], ◌∷◌, refl, sym, ap, ◌∙◌, inl, inr, arith}
use Rattle.std.specs.Prelude.{◌==◌, ◌&&◌, ◌||◌, not}
use Rattle.std.specs.List.{list_all}
use Rattle.std.proofs.lemmas.Bool.{and_parts, cases_Bool, eqb-true, or_from, or_parts}
use Rattle.std.proofs.lemmas.Bool.Decides.{nat_tests}
use Rattle.pn_yaml_print.specs.PrintedScalars.{is_one_of}

pub eq-sym : (a b : ℕ) → (a == b) ≡ false → (b == a) ≡ false
eq-sym a b h = grind (arith, nat_tests)

-- no byte of a set is equal to one beside it
pub apart : (bytes : List ℕ) (b c : ℕ) → is_one_of bytes b ≡ false → is_one_of bytes c ≡ true → (b == c) ≡ false
apart [] b c h i = cc
apart (a ∷ more) b c h i = elim (cases_Bool (a == c)) [
  | inl e ↦ eq-sym c b (ap (λ z. z == b) (sym (eqb-true a c e)) ∙ (or_parts (a == b) (is_one_of more b) h).0)
  | inr e ↦ apart more b c (or_parts (a == b) (is_one_of more b) h).1 (sym (ap (λ z. z || is_one_of more c) e) ∙ i)
]

-- nor one of a smaller set
pub fewer : (some all : List ℕ) (b : ℕ) → list_all (is_one_of all) some ≡ true → is_one_of all b ≡ false → is_one_of some b ≡ false
fewer [] all b s h = refl
fewer (a ∷ more) all b s h =
    or_from (a == b) (is_one_of more b) (eq-sym b a (apart all b a h (and_parts (is_one_of all a) (list_all (is_one_of all) more) s).0))
    (fewer more all b (and_parts (is_one_of all a) (list_all (is_one_of all) more) s).1 h)
