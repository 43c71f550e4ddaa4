-- The parts of a text.
use Rattle.std.proofs.Common.{◌≡◌, ℕ, Bool, true, false, List, [], ◌∷◌, ◌++◌, refl, sym, ap, subst, ◌∙◌, inl, inr}
use Rattle.std.specs.Prelude.{◌==◌, ◌&&◌, ◌||◌, not, if◌then◌else◌}
use Rattle.std.specs.List.{list_all}
use Rattle.std.proofs.lemmas.Bool.{and_from, and_parts, cases_Bool, eqb-true, not-true}
use Rattle.pn_glob.specs.declared.kind.Kind.TheVariants.{Paths}
use Rattle.pn_glob.specs.Bytes.{is_hidden, onto, parts}
use Rattle.pn_glob.specs.Gaps.{matches}
use Rattle.pn_glob.specs.Matching.{byte_rules, part_rules}
use Rattle.pn_glob.specs.WhatIsLeft.{parts_behind}
use Rattle.pn_glob.proofs.Gaps.{Steady, eq-true, or_false}

abbrev pub is_flat : List ℕ → Type 0
is_flat x = list_all (λ b. not (b == 47)) x ≡ true

-- the first slash, or the end
abbrev pub at_slash : List ℕ → Bool
at_slash [] = true
at_slash (b ∷ t) = b == 47

pub parts-end : (rest : List ℕ) → at_slash rest ≡ true → parts rest ≡ [] ∷ parts_behind rest
parts-end [] h = refl
parts-end (b ∷ t) h = ap (λ z. if z then [] ∷ parts t else onto b (parts t)) h

pub parts-front : (x rest : List ℕ) → is_flat x → at_slash rest ≡ true → parts (x ++ rest) ≡ x ∷ parts_behind rest
parts-front [] rest f h = parts-end rest h
parts-front (b ∷ x) rest f h =
    ap (λ z. if z then [] ∷ parts (x ++ rest) else onto b (parts (x ++ rest))) (not-true (b == 47) (and_parts (not (b == 47)) _ f).0)
    ∙ ap (onto b) (parts-front x rest (and_parts (not (b == 47)) _ f).1 h)

pub flat-more : (x : List ℕ) (b : ℕ) → is_flat x → (b == 47) ≡ false → is_flat (x ++ b ∷ [])
flat-more [] b f h = ap (λ z. not z && true) h
flat-more (a ∷ x) b f h = and_from (not (a == 47)) _ (and_parts (not (a == 47)) _ f).0 (flat-more x b (and_parts (not (a == 47)) _ f).1 h)

hidden-dot : (p a : List ℕ) → matches (byte_rules Paths) (46 ∷ p) a ≡ true → is_hidden a ≡ true
hidden-dot p [] h = cc h
hidden-dot p (b ∷ t) h = eq-true b 46 (sym (eqb-true 46 b (and_parts (46 == b) _ h).0))

hidden-match : (c a : List ℕ) → is_hidden c ≡ true → matches (byte_rules Paths) c a ≡ true → is_hidden a ≡ true
hidden-match [] a d h = cc d
hidden-match (x ∷ p) a d h = hidden-dot p a (subst (λ (y : ℕ). matches (byte_rules Paths) (y ∷ p) a ≡ true) (eqb-true x 46 d) h)

-- a part of a pattern that matches a part which isn't hidden matches only such
pub part-steady : Steady part_rules
part-steady c a b g f s h = elim (cases_Bool (is_hidden c)) [
  | inl dot ↦ cc (hidden-match c a dot (and_parts (is_hidden c || not (is_hidden a)) _ f).1, s)
  | inr other ↦ sym (or_false (is_hidden c) (not (is_hidden b)) other) ∙ (and_parts (is_hidden c || not (is_hidden b)) _ h).0
]
