-- Texts that rise in byte order.
use Rattle.std.proofs.Common.{◌≡◌, ℕ, ◌+◌, ◌<◌, List, [], ◌∷◌, length, map, get_or, sym, ap, ◌∙◌, subst, arith, Bool, true, false, Less, nat_cmp}
use Rattle.std.specs.Prelude.{zero, suc}
use Rattle.std.specs.Bool.{MatchBool}
use Rattle.std.specs.Ordering.{is_lt}
use Rattle.std.specs.declared.cmp.Ordering.{Ordering}
use Rattle.std.specs.Cmp.Lexicographic.{slice_cmp}
use Rattle.std.specs.List.{AllByRecursion, IsAllAdjacentAnswer}
use Rattle.std.specs.List.Sorted.{IsStrictlySortedBy}
use Rattle.std.proofs.lemmas.Cmp.{nat_list_cmp_total}
use Rattle.pn_text.proofs.Orders.{is_less}

-- the byte order of the texts of two things
abbrev pub text_cmp : {T : Type 0} → (T → List ℕ) → T → T → Ordering
text_cmp text a b = slice_cmp nat_cmp (text a) (text b)

-- the texts rise in byte order
abbrev pub AreRising : {T : Type 0} → (T → List ℕ) → List T → Type 0
AreRising text es = IsStrictlySortedBy (slice_cmp nat_cmp) (map text es)

-- each text stands before the next one
abbrev pub IsChain : {T : Type 0} → (T → List ℕ) → List T → Type 0
IsChain text [] = Unit {0}
IsChain text (x ∷ []) = Unit {0}
IsChain text (x ∷ y ∷ es) = (text_cmp text x y ≡ Less) × IsChain text (y ∷ es)

abbrev IsBelowAll : List ℕ → List (List ℕ) → Type 0
IsBelowAll t ts = AllByRecursion (λ y. slice_cmp nat_cmp t y ≡ Less) ts

all_above : (t u : List ℕ) (ts : List (List ℕ)) → slice_cmp nat_cmp t u ≡ Less → IsBelowAll u ts → IsBelowAll t ts
all_above t u [] less h = tt
all_above t u (y ∷ ts) less h = (nat_list_cmp_total.trans t u y less h.0, all_above t u ts less h.1)

pub rising_from_chain : {T : Type 0} (text : T → List ℕ) (es : List T) → IsChain text es → AreRising text es
unfolding IsStrictlySortedBy
rising_from_chain text [] h = tt
rising_from_chain text (x ∷ []) h = (tt, tt)
rising_from_chain text (x ∷ y ∷ es) h =
    let rest = rising_from_chain text (y ∷ es) h.1 in
    ((h.0, all_above (text x) (text y) (map text es) h.0 rest.0), rest)

pub chain_from_rising : {T : Type 0} (text : T → List ℕ) (es : List T) → AreRising text es → IsChain text es
unfolding IsStrictlySortedBy
chain_from_rising text [] h = tt
chain_from_rising text (x ∷ []) h = tt
chain_from_rising text (x ∷ y ∷ es) h = (h.0.0, chain_from_rising text (y ∷ es) h.1)

-- a step on in a list
pub read_on : {T : Type 0} (x : T) (xs : List T) (k : ℕ) (d : T) → get_or (x ∷ xs) (suc k + 1) d ≡ get_or xs (k + 1) d
read_on x xs k d = let e : suc k + 1 ≡ suc (k + 1) = omega arith in ap (λ n. get_or (x ∷ xs) n d) e

chain_from_places : {T : Type 0} (text : T → List ℕ) (es : List T)
    → ((k : ℕ) (d : T) → k + 1 < length es → text_cmp text (get_or es k d) (get_or es (k + 1) d) ≡ Less) → IsChain text es
chain_from_places text [] h = tt
chain_from_places text (x ∷ []) h = tt
chain_from_places text (x ∷ y ∷ es) h = (
  h 0 x (omega arith),
  chain_from_places text (y ∷ es) (λ k d lt. subst (λ z. text_cmp text (get_or (y ∷ es) k d) z ≡ Less) (read_on x (y ∷ es) k d) (h (suc k) d (omega (arith, lt)))),
)

chain_at : {T : Type 0} (text : T → List ℕ) (es : List T) → IsChain text es → (k : ℕ) (d : T) → k + 1 < length es
    → text_cmp text (get_or es k d) (get_or es (k + 1) d) ≡ Less
chain_at text [] h k d lt = absurd (omega (arith, lt))
chain_at text (x ∷ []) h k d lt = absurd (omega (arith, lt))
chain_at text (x ∷ y ∷ es) h zero d lt = h.0
chain_at text (x ∷ y ∷ es) h (suc k) d lt =
    subst (λ z. text_cmp text (get_or (y ∷ es) k d) z ≡ Less) (sym (read_on x (y ∷ es) k d)) (chain_at text (y ∷ es) h.1 k d (omega (arith, lt)))

pub less_is : (o : Ordering) → o ≡ Less → is_lt o ≡ false → ⊥
less_is o e h = let f : true ≡ false = ap is_lt (sym e) ∙ h in cc

-- what the test of each two neighbours says
pub is_rising_answer : {T : Type 0} (text : T → List ℕ) (es : List T) (r : Bool) → IsAllAdjacentAnswer (λ x y b. b ≡ is_lt (text_cmp text x y)) es r
    → MatchBool r (AreRising text es) (AreRising text es → ⊥)
is_rising_answer text es true h =
    rising_from_chain text es (chain_from_places text es (λ k d lt. is_less (text_cmp text (get_or es k d) (get_or es (k + 1) d)) (sym (h k d lt))))
is_rising_answer {T} text es false h = λ rising. out es h (chain_from_rising text es rising)
  where
    out : (es : List T) → (k : ℕ) × (k + 1 < length es) × ((d : T) → false ≡ is_lt (text_cmp text (get_or es k d) (get_or es (k + 1) d))) → IsChain text es → ⊥
    out [] h chain = absurd (omega (arith, h.1))
    out (x ∷ es) h chain = less_is (text_cmp text (get_or (x ∷ es) h.0 x) (get_or (x ∷ es) (h.0 + 1) x)) (chain_at text (x ∷ es) chain h.0 x h.1) (sym (h.2 x))
