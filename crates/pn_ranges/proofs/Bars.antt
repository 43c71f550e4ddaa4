-- Ranges have no `|`, so that a set is split into them in one way.
use Rattle.std.proofs.Common.{◌≡◌, ℕ, Bool, true, List, [], ◌∷◌, ◌++◌, refl, arith}
use Rattle.std.specs.Prelude.{◌==◌, not}
use Rattle.std.specs.List.{list_all}
use Rattle.std.proofs.lemmas.Bool.Decides.{nat_tests}
use Rattle.pn_ranges.specs.declared.comparator.Sign.{Sign}
use Rattle.pn_ranges.specs.Bytes.{is_body, is_space}
use Rattle.pn_ranges.specs.Grammar.{AreComparators, AreSpaces, IsComparator, IsEnd, IsRange, IsSign}
use Rattle.pn_ranges.specs.Grammar as g
use Rattle.pn_ranges.specs.Limits.{Limit}
use Rattle.pn_ranges.specs.Table.{Named}
use Rattle.pn_ranges.proofs.OverProofs.{all-append}
use Rattle.pn_ranges.proofs.Same.{all-weaken, end-body}

abbrev pub no_bar : ℕ → Bool
no_bar b = not (b == 124)

body-bar : (b : ℕ) → is_body b ≡ true → no_bar b ≡ true
body-bar b h = grind (arith, nat_tests)

space-bar : (b : ℕ) → is_space b ≡ true → no_bar b ≡ true
space-bar b h = grind (arith, nat_tests)

end-bars : (t : List ℕ) (n : Named) → IsEnd t n → list_all no_bar t ≡ true
end-bars t n i = all-weaken is_body no_bar body-bar t (end-body t n i)

space-bars : (s : List ℕ) → AreSpaces s → list_all no_bar s ≡ true
space-bars s a = all-weaken is_space no_bar space-bar s a

sign-bars : (o : List ℕ) (s : Sign) → IsSign o s → list_all no_bar o ≡ true
sign-bars _ _ g.absent = refl
sign-bars _ _ g.equal = refl
sign-bars _ _ g.less = refl
sign-bars _ _ g.at_most = refl
sign-bars _ _ g.greater = refl
sign-bars _ _ g.at_least = refl
sign-bars _ _ g.tilde = refl
sign-bars _ _ g.tilde_greater = refl
sign-bars _ _ g.caret = refl

comparator-bars : (t : List ℕ) (s : Sign) (n : Named) → IsComparator t s n → list_all no_bar t ≡ true
comparator-bars _ s n (g.comparator o p t _ _ i a e j) = all-append no_bar o (p ++ t) (sign-bars o s i) (all-append no_bar p t (space-bars p a) (end-bars t n e))

comparators-bars : (t : List ℕ) (k : ℕ) (ls : List Limit) → AreComparators t k ls → list_all no_bar t ≡ true
comparators-bars _ _ _ (g.one t s n c fit) = comparator-bars t s n c
comparators-bars _ _ _ (g.more t p u s n k ls c fit a w) =
    all-append no_bar t (p ++ u) (comparator-bars t s n c) (all-append no_bar p u (space-bars p a.spaces) (comparators-bars u k ls w))

range-bars : (t : List ℕ) (k : ℕ) (ls : List Limit) → IsRange t k ls → list_all no_bar t ≡ true
range-bars _ _ _ g.empty = refl
range-bars _ _ _ (g.comparators t k ls c) = comparators-bars t k ls c
range-bars _ _ _ (g.hyphen a s r b low high i p q j fit) =
    all-append no_bar a (s ++ 45 ∷ (r ++ b)) (end-bars a low i)
    (all-append no_bar s (45 ∷ (r ++ b)) (space-bars s p.spaces) (all-append no_bar r b (space-bars r q.spaces) (end-bars b high j)))

pub spaced-bars : (s t r : List ℕ) (k : ℕ) (ls : List Limit) → AreSpaces s → IsRange t k ls → AreSpaces r → list_all no_bar (s ++ (t ++ r)) ≡ true
spaced-bars s t r k ls a i b = all-append no_bar s (t ++ r) (space-bars s a) (all-append no_bar t r (range-bars t k ls i) (space-bars r b))

pub tail-of : (s t : List ℕ) → 124 ∷ 124 ∷ s ≡ 124 ∷ 124 ∷ t → s ≡ t
tail-of s t h = cc h

pub no-tail : (s : List ℕ) → 124 ∷ 124 ∷ s ≡ [] → ⊥
no-tail s h = cc h
