-- Lemmas on comparisons, and on texts in byte order.
use Rattle.std.proofs.Common.{◌≡◌, ℕ, List, refl, sym, ap, ◌∙◌, true}
use Rattle.std.specs.Cmp.Lexicographic.{slice_cmp}
use Rattle.std.specs.Ordering.{nat_cmp, ordering_reverse, is_lt, is_eq}
use Rattle.std.specs.declared.cmp.Ordering.{Ordering}
use Rattle.std.specs.declared.cmp.Ordering.TheVariants.{Less, Equal, Greater}
use Rattle.std.proofs.lemmas.Cmp.{nat_list_cmp_total}

pub is_less : (o : Ordering) → is_lt o ≡ true → o ≡ Less
is_less Less e = refl
is_less Equal e = cc e
is_less Greater e = cc e

pub is_equal : (o : Ordering) → is_eq o ≡ true → o ≡ Equal
is_equal Less h = cc h
is_equal Equal h = refl
is_equal Greater h = cc h

-- a text is not before itself, and two texts are not before each other
pub not_before_self : (t : List ℕ) → slice_cmp nat_cmp t t ≡ Less → ⊥
not_before_self t h = let clash : Less ≡ Greater = sym h ∙ nat_list_cmp_total.antisymm t t ∙ ap ordering_reverse h in cc

pub not_both_before : (s t : List ℕ) → slice_cmp nat_cmp s t ≡ Less → slice_cmp nat_cmp t s ≡ Less → ⊥
not_both_before s t h k = not_before_self s (nat_list_cmp_total.trans s t s h k)
