-- Lemmas on tests. Those that the library has are passed on.
use Rattle.std.proofs.Common.{◌≡◌, Bool, true, false, refl}
use Rattle.std.specs.Prelude.{cond, ◌&&◌, ◌||◌}
pub use Rattle.std.proofs.lemmas.Bool.{not-true as not_true, not-false as not_false, and_from as and_both, or_parts as neither, or_from as both_false, or_right, or_cases}

pub and_left : (a b : Bool) → (a && b) ≡ true → a ≡ true
and_left true b h = refl
and_left false b h = h

pub and_right : (a b : Bool) → (a && b) ≡ true → b ≡ true
and_right true b h = h
and_right false b h = cc

pub and_false : (a : Bool) → (a && false) ≡ false
and_false true = refl
and_false false = refl

pub left_false : (a b : Bool) → (a || b) ≡ false → a ≡ false
left_false a b h = (neither a b h).0

pub right_false : (a b : Bool) → (a || b) ≡ false → b ≡ false
right_false a b h = (neither a b h).1

pub or_false : (a : Bool) → (a || false) ≡ a
or_false true = refl
or_false false = refl

pub or_true : (a : Bool) → (a || true) ≡ true
or_true a = or_right a true refl

pub or_cond : (a b : Bool) → cond a true b ≡ (a || b)
or_cond true b = refl
or_cond false b = refl

pub true_false : (b : Bool) → b ≡ true → b ≡ false → ⊥
true_false b x y = cc
