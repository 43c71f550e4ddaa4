-- Each two paths have one relative path.
use Rattle.std.proofs.Common.{◌≡◌, ℕ, ◌≤◌, List, [], ◌∷◌, ◌++◌, length, refl, sym, ap, ◌∙◌, true, false, zero, suc, append-nil, append_assoc, length-append, arith}
use Rattle.std.specs.Str.{bytes_eq}
use Rattle.std.proofs.lemmas.Slice.Eq.{bytes_eq-Decides}
use Rattle.pn_text.specs.Path.{Path}
use Rattle.pn_text.specs.Relative.{dots, IsSteps, NoneShared, IsRelative}
use Rattle.pn_text.proofs.Joins.{below_begins}
use Rattle.pn_text.proofs.Relatives.{none_up, none_down, none_by_parts, some_last}

-- The nearest folder above two paths.
record Parts (from to : Path) : Type 0 where
  base : Path
  up : Path
  down : Path
  from_is : from ≡ up ++ base
  to_is : to ≡ down ++ base
  nearest : NoneShared up down

at_root : (from to : Path) → NoneShared from to → Parts from to
at_root from to none = record { base = []; up = from; down = to; from_is = sym (append-nil from); to_is = sym (append-nil to); nearest = none }

below_one : (from to f g : Path) (x y : List ℕ) → from ≡ f ++ x ∷ [] → to ≡ g ++ y ∷ [] → x ≡ y → Parts f g → Parts from to
below_one from to f g x y is it same parts = record {
  base = parts.base ++ x ∷ [];
  up = parts.up;
  down = parts.down;
  from_is = is ∙ ap (λ p. p ++ x ∷ []) parts.from_is ∙ append_assoc parts.up parts.base (x ∷ []);
  to_is = it ∙ ap (λ z. g ++ z ∷ []) (sym same) ∙ ap (λ p. p ++ x ∷ []) parts.to_is ∙ append_assoc parts.down parts.base (x ∷ []);
  nearest = parts.nearest;
}

no_parts : (p : Path) → length p ≤ 0 → p ≡ []
no_parts [] h = refl
no_parts (x ∷ p) h = absurd (omega arith)

parts_of : (n : ℕ) (from to : Path) → length from ≤ n → Parts from to
parts_of zero from to h = at_root from to (none_up from to (no_parts from h))
parts_of (suc n) [] to h = at_root [] to (none_up [] to refl)
parts_of (suc n) (x ∷ p) [] h = at_root (x ∷ p) [] (none_down (x ∷ p) [] refl)
parts_of (suc n) (x ∷ p) (y ∷ q) h =
    let a = some_last x p in
    let b = some_last y q in
    elim (bytes_eq a.1 b.1) as (λ c. bytes_eq a.1 b.1 ≡ c → Parts (x ∷ p) (y ∷ q)) [
      | true ↦ λ is. below_one (x ∷ p) (y ∷ q) a.0 b.0 a.1 b.1 a.2 b.2 ((bytes_eq-Decides a.1 b.1).0 is)
          (parts_of n a.0 b.0 (omega (arith, h, ap length a.2, length-append a.0 (a.1 ∷ []))))
      | false ↦ λ is. at_root (x ∷ p) (y ∷ q) (none_by_parts (x ∷ p) (y ∷ q) a.0 b.0 a.1 b.1 a.2 b.2 (λ e. let no : false ≡ true = sym is ∙ (bytes_eq-Decides a.1 b.1).1 e in cc))
    ] refl

has_steps : (p : Path) → (text : List ℕ) × IsSteps p text
has_steps [] = (46 ∷ [], refl)
has_steps (x ∷ p) = let b = below_begins x p in (b.0, sym b.1)

pub has_text : (from to : Path) → (text : List ℕ) × IsRelative from to text
has_text from to =
    let parts = parts_of (length from) from to (omega arith) in
    let steps = has_steps (parts.down ++ dots (length parts.up)) in
    (steps.0, record { base = parts.base; up = parts.up; down = parts.down; from_is = parts.from_is; to_is = parts.to_is; nearest = parts.nearest; spelled = steps.1 })
