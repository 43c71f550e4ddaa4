-- Ways up and down.
use Rattle.std.proofs.Common.{◌≡◌, ℕ, suc, zero, ◌+◌, ◌≤◌, List, [], ◌∷◌, ◌++◌, length, refl, sym, ap, ◌∙◌, subst, append_assoc, arith, length-append}
use Rattle.std.specs.Prelude.{IsTrue}
use Rattle.std.specs.Cmp.Derive.{both_true}
use Rattle.pn_text.specs.declared.fault.PathFault.{PathFault}
use Rattle.pn_text.specs.declared.fault.PathFault.TheVariants as path
use Rattle.pn_text.specs.Faults.{JoinFault}
use Rattle.pn_text.specs.Path.{Path, is_flat, is_part, is_path, path_text, tail_of, text_below}
use Rattle.pn_text.specs.Relative.{above}
use Rattle.pn_text.proofs.Bools.{and_left, and_right}
use Rattle.pn_text.proofs.Cuts.{parts_cut}
use Rattle.pn_text.proofs.Joins.{is_path-append, text_below-append}
use Rattle.pn_text.proofs.Paths.{not_true, parts_from-flat}
use Rattle.pn_config.specs.declared.folder.Way.{Way}
use Rattle.pn_config.specs.Folders.{led_by}
use Rattle.pn_config.specs.Ways.{PutsName, PutsPart, led_along}

pub one_part : (front : List ℕ) → IsTrue (is_flat front) → tail_of front ≡ front ∷ []
one_part front flat = parts_from-flat front [] [] (not_true _ flat)

-- one part more
pub way_more : (front rest part : List ℕ) (old new : Way) (from whole : Path) → front ≡ rest ++ 47 ∷ part → IsTrue (is_flat part) → PutsPart part old new
    → led_along old (led_by from (tail_of front)) ≡ whole → led_along new (led_by from (tail_of rest)) ≡ whole
way_more front rest part old new from whole cut flat puts h =
    puts.leads (led_by from (tail_of rest)) ∙ ap (λ p. led_along old (led_by from p)) (sym (parts_cut front rest part cut flat)) ∙ h

pub way_last : (front : List ℕ) (old new : Way) (from whole : Path) → IsTrue (is_flat front) → PutsPart front old new → led_along old (led_by from (tail_of front)) ≡ whole → led_along new from ≡ whole
way_last front old new from whole flat puts h = puts.leads from ∙ ap (λ p. led_along old (led_by from p)) (sym (one_part front flat)) ∙ h

pub shorter : (front rest part : List ℕ) → front ≡ rest ++ 47 ∷ part → length front ≡ length rest + length part + 1
shorter front rest part cut = ap length cut ∙ length-append rest (47 ∷ part) ∙ omega arith

-- a name where no step up is left
pub named : (x : List ℕ) (old new : Way) → old.ups ≤ 0 → new.ups ≡ old.ups → new.parts.items ≡ old.parts.items ++ x ∷ [] → PutsName x old new
named x old new none ups is = record {
  good = λ part parts. subst (λ p. IsTrue (is_path p)) (sym is) (is_path-append old.parts.items (x ∷ []) parts (both_true part refl));
  few = omega (arith, ups);
  leads = λ from.
      let zero_is : old.ups ≡ 0 = omega arith in
      ap (λ p. p ++ above new.ups from) is
      ∙ append_assoc old.parts.items (x ∷ []) (above new.ups from)
      ∙ ap (λ n. old.parts.items ++ x ∷ above n from) (ups ∙ zero_is)
      ∙ ap (λ n. old.parts.items ++ above n (x ∷ from)) (sym zero_is);
}

pub above_root : (n : ℕ) → above n [] ≡ []
above_root zero = refl
above_root (suc n) = above_root n

pub climbed : (n k : ℕ) (x : List ℕ) (at p : Path) → n ≡ suc k → at ≡ x ∷ p → above k p ≡ above n at
climbed n k x at p e is = sym (ap (λ m. above m at) e ∙ ap (above (suc k)) is)

-- the last part of some
pub last_good : (ps qs : Path) (x : List ℕ) → ps ≡ qs ++ x ∷ [] → IsTrue (is_path ps) → IsTrue (is_path qs) × IsTrue (is_part x)
last_good ps qs x is good = at qs (subst (λ p. IsTrue (is_path p)) is good) where
  at : (qs : Path) → IsTrue (is_path (qs ++ x ∷ [])) → IsTrue (is_path qs) × IsTrue (is_part x)
  at [] h = (refl, and_left (is_part x) _ h)
  at (y ∷ qs) h = let r = at qs (and_right (is_part y) (is_path (qs ++ x ∷ [])) h) in (both_true (and_left (is_part y) (is_path (qs ++ x ∷ [])) h) r.0, r.1)

-- a path is no longer than one below it
text_length : (p : Path) → length (path_text p) ≤ length (text_below p) + 1
text_length [] = omega arith
text_length (x ∷ p) = omega arith

pub longer : (qs p : Path) → length (path_text p) ≤ length (path_text (qs ++ p))
longer [] p = omega arith
longer (x ∷ qs) p = omega (arith, text_length p, length-append (text_below (qs ++ p)) (47 ∷ x), ap length (text_below-append qs p), length-append (text_below p) (text_below qs))

pub long_below : (qs p whole : Path) (e : PathFault) → qs ++ p ≡ whole → JoinFault (path_text p) e → JoinFault (path_text whole) e
long_below qs p whole path.NotAbsolute is h = h
long_below qs p whole (path.BadPart at) is h = h
long_below qs p whole path.Long is h = let l : length (path_text p) ≤ length (path_text whole) = subst (λ w. length (path_text p) ≤ length (path_text w)) is (longer qs p) in omega (arith, h, l)
long_below qs p whole path.Memory is h = tt
