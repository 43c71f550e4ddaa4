-- Paths within a folder.
use Rattle.std.proofs.Common.{◌≡◌, ◌≢◌, ℕ, List, [], ◌∷◌, ◌++◌, refl, sym, ap, ◌∙◌}
use Rattle.std.specs.Prelude.{Result, Ok, Err, OnOk}
use Rattle.pn_text.specs.Path.{Path}
use Rattle.pn_registry.specs.Below.{IsWithin, AllWithin}
use Rattle.pn_registry.proofs.Children.{not_below}

pub within_itself : (at : Path) → IsWithin at at
within_itself at = record { tail = []; is = refl }

pub within_child : (at p q : Path) (x : List ℕ) → IsWithin at p → q ≡ x ∷ p → IsWithin at q
within_child at p q x w e = record { tail = x ∷ w.tail; is = e ∙ ap (λ z. x ∷ z) w.is }

pub child_differs : (at p q : Path) (x : List ℕ) → IsWithin at p → q ≡ x ∷ p → q ≢ at
child_differs at p q x w e same = not_below at x w.tail (sym same ∙ e ∙ ap (λ z. x ∷ z) w.is)

pub within_push : (at : Path) (ps : List Path) (p : Path) → AllWithin at ps → IsWithin at p → AllWithin at (ps ++ p ∷ [])
within_push at [] p h w = (w, tt)
within_push at (q ∷ ps) p h w = (h.0, within_push at ps p h.1 w)

pub within_front : (at : Path) (ps qs : List Path) → AllWithin at (ps ++ qs) → AllWithin at ps
within_front at [] qs h = tt
within_front at (p ∷ ps) qs h = (h.0, within_front at ps qs h.1)

pub within_last : (at : Path) (ps : List Path) (p : Path) → AllWithin at (ps ++ p ∷ []) → IsWithin at p
within_last at [] p h = h.0
within_last at (q ∷ ps) p h = within_last at ps p h.1

pub on_ok : {T E : Type 0} (r : Result T E) (A B : Type 0) → OnOk r A → (A → B) → OnOk r B
on_ok (Ok v) A B h f = f h
on_ok (Err e) A B h f = tt
