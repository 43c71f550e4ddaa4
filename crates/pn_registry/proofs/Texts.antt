-- The text of a path below a folder.
use Rattle.std.proofs.Common.{◌≡◌, ◌≢◌, ℕ, List, [], ◌∷◌, ◌++◌, length, drop, refl, sym, ap, ◌∙◌, subst}
use Rattle.std.specs.Prelude.{IsTrue}
use Rattle.pn_text.specs.Path.{Path, is_path, path_text, text_below, SpellsAbs, SpellsParts}
use Rattle.pn_text.proofs.Joins.{text_below-append, below_begins}
use Rattle.pn_text.proofs.Paths.{below_one}
use Rattle.pn_registry.specs.Below.{IsWithin}
use Rattle.pn_registry.proofs.Orders.{path_front}

-- a path other than `/` is spelled by its parts behind slashes
spelled_below : (p : Path) → p ≢ [] → path_text p ≡ text_below p
spelled_below [] some = absurd (some refl)
spelled_below (x ∷ p) some = refl

drop_front : (xs ys : List ℕ) (n : ℕ) → n ≡ length xs → drop n (xs ++ ys) ≡ ys
drop_front xs ys n e = rw e (drop_all xs ys)
  where
    drop_all : (xs ys : List ℕ) → drop (length xs) (xs ++ ys) ≡ ys
    drop_all [] ys = refl
    drop_all (x ∷ xs) ys = drop_all xs ys

not_at_self : (at p : Path) (w : IsWithin at p) → p ≢ at → w.tail ≢ []
not_at_self at p w differs none = differs (w.is ∙ ap (λ z. z ++ at) none)

-- behind the folder's text stands the tail's
behind_is : (at p : Path) (a b : List ℕ) → at ≢ [] → (w : IsWithin at p) → p ≢ at → SpellsAbs a at → SpellsAbs b p → drop (length a) b ≡ text_below w.tail
behind_is at p a b deep w differs sa sb =
    let below : b ≡ text_below at ++ text_below w.tail =
    sb.spelled ∙ spelled_below p (λ none. ends_in w.tail at deep (sym w.is ∙ none)) ∙ ap text_below w.is ∙ text_below-append w.tail at in
    let same : a ≡ text_below at = sa.spelled ∙ spelled_below at deep in
    ap (λ z. drop (length a) z) below ∙ drop_front (text_below at) (text_below w.tail) (length a) (ap length same)
  where
    ends_in : (q at : Path) → at ≢ [] → q ++ at ≡ [] → ⊥
    ends_in [] at deep e = deep e
    ends_in (x ∷ q) at deep e = cc e

pub slash_behind : (at p : Path) (a b : List ℕ) → at ≢ [] → IsWithin at p → p ≢ at → SpellsAbs a at → SpellsAbs b p → (rest : List ℕ) × (drop (length a) b ≡ 47 ∷ rest)
slash_behind at p a b deep w differs sa sb = begins w.tail (not_at_self at p w differs) (behind_is at p a b deep w differs sa sb)
  where
    begins : (q : Path) {text : List ℕ} → q ≢ [] → text ≡ text_below q → (rest : List ℕ) × (text ≡ 47 ∷ rest)
    begins [] some e = absurd (some refl)
    begins (x ∷ q) some e = let r = below_begins x q in (r.0, e ∙ r.1)

-- a relative path that was read there leads to it
pub leads_there : (at p q : Path) (a b rest : List ℕ) → at ≢ [] → IsWithin at p → p ≢ at → SpellsAbs a at → SpellsAbs b p → drop (length a) b ≡ 47 ∷ rest → SpellsParts rest q → p ≡ q ++ at
leads_there at p q a b rest deep w differs sa sb cut read =
    let text : text_below q ≡ text_below w.tail = sym read.spelled ∙ sym cut ∙ behind_is at p a b deep w differs sa sb in
    let good : IsTrue (is_path w.tail) = path_front w.tail at (subst (λ z. IsTrue (is_path z)) w.is sb.good) in
    w.is ∙ ap (λ z. z ++ at) (below_one w.tail q good read.good (sym text))
