-- The fronts of a text before its slashes.
use Rattle.std.proofs.Common.{◌≡◌, ℕ, ◌+◌, ◌<◌, ◌≤◌, List, ◌∷◌, ◌++◌, length, take, drop, get_or, refl, sym, ap, ◌∙◌, subst, arith, Bool, true, false, inl, inr, length-append}
use Rattle.std.specs.Prelude.{◌⊎◌, ◌↔◌, IsTrue, nat_lt}
use Rattle.std.proofs.lemmas.Bool.Decides.{nat_tests}
use Rattle.pn_digest.specs.Folders.{IsFolderText}
use Rattle.pn_text.proofs.Numbers.{below}
use Rattle.pn_text.proofs.Bytes.{around_slash, at_seam, before_seam}

-- the text is the front before a slash that stands before i
abbrev pub IsFrontBefore : List ℕ → ℕ → List ℕ → Type 0
IsFrontBefore path i t = (k : ℕ) × (k < i) × (get_or path k 0 ≡ 47) × (take k path ≡ t)

-- one set has the texts of another one and those fronts
abbrev pub AddsFronts : (List ℕ → Bool) → (List ℕ → Bool) → List ℕ → ℕ → Type 0
AddsFronts old new path i = (t : List ℕ) → IsTrue (new t) ↔ (IsTrue (old t) ⊎ IsFrontBefore path i t)

later : (path : List ℕ) (i : ℕ) (t : List ℕ) → IsFrontBefore path i t → IsFrontBefore path (i + 1) t
later path i t f = (f.0, omega (arith, f.1), f.2, f.3)

last : (k i : ℕ) → nat_lt k i ≡ false → k < i + 1 → k ≡ i
last k i e lt = let le : i ≤ k = grind (arith, nat_tests, e) in omega (arith, le, lt)

-- a front before i + 1 is one before i or the one at i
parted : (path : List ℕ) (i : ℕ) (t : List ℕ) → IsFrontBefore path (i + 1) t → IsFrontBefore path i t ⊎ ((get_or path i 0 ≡ 47) × (take i path ≡ t))
parted path i t f = elim (nat_lt f.0 i) as (λ b. nat_lt f.0 i ≡ b → IsFrontBefore path i t ⊎ ((get_or path i 0 ≡ 47) × (take i path ≡ t))) [
  | true ↦ λ e. inl (f.0, below f.0 i e, f.2, f.3)
  | false ↦ λ e. let same : f.0 ≡ i = last f.0 i e f.1 in inr (subst (λ k. get_or path k 0 ≡ 47) same f.2, subst (λ k. take k path ≡ t) same f.3)
] refl

front_at : (path t rest : List ℕ) → path ≡ t ++ 47 ∷ rest → IsFrontBefore path (length path) t
front_at path t rest e = subst (λ p. IsFrontBefore p (length p) t) (sym e) (length t, omega (arith, length-append t (47 ∷ rest)), at_seam t rest, before_seam t rest)

-- all the fronts are all the folders
pub adds_all : (old new : List ℕ → Bool) (path : List ℕ) → AddsFronts old new path (length path) → (t : List ℕ) → IsTrue (new t) ↔ (IsTrue (old t) ⊎ IsFolderText path t)
adds_all old new path adds t = (
  λ h. elim ((adds t).0 h) [
    | inl a ↦ inl a
    | inr f ↦ inr (drop (f.0 + 1) path, around_slash path f.0 f.1 f.2 ∙ ap (λ z. z ++ 47 ∷ drop (f.0 + 1) path) f.3)
  ],
  λ h. elim h [ inl a ↦ (adds t).1 (inl a) | inr g ↦ (adds t).1 (inr (front_at path t g.0 g.1)) ],
)
