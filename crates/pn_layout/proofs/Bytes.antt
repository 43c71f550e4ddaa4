-- Texts without some byte.
use Rattle.std.proofs.Common.{◌≡◌, ◌≢◌, ℕ, List, [], ◌∷◌, ◌++◌, refl, sym, ap, ◌∙◌, subst, true, false, Bool, inl, inr, arith}
use Rattle.std.specs.List.{list_all}
use Rattle.pn_text.specs.Name.{is_first, is_name_byte, is_name_part, IsName}
use Rattle.pn_text.proofs.Paths.{and_left, and_right}
use Rattle.pn_text.proofs.NameTexts.{name_cases}

abbrev pub Lacks : ℕ → List ℕ → Type 0
Lacks c [] = Unit {0}
Lacks c (b ∷ bs) = (b ≢ c) × Lacks c bs

pub lacks-append : (c : ℕ) (xs ys : List ℕ) → Lacks c xs → Lacks c ys → Lacks c (xs ++ ys)
lacks-append c [] ys h k = k
lacks-append c (x ∷ xs) ys h k = (h.0, lacks-append c xs ys h.1 k)

pub lacks_not : (c : ℕ) (xs ys : List ℕ) → Lacks c (xs ++ c ∷ ys) → ⊥
lacks_not c [] ys h = h.0 refl
lacks_not c (x ∷ xs) ys h = lacks_not c xs ys h.1

-- a byte that passes a test is none that fails it
pub other : (test : ℕ → Bool) (b c : ℕ) → test b ≡ true → test c ≡ false → b ≢ c
other test b c h k e = let no : true ≡ false = sym h ∙ ap test e ∙ k in cc

pub lacks_by : (test : ℕ → Bool) (c : ℕ) → test c ≡ false → (xs : List ℕ) → list_all test xs ≡ true → Lacks c xs
lacks_by test c k [] h = tt
lacks_by test c k (x ∷ xs) h = (other test x c (and_left (test x) (list_all test xs) h) k, lacks_by test c k xs (and_right (test x) (list_all test xs) h))

part_lacks : (x : List ℕ) → is_name_part x ≡ true → Lacks 43 x
part_lacks [] h = tt
part_lacks (b ∷ bs) h = (other is_first b 43 (and_left (is_first b) (list_all is_name_byte bs) h) refl, lacks_by is_name_byte 43 refl bs (and_right (is_first b) (list_all is_name_byte bs) h))

scoped_lacks : (s x : List ℕ) → is_name_part s ≡ true → is_name_part x ≡ true → Lacks 43 (64 ∷ (s ++ 47 ∷ x))
scoped_lacks s x h k = (λ e. omega (arith, e), lacks-append 43 s (47 ∷ x) (part_lacks s h) (λ e. omega (arith, e), part_lacks x k))

-- no name has a `+`
pub name_lacks : (n : List ℕ) → IsName n → Lacks 43 n
name_lacks n h = elim (name_cases n h) [ inl a ↦ part_lacks n a.0 | inr b ↦ subst (Lacks 43) (sym b.4) (scoped_lacks b.0 b.1 b.2 b.3) ]
