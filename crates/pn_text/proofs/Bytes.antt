-- Lemmas on texts as lists of bytes, and on their slashes.
use Rattle.std.proofs.Common.{◌≡◌, ◌≢◌, ℕ, suc, ◌+◌, ◌<◌, List, [], ◌∷◌, ◌++◌, length, get_or, take, drop, refl, sym, ap, ◌∙◌, arith, Bool, true, false}
use Rattle.std.specs.Prelude.{◌==◌, ◌||◌}
use Rattle.std.specs.List.{list_any}
use Rattle.std.proofs.lemmas.Bool.{eqb-true, ne_eqb}
use Rattle.std.proofs.lemmas.List.{drop_more, take-append-drop}
use Rattle.std.proofs.lemmas.List.Folds.{list_any-append}

pub same_first : (x y : ℕ) (xs ys : List ℕ) → x ∷ xs ≡ y ∷ ys → x ≡ y
same_first x y xs ys e = cc

pub same_rest : (x y : ℕ) (xs ys : List ℕ) → x ∷ xs ≡ y ∷ ys → xs ≡ ys
same_rest x y xs ys e = cc

-- a byte that passes a test isn't one that fails it
pub other_byte : (f : ℕ → Bool) (b k : ℕ) → f b ≡ true → f k ≡ false → (b == k) ≡ false
other_byte f b k h n = elim (b == k) as (λ c. (b == k) ≡ c → c ≡ false) [
  | true ↦ λ is. sym h ∙ ap f (eqb-true b k is) ∙ n
  | false ↦ λ is. refl
] refl

-- a text around one of its slashes
pub around_slash : (text : List ℕ) (i : ℕ) → i < length text → get_or text i 0 ≡ 47 → text ≡ take i text ++ 47 ∷ drop (i + 1) text
around_slash text i within slash = sym (take-append-drop i text) ∙ ap (λ r. take i text ++ r) (drop_more text i 0 within ∙ ap (λ b. b ∷ drop (i + 1) text) slash)

pub at_seam : (front rest : List ℕ) → get_or (front ++ 47 ∷ rest) (length front) 0 ≡ 47
at_seam [] rest = refl
at_seam (x ∷ xs) rest = at_seam xs rest

pub before_seam : (front rest : List ℕ) → take (length front) (front ++ 47 ∷ rest) ≡ front
before_seam [] rest = refl
before_seam (x ∷ xs) rest = ap (λ t. x ∷ t) (before_seam xs rest)

-- texts without a slash
pub no_slash : (xs : List ℕ) → ((i : ℕ) → i < length xs → get_or xs i 0 ≢ 47) → list_any (λ b. b == 47) xs ≡ false
no_slash [] h = refl
no_slash (x ∷ xs) h =
    ap (λ a. a || list_any (λ b. b == 47) xs) (ne_eqb x 47 (h 0 (omega arith)))
    ∙ no_slash xs (λ i l. h (suc i) (omega (arith, l)))

pub both_flat : (xs ys : List ℕ) → list_any (λ b. b == 47) xs ≡ false → list_any (λ b. b == 47) ys ≡ false → list_any (λ b. b == 47) (xs ++ ys) ≡ false
both_flat xs ys a b = list_any-append (λ b. b == 47) xs ys ∙ cc
