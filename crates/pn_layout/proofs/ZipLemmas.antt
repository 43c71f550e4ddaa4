-- A loop over two slices side by side.
use Rattle.std.proofs.Common.{◌≡◌, ◌⊎◌, List, [], ◌∷◌, ◌++◌, map, sym, ap, ◌∙◌, append-nil, append_assoc, inl, inr}
use Rattle.std.specs.Prelude.{zip}

zip_none : {A B : Type 0} (xs : List A) → zip {X = B} xs [] ≡ []
zip_none [] = λ i. []
zip_none (x ∷ xs) = λ i. []

-- where one of them ends, all is done
pub zip_done : {A B C : Type 0} (f : A × B → C) (xs : List A) (ys : List B) (all whole : List C) → (xs ≡ []) ⊎ (ys ≡ []) → all ++ map f (zip xs ys) ≡ whole → all ≡ whole
zip_done f xs ys all whole h e = sym (append-nil all) ∙ ap (λ zs. all ++ map f zs) (sym (none h)) ∙ e where
  none : (xs ≡ []) ⊎ (ys ≡ []) → zip xs ys ≡ []
  none (inl a) = ap (λ l. zip l ys) a
  none (inr b) = ap (zip xs) b ∙ zip_none xs

-- and one pair further
pub zip_more : {A B C : Type 0} (f : A × B → C) (xs xs2 : List A) (ys ys2 : List B) (x : A) (y : B) (all whole : List C) → xs ≡ x ∷ xs2 → ys ≡ y ∷ ys2 → all ++ map f (zip xs ys) ≡ whole → (all ++ f (x, y) ∷ []) ++ map f (zip xs2 ys2) ≡ whole
zip_more f xs xs2 ys ys2 x y all whole a b e = append_assoc all (f (x, y) ∷ []) (map f (zip xs2 ys2)) ∙ ap (λ zs. all ++ map f zs) (sym (λ i. zip (a i) (b i))) ∙ e
