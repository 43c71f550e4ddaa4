-- The texts of keys.
use Rattle.std.proofs.Common.{◌≡◌, ℕ, List, [], ◌∷◌, ◌++◌, refl, sym, ap, ◌∙◌, append_assoc}
use Rattle.std.specs.Prelude.{reverse}
use Rattle.std.specs.List.{join_with_byte}
use Rattle.std.proofs.lemmas.List.{reverse-append}
use Rattle.pn_lock_read.specs.LockTexts.{keys_text}

-- each of these behind a text
abbrev pub join_more : List ℕ → List (List ℕ) → List ℕ
join_more text [] = text
join_more text (x ∷ xs) = join_more (text ++ 62 ∷ x) xs

join_onto : (t x : List ℕ) (xs : List (List ℕ)) → join_more (t ++ x) xs ≡ t ++ join_with_byte 62 (x ∷ xs)
join_onto t x [] = refl
join_onto t x (y ∷ xs) =
    ap (λ z. join_more z xs) (sym (append_assoc (t ++ x) (62 ∷ []) y)) ∙ join_onto ((t ++ x) ++ 62 ∷ []) y xs
    ∙ append_assoc (t ++ x) (62 ∷ []) (join_with_byte 62 (y ∷ xs)) ∙ append_assoc t x (62 ∷ join_with_byte 62 (y ∷ xs))

last_first : (left : List (List ℕ)) (last : List ℕ) → reverse (left ++ last ∷ []) ≡ last ∷ reverse left
last_first left last = reverse-append left (last ∷ [])

pub joined_first : (keys left : List (List ℕ)) (first text : List ℕ) → keys ≡ left ++ first ∷ [] → text ≡ first → join_more text (reverse left) ≡ keys_text keys
joined_first keys left first text k t =
    ap (λ z. join_more z (reverse left)) t ∙ join_onto [] first (reverse left) ∙ sym (ap (λ (ks : List (List ℕ)). join_with_byte 62 (reverse ks)) k ∙ ap (join_with_byte 62) (last_first left first))

pub joined_next : (old left : List (List ℕ)) (last text new whole : List ℕ) → old ≡ left ++ last ∷ [] → new ≡ (text ++ 62 ∷ []) ++ last → join_more text (reverse old) ≡ whole → join_more new (reverse left) ≡ whole
joined_next old left last text new whole o n h =
    ap (λ z. join_more z (reverse left)) (n ∙ append_assoc text (62 ∷ []) last)
    ∙ sym (ap (λ (ks : List (List ℕ)). join_more text (reverse ks)) o ∙ ap (join_more text) (last_first left last)) ∙ h
