-- Ordinals of equal texts.
use Rattle.std.proofs.Common.{◌≡◌, ◌<◌, ◌≤◌, ◌^◌, ℕ, zero, suc, ◌+◌, List, [], ◌∷◌, ◌++◌, length, get_or, take, drop, Bool, true, false, cond, refl, sym, ap, ◌∙◌, subst, inl, inr, arith, append_assoc}
use Rattle.std.specs.Prelude.{◌||◌, ◌==◌, bytes_eq, unwrap_or, Option, Some, String}
use Rattle.std.specs.BTreeMap.{BTreeMap, get_by_text}
use Rattle.std.specs.Map.{update}
use Rattle.std.proofs.lemmas.List.{drop_more, take_more}
use Rattle.pn_deppath.specs.Numbers.{last_of}
use Rattle.pn_deppath.proofs.CountLemmas.{count-append}
use Rattle.std.specs.Fmt.{decimal}
use Rattle.std.specs.List.{All, IsDistinct}
use Rattle.std.proofs.lemmas.Bool.{cases_Bool, false_from_ne_true}
use Rattle.std.proofs.lemmas.Fmt.{decimal_injective}
use Rattle.std.proofs.lemmas.List.Elements.{All-get_or}
use Rattle.std.proofs.lemmas.Map.Keys.{IsDistinct-from_apart}
use Rattle.pn_deppath.specs.Cuts.{has_byte}
use Rattle.pn_deppath.specs.Folders.{count_of}
use Rattle.pn_deppath.specs.Ordinals.{OrdinalLaw, numbered_behind, times, with_ordinals, with_place}
use Rattle.pn_deppath.proofs.NumberingLemmas.{count_all, count_le, decimal_plain, itself, last_cut, same, tilde}

tilde_is : (t : List ℕ) → has_byte 126 t ≡ tilde t
tilde_is [] = refl
tilde_is (b ∷ t) = ap (λ (o : Bool). (b == 126) || o) (tilde_is t)

drop_last : (x y : List ℕ) (c : ℕ) → x ++ c ∷ [] ≡ y ++ c ∷ [] → x ≡ y
drop_last [] [] c h = refl
drop_last [] (b ∷ []) c h = absurd (let e : c ∷ [] ≡ b ∷ c ∷ [] = h in cc e)
drop_last [] (b ∷ d ∷ y) c h = absurd (let e : c ∷ [] ≡ b ∷ d ∷ (y ++ c ∷ []) = h in cc e)
drop_last (a ∷ []) [] c h = absurd (let e : a ∷ c ∷ [] ≡ c ∷ [] = h in cc e)
drop_last (a ∷ d ∷ x) [] c h = absurd (let e : a ∷ d ∷ (x ++ c ∷ []) ≡ c ∷ [] = h in cc e)
drop_last (a ∷ x) (b ∷ y) c h =
    let e : a ∷ (x ++ c ∷ []) ≡ b ∷ (y ++ c ∷ []) = h in
    let first : a ≡ b = cc e in
    let rest : x ++ c ∷ [] ≡ y ++ c ∷ [] = cc e in
    let more = drop_last x y c rest in
    cc (first, more)

tilde_end : (d : List ℕ) → tilde d ≡ false → tilde (d ++ 41 ∷ []) ≡ false
tilde_end [] h = refl
tilde_end (b ∷ d) h = elim (cases_Bool (b == 126)) [
  | inl e ↦ absurd (let t : ((b == 126) || tilde d) ≡ true = ap (λ (o : Bool). o || tilde d) e in cc (t, h))
  | inr e ↦ ap (λ (o : Bool). o || tilde (d ++ 41 ∷ [])) e ∙ tilde_end d (sym (ap (λ (o : Bool). o || tilde d) e) ∙ h)
]

tilde_in : (x y : List ℕ) → tilde (x ++ 40 ∷ 126 ∷ y) ≡ true
tilde_in [] y = refl
tilde_in (b ∷ x) y = elim (b == 126) as (λ o. (o || tilde (x ++ 40 ∷ 126 ∷ y)) ≡ true) [ true ↦ refl | false ↦ tilde_in x y ]

-- a text without `~` and a number are told from the text with its ordinal
places_apart : (x y : List ℕ) (a b : ℕ) → tilde x ≡ false → tilde y ≡ false → a < 2 ^ 32 → b < 2 ^ 32 → with_place x a ≡ with_place y b → (x ≡ y) × (a ≡ b)
places_apart x y zero zero p q h k e = (e, refl)
places_apart x y zero (suc b) p q h k e = absurd (let t = ap tilde e in let u = tilde_in y (decimal (suc b + 1) ++ 41 ∷ []) in cc (t, u, p))
places_apart x y (suc a) zero p q h k e = absurd (let t = ap tilde e in let u = tilde_in x (decimal (suc a + 1) ++ 41 ∷ []) in cc (t, u, q))
places_apart x y (suc a) (suc b) p q h k e =
    let m = decimal (suc a + 1) ++ 41 ∷ [] in
    let n = decimal (suc b + 1) ++ 41 ∷ [] in
    let low : suc a + 1 < 2 ^ 64 = omega (arith, h) in
    let low' : suc b + 1 < 2 ^ 64 = omega (arith, k) in
    let cut = last_cut (x ++ 40 ∷ []) (y ++ 40 ∷ []) m n (tilde_end (decimal (suc a + 1)) (decimal_plain (suc a + 1) low)) (tilde_end (decimal (suc b + 1)) (decimal_plain (suc b + 1) low'))
    (append_assoc x (40 ∷ []) (126 ∷ m) ∙ e ∙ sym (append_assoc y (40 ∷ []) (126 ∷ n))) in
    let number : suc a + 1 ≡ suc b + 1 = decimal_injective (suc a + 1) (suc b + 1) low low' (drop_last (decimal (suc a + 1)) (decimal (suc b + 1)) 41 cut.1) in
    (drop_last x y 40 cut.0, omega (arith, number))

-- ---- how many are equal

count_take : (f : List ℕ → Bool) (xs : List (List ℕ)) (i j : ℕ) (d : List ℕ) → i < j → j ≤ length xs → f (get_or xs i d) ≡ true → count_of f (take i xs) < count_of f (take j xs)
count_take f [] i j d h w e = absurd (omega (arith, h, w))
count_take f (x ∷ xs) i zero d h w e = absurd (omega (arith, h))
count_take f (x ∷ xs) zero (suc j) d h w e =
    subst (λ (b : Bool). 0 < cond b (suc (count_of f (take j xs))) (count_of f (take j xs))) (sym e) (some (count_of f (take j xs))) where
      some : (n : ℕ) → 0 < suc n
      some n = omega arith
count_take f (x ∷ xs) (suc i) (suc j) d h w e =
    let r = count_take f xs i j d (omega (arith, h)) (omega (arith, w)) e in
    elim (f x) as (λ o. cond o (suc (count_of f (take i xs))) (count_of f (take i xs)) < cond o (suc (count_of f (take j xs))) (count_of f (take j xs))) [
      | true ↦ omega (arith, r)
      | false ↦ r
    ]

pub times_few : (before : List (List ℕ)) (t : List ℕ) → times before t ≤ length before
times_few before t = subst (λ (n : ℕ). times before t ≤ n) (count_all before) (count_le (λ x. bytes_eq x t) (λ x. true) (λ x e. refl) before)

-- ---- the texts with their ordinals

pub length-numbered : (before ts : List (List ℕ)) → length (numbered_behind before ts) ≡ length ts
length-numbered before [] = refl
length-numbered before (t ∷ ts) = ap suc (length-numbered (before ++ t ∷ []) ts)

nil : (xs : List (List ℕ)) → xs ≡ xs ++ []
nil [] = refl
nil (x ∷ xs) = ap (λ (l : List (List ℕ)). x ∷ l) (nil xs)

numbered_at : (before ts : List (List ℕ)) (i : ℕ) (d : List ℕ) → i < length ts → get_or (numbered_behind before ts) i d ≡ with_place (get_or ts i d) (times (before ++ take i ts) (get_or ts i d))
numbered_at before [] i d h = absurd (omega (arith, h))
numbered_at before (t ∷ ts) zero d h = ap (λ (l : List (List ℕ)). with_place t (times l t)) (nil before)
numbered_at before (t ∷ ts) (suc i) d h =
    numbered_at (before ++ t ∷ []) ts i d (omega (arith, h)) ∙ ap (λ (l : List (List ℕ)). with_place (get_or ts i d) (times l (get_or ts i d))) (append_assoc before (t ∷ []) (take i ts))

distinct : (texts : List (List ℕ)) → length texts < 2 ^ 32 → All (λ t. has_byte 126 t ≡ false) texts → IsDistinct bytes_eq (with_ordinals texts)
distinct texts short plain = IsDistinct-from_apart bytes_eq (with_ordinals texts) (λ i j d less within.
    let long = length-numbered [] texts in
    let far : j < length texts = omega (arith, within, long) in
    false_from_ne_true _ (λ e. absurd (apart i j d less far (same _ _ e)))) where
      few : (i : ℕ) (d : List ℕ) → i < length texts → times (take i texts) d < 2 ^ 32
      few i d h = let t = times_few (take i texts) d in let l = length_take i texts in omega (arith, t, l, h, short) where
        length_take : (n : ℕ) (xs : List (List ℕ)) → length (take n xs) ≤ n
        length_take zero xs = omega arith
        length_take (suc n) [] = omega arith
        length_take (suc n) (x ∷ xs) = let r = length_take n xs in omega (arith, r)

      apart : (i j : ℕ) (d : List ℕ) → i < j → j < length texts → get_or (with_ordinals texts) i d ≡ get_or (with_ordinals texts) j d → ⊥
      apart i j d less far e =
          let x = get_or texts i d in
          let y = get_or texts j d in
          let near : i < length texts = omega (arith, less, far) in
          let p = sym (tilde_is x) ∙ All-get_or (λ (t : List ℕ). has_byte 126 t ≡ false) texts i d near plain in
          let q = sym (tilde_is y) ∙ All-get_or (λ (t : List ℕ). has_byte 126 t ≡ false) texts j d far plain in
          let both = places_apart x y (times (take i texts) x) (times (take j texts) y) p q (few i x near) (few j y far) (sym (numbered_at [] texts i d near) ∙ e ∙ numbered_at [] texts j d far) in
          let up = count_take (λ (t : List ℕ). bytes_eq t y) texts i j d less (omega (arith, far)) (ap (λ (t : List ℕ). bytes_eq t y) both.0 ∙ itself y) in
          let one : times (take i texts) x ≡ times (take i texts) y = ap (times (take i texts)) both.0 in
          let two = both.1 in
          omega (arith, up, one, two)

pub law : OrdinalLaw
law = record { distinct = distinct }

-- ---- as the code counts them

-- one text more is counted
pub times_more : {A : Type 0} (m new : BTreeMap (String A) ℕ) (before : List (List ℕ)) (key t : List ℕ) (k : ℕ) → ((q : List ℕ) → last_of m q ≡ times before q) → key ≡ t → k ≡ times before t + 1
    → ((q : List ℕ) → get_by_text new q ≡ update bytes_eq (get_by_text m) key (Some k) q) → (q : List ℕ) → last_of new q ≡ times (before ++ t ∷ []) q
times_more m new before key t k h own is step q =
    let counted = count-append (λ x. bytes_eq x q) before (t ∷ []) in
    let now : last_of new q ≡ unwrap_or (cond (bytes_eq t q) (Some k) (get_by_text m q)) 0 =
    ap (λ (o : Option ℕ). unwrap_or o 0) (step q) ∙ ap (λ (x : List ℕ). unwrap_or (cond (bytes_eq x q) (Some k) (get_by_text m q)) 0) own in
    elim (cases_Bool (bytes_eq t q)) [
      | inl e ↦ now ∙ ap (λ (b : Bool). unwrap_or (cond b (Some k) (get_by_text m q)) 0) e ∙ is ∙ ap (λ (x : List ℕ). times before x + 1) (same t q e)
          ∙ sym (counted ∙ ap (λ (b : Bool). times before q + cond b 1 0) e)
      | inr e ↦ now ∙ ap (λ (b : Bool). unwrap_or (cond b (Some k) (get_by_text m q)) 0) e ∙ h q ∙ none_more (times before q)
          ∙ sym (counted ∙ ap (λ (b : Bool). times before q + cond b 1 0) e)
    ] where
      none_more : (n : ℕ) → n ≡ n + 0
      none_more n = omega arith

pub next_times : (texts : List (List ℕ)) (i : ℕ) (q : List ℕ) → i < length texts → times (take (i + 1) texts) q ≡ times (take i texts ++ get_or texts i [] ∷ []) q
next_times texts i q lt = ap (λ (l : List (List ℕ)). times l q) (take_more texts i [] lt)

-- one path more
pub paths_more : (texts old new whole : List (List ℕ)) (i : ℕ) (path : List ℕ) → i < length texts → new ≡ old ++ path ∷ [] → path ≡ with_place (get_or texts i []) (times (take i texts) (get_or texts i []))
    → old ++ numbered_behind (take i texts) (drop i texts) ≡ whole → new ++ numbered_behind (take (i + 1) texts) (drop (i + 1) texts) ≡ whole
paths_more texts old new whole i path lt is it h =
    let t = get_or texts i [] in
    let rest = numbered_behind (take i texts ++ t ∷ []) (drop (i + 1) texts) in
    ap (λ (l : List (List ℕ)). l ++ numbered_behind (take (i + 1) texts) (drop (i + 1) texts)) is
    ∙ ap (λ (l : List (List ℕ)). (old ++ path ∷ []) ++ numbered_behind l (drop (i + 1) texts)) (take_more texts i [] lt)
    ∙ append_assoc old (path ∷ []) rest ∙ ap (λ (p : List ℕ). old ++ p ∷ rest) it
    ∙ sym (ap (λ (l : List (List ℕ)). old ++ numbered_behind (take i texts) l) (drop_more texts i [] lt)) ∙ h

pub few_before : (texts : List (List ℕ)) (i : ℕ) (t : List ℕ) → i < length texts → length texts < 2 ^ 32 → times (take i texts) t < 2 ^ 32
few_before texts i t lt short = let n = times_few (take i texts) t in let l = length_take i texts in omega (arith, n, l, lt, short) where
  length_take : (n : ℕ) (xs : List (List ℕ)) → length (take n xs) ≤ n
  length_take zero xs = omega arith
  length_take (suc n) [] = omega arith
  length_take (suc n) (x ∷ xs) = let r = length_take n xs in omega (arith, r)
