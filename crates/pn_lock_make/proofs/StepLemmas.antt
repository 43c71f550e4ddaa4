-- Steps of loops that go through a list.
use Rattle.std.proofs.Common.{◌≡◌, ◌<◌, ◌+◌, ℕ, suc, Bool, true, false, cond, List, [], ◌∷◌, ◌++◌, length, map, take, drop, get_or, refl, sym, ap, ◌∙◌, subst, arith, append_assoc}
use Rattle.std.specs.List.{All, filter}
use Rattle.std.proofs.lemmas.List.{drop_more, take_more}
use Rattle.std.proofs.lemmas.List.Elements.{All-push}

pub all_more : {A : Type 0} (P : A → Type 0) (xs ys : List A) (x : A) → ys ≡ xs ++ x ∷ [] → All P xs → P x → All P ys
all_more {A} P xs ys x is h p = subst (λ (l : List A). All P l) (sym is) (All-push P xs x h p)

-- what is left of a list
left : {X : Type 0} (xs : List X) (i : ℕ) (x : X) → i < length xs → x ≡ get_or xs i x → drop i xs ≡ x ∷ drop (i + 1) xs
left xs i x within is = drop_more xs i x within ∙ ap (λ y. y ∷ drop (i + 1) xs) (sym is)

-- what is left completes what was made: an item adds what it gives
pub step : {X Y : Type 0} (f : List X → List Y) (xs : List X) (i : ℕ) (x : X) (front done new total : List Y) → i < length xs → x ≡ get_or xs i x
    → f (x ∷ drop (i + 1) xs) ≡ front ++ f (drop (i + 1) xs) → new ≡ done ++ front → done ++ f (drop i xs) ≡ total → new ++ f (drop (i + 1) xs) ≡ total
step f xs i x front done new total within is gives made before =
    ap (λ l. l ++ f (drop (i + 1) xs)) made ∙ append_assoc done front (f (drop (i + 1) xs)) ∙ ap (λ l. done ++ l) (sym gives ∙ sym (ap f (left xs i x within is))) ∙ before

-- an item that gives nothing
pub skip : {X Y : Type 0} (f : List X → List Y) (xs : List X) (i : ℕ) (x : X) (done new total : List Y) → i < length xs → x ≡ get_or xs i x
    → f (x ∷ drop (i + 1) xs) ≡ f (drop (i + 1) xs) → new ≡ done → done ++ f (drop i xs) ≡ total → new ++ f (drop (i + 1) xs) ≡ total
skip f xs i x done new total within is gives made before =
    ap (λ l. l ++ f (drop (i + 1) xs)) made ∙ ap (λ l. done ++ l) (sym gives ∙ sym (ap f (left xs i x within is))) ∙ before

-- the same where an item's place counts
pub numbered_step : {X Y : Type 0} (f : ℕ → List X → List Y) (xs : List X) (n : ℕ) (x : X) (y : Y) (done new total : List Y) → n < length xs → x ≡ get_or xs n x
    → f n (x ∷ drop (n + 1) xs) ≡ y ∷ f (suc n) (drop (n + 1) xs) → new ≡ done ++ y ∷ [] → done ++ f n (drop n xs) ≡ total → new ++ f (n + 1) (drop (n + 1) xs) ≡ total
numbered_step f xs n x y done new total within is gives made before =
    let next : n + 1 ≡ suc n = omega arith in
    let rest = f (suc n) (drop (n + 1) xs) in
    ap (λ (k : ℕ). new ++ f k (drop (n + 1) xs)) next ∙ ap (λ l. l ++ rest) made ∙ append_assoc done (y ∷ []) rest
    ∙ ap (λ l. done ++ l) (sym gives ∙ sym (ap (f n) (left xs n x within is))) ∙ before

-- items that are kept by a test
pub kept_step : {X Y : Type 0} (g : X → Y) (p : X → Bool) (xs : List X) (i : ℕ) (x : X) (y : Y) (done new total : List Y) → i < length xs → x ≡ get_or xs i x
    → p x ≡ true → y ≡ g x → new ≡ done ++ y ∷ [] → done ++ map g (filter p (drop i xs)) ≡ total → new ++ map g (filter p (drop (i + 1) xs)) ≡ total
kept_step g p xs i x y done new total within is good same made before =
    let rest = drop (i + 1) xs in
    step (λ l. map g (filter p l)) xs i x (y ∷ []) done new total within is
    (ap (λ b. map g (cond b (x ∷ filter p rest) (filter p rest))) good ∙ ap (λ z. z ∷ map g (filter p rest)) (sym same)) made before

pub dropped_step : {X Y : Type 0} (g : X → Y) (p : X → Bool) (xs : List X) (i : ℕ) (x : X) (done new total : List Y) → i < length xs → x ≡ get_or xs i x
    → p x ≡ false → new ≡ done → done ++ map g (filter p (drop i xs)) ≡ total → new ++ map g (filter p (drop (i + 1) xs)) ≡ total
dropped_step g p xs i x done new total within is bad made before =
    let rest = drop (i + 1) xs in
    skip (λ l. map g (filter p l)) xs i x done new total within is (ap (λ b. map g (cond b (x ∷ filter p rest) (filter p rest))) bad) made before

-- items that are taken over
pub taken_step : {X Y : Type 0} (g : X → Y) (xs : List X) (i : ℕ) (x : X) (y : Y) (done new : List Y) → i < length xs → x ≡ get_or xs i x → y ≡ g x → new ≡ done ++ y ∷ [] → done ≡ map g (take i xs)
    → new ≡ map g (take (i + 1) xs)
taken_step {X} g xs i x y done new within is same made before =
    let next : take (i + 1) xs ≡ take i xs ++ x ∷ [] = take_more xs i x within ∙ ap (λ z. take i xs ++ z ∷ []) (sym is) in
    made ∙ ap (λ l. l ++ y ∷ []) before ∙ ap (λ z. map g (take i xs) ++ z ∷ []) same ∙ sym (map_end (take i xs)) ∙ ap (map g) (sym next)
  where
    map_end : (l : List X) → map g (l ++ x ∷ []) ≡ map g l ++ g x ∷ []
    map_end [] = refl
    map_end (z ∷ l) = ap (λ k. g z ∷ k) (map_end l)

pub copied_step : {X : Type 0} (xs : List X) (i : ℕ) (x y : X) (done new : List X) → i < length xs → x ≡ get_or xs i x → y ≡ x → new ≡ done ++ y ∷ [] → done ≡ take i xs → new ≡ take (i + 1) xs
copied_step xs i x y done new within is same made before =
    made ∙ ap (λ l. l ++ y ∷ []) before ∙ ap (λ z. take i xs ++ z ∷ []) (same ∙ is) ∙ sym (take_more xs i x within)
