-- Names with different ordinals, and why no two dep paths have one name.
use Rattle.std.proofs.Common.{◌≡◌, ℕ, zero, suc, ◌+◌, ◌*◌, ◌^◌, ◌<◌, ◌≤◌, Bool, true, false, cond, List, [], ◌∷◌, ◌++◌, length, get_or, map, refl, sym, ap, ◌∙◌, subst, inl, inr, arith, rules}
use Rattle.std.specs.Prelude.{◌≢◌, ◌⊎◌, ◌==◌, ◌&&◌, ◌||◌}
use Rattle.std.specs.Fmt.{decimal}
use Rattle.std.specs.Ordering.{is_lt, nat_cmp, ordering_reverse}
use Rattle.std.specs.declared.cmp.Ordering.{Ordering}
use Rattle.std.specs.declared.cmp.Ordering.TheVariants.{Less, Equal, Greater}
use Rattle.std.specs.Cmp.Lexicographic.{slice_cmp}
use Rattle.std.specs.Str.{bytes_eq}
use Rattle.std.specs.Char.{digit_value}
use Rattle.std.specs.Str.Parse.{AllDigits}
use Rattle.std.proofs.lemmas.Bool.{cases_Bool}
use Rattle.std.proofs.lemmas.Cmp.{nat_list_cmp_total, tied_itself}
use Rattle.std.proofs.lemmas.Fmt.{decimal_injective, decimal_is_IsNumeral}
use Rattle.std.proofs.lemmas.List.{length-map}
use Rattle.std.proofs.lemmas.Map.Lookups.{exact_bytes}
use Rattle.std.proofs.lemmas.Map.Views.{exact_unsigned_eq}
use Rattle.std.proofs.Math.Nat.{mul-le-mul_left, suc-mul}
use Rattle.std.proofs.lemmas.Slice.Eq.{bytes_eq-Decides}
use Rattle.pn_text.proofs.Orders.{is_less}
use Rattle.pn_deppath.specs.Folders.{with_ordinal, is_taken, free_from, ordinal, numbered, is_earlier, count_of, earlier, folder_by, FolderLaw}

pub same : (x y : List ℕ) → bytes_eq x y ≡ true → x ≡ y
same x y h = (bytes_eq-Decides x y).0 h

pub itself : (x : List ℕ) → bytes_eq x x ≡ true
itself x = (bytes_eq-Decides x x).1 refl

-- the byte `~` in a text
abbrev pub tilde : List ℕ → Bool
tilde [] = false
tilde (b ∷ bs) = (b == 126) || tilde bs

-- no decimal digit is `~`
no_tilde : (ds : List ℕ) → AllDigits 10 ds → tilde ds ≡ false
no_tilde [] h = refl
no_tilde (d ∷ ds) h = elim (cases_Bool (d == 126)) [
  | inl e ↦ absurd (not_digit (subst (λ x. digit_value x < 10) (exact_unsigned_eq d 126 e) h.0))
  | inr e ↦ cc (e, no_tilde ds h.1)
] where
  not_digit : 36 < 10 → ⊥
  not_digit g = omega (arith, g)

pub decimal_plain : (n : ℕ) → n < 2 ^ 64 → tilde (decimal n) ≡ false
decimal_plain n h = no_tilde (decimal n) (decimal_is_IsNumeral n h).0.1

tilde_behind : (x y : List ℕ) → tilde (x ++ 126 ∷ y) ≡ true
tilde_behind [] y = refl
tilde_behind (b ∷ x) y = elim (b == 126) as (λ o. (o || tilde (x ++ 126 ∷ y)) ≡ true) [ true ↦ refl | false ↦ tilde_behind x y ]

head_is : {A : Type 0} {x y : A} {xs ys : List A} → x ∷ xs ≡ y ∷ ys → x ≡ y
head_is e = cc

tail_is : {A : Type 0} {x y : A} {xs ys : List A} → x ∷ xs ≡ y ∷ ys → xs ≡ ys
tail_is e = cc

-- a text is cut at its last `~` in one way
pub last_cut : (x y d e : List ℕ) → tilde d ≡ false → tilde e ≡ false → x ++ 126 ∷ d ≡ y ++ 126 ∷ e → (x ≡ y) × (d ≡ e)
last_cut [] [] d e p q h = (refl, tail_is h)
last_cut [] (b ∷ y) d e p q h = absurd (cc (p, ap tilde (tail_is h), tilde_behind y e))
last_cut (a ∷ x) [] d e p q h = absurd (cc (q, ap tilde (tail_is h), tilde_behind x d))
last_cut (a ∷ x) (b ∷ y) d e p q h =
    let r = last_cut x y d e p q (tail_is h) in
    (cc (head_is h, r.0), r.1)

shifted : (x d : List ℕ) → x ++ 43 ∷ 126 ∷ d ≡ (x ++ 43 ∷ []) ++ 126 ∷ d
shifted [] d = refl
shifted (b ∷ x) d = ap (λ y. b ∷ y) (shifted x d)

unshifted : (x y : List ℕ) → x ++ 43 ∷ [] ≡ y ++ 43 ∷ [] → x ≡ y
unshifted [] [] h = refl
unshifted [] (b ∷ []) h = absurd (cc (tail_is h))
unshifted [] (b ∷ c ∷ y) h = absurd (cc (tail_is h))
unshifted (a ∷ []) [] h = absurd (cc (tail_is h))
unshifted (a ∷ c ∷ x) [] h = absurd (cc (tail_is h))
unshifted (a ∷ x) (b ∷ y) h = cc (head_is h, unshifted x y (tail_is h))

-- a name and an ordinal are told from their text
pub ordinals_apart : (x y : List ℕ) (n m : ℕ) → n < 2 ^ 64 → m < 2 ^ 64 → with_ordinal x n ≡ with_ordinal y m → (x ≡ y) × (n ≡ m)
ordinals_apart x y n m p q h =
    let r = last_cut (x ++ 43 ∷ []) (y ++ 43 ∷ []) (decimal n) (decimal m) (decimal_plain n p) (decimal_plain m q) (sym (shifted x (decimal n)) ∙ h ∙ shifted y (decimal m)) in
    (unshifted x y r.0, decimal_injective n m p q r.1)

-- taken names without one
dropped : List ℕ → List (List ℕ) → List (List ℕ)
dropped x [] = []
dropped x (t ∷ ts) = cond (bytes_eq t x) ts (t ∷ dropped x ts)

fewer : (x : List ℕ) (ts : List (List ℕ)) → is_taken ts x ≡ true → length ts ≡ suc (length (dropped x ts))
unfolding dropped
fewer x [] h = absurd (cc h)
fewer x (t ∷ ts) h = (elim (bytes_eq t x) as (λ o. (o || is_taken ts x) ≡ true → suc (length ts) ≡ suc (length (cond o ts (t ∷ dropped x ts)))) [
  | true ↦ λ g. refl
  | false ↦ λ g. ap suc (fewer x ts g)
]) h

kept : (x y : List ℕ) (ts : List (List ℕ)) → x ≢ y → is_taken ts y ≡ true → is_taken (dropped x ts) y ≡ true
unfolding dropped
kept x y [] n h = h
kept x y (t ∷ ts) n h = (elim (bytes_eq t x) as (λ o. bytes_eq t x ≡ o → is_taken (cond o ts (t ∷ dropped x ts)) y ≡ true) [
  | true ↦ λ is. (elim (bytes_eq t y) as (λ o. bytes_eq t y ≡ o → (o || is_taken ts y) ≡ true → is_taken ts y ≡ true) [
    | true ↦ λ too g. absurd (n (sym (same t x is) ∙ same t y too))
    | false ↦ λ not g. g
  ]) refl h
  | false ↦ λ is. (elim (bytes_eq t y) as (λ o. (o || is_taken ts y) ≡ true → (o || is_taken (dropped x ts) y) ≡ true) [
    | true ↦ λ g. refl
    | false ↦ λ g. kept x y ts n g
  ]) h
]) refl

-- all that is taken from this ordinal on is among these names
abbrev pub Covers : List (List ℕ) → List (List ℕ) → List ℕ → ℕ → Type 0
Covers taken live name n = (r : ℕ) → n ≤ r → r < 2 ^ 64 → is_taken taken (with_ordinal name r) ≡ true → is_taken live (with_ordinal name r) ≡ true

none_left : (ts : List (List ℕ)) (x : List ℕ) → length ts ≤ 0 → is_taken ts x ≡ true → ⊥
none_left [] x l h = cc h
none_left (t ∷ ts) x l h = omega arith

pub far : (taken : List (List ℕ)) (name : List ℕ) (left n : ℕ) → (n ≤ free_from taken name left n) × (free_from taken name left n ≤ n + left)
far taken name zero n = (omega arith, omega arith)
far taken name (suc left) n = elim (is_taken taken (with_ordinal name n)) as (λ o. (n ≤ cond o (free_from taken name left (suc n)) n) × (cond o (free_from taken name left (suc n)) n ≤ n + suc left)) [
  | true ↦ let f = far taken name left (suc n) in (omega (arith, f.0), omega (arith, f.1))
  | false ↦ (omega arith, omega arith)
]

pub free : (taken live : List (List ℕ)) (name : List ℕ) (left n : ℕ) → n + left < 2 ^ 64 → length live ≤ left → Covers taken live name n
    → is_taken taken (with_ordinal name (free_from taken name left n)) ≡ false
free taken live name zero n small short covers = elim (cases_Bool (is_taken taken (with_ordinal name n))) [
  | inl hit ↦ absurd (none_left live _ short (covers n (omega arith) (omega (arith, small)) hit))
  | inr miss ↦ miss
]
free taken live name (suc left) n small short covers =
    (elim (is_taken taken (with_ordinal name n)) as (λ o. is_taken taken (with_ordinal name n) ≡ o → is_taken taken (with_ordinal name (cond o (free_from taken name left (suc n)) n)) ≡ false) [
      | true ↦ λ hit.
          let one = covers n (omega arith) (omega (arith, small)) hit in
          free taken (dropped (with_ordinal name n) live) name left (suc n) (omega (arith, small)) (omega (arith, short, fewer _ live one))
          (λ r more high is. kept (with_ordinal name n) (with_ordinal name r) live (λ e. ⊥_step n r more (ordinals_apart name name n r (omega (arith, small)) high e).1) (covers r (omega (arith, more)) high is))
      | false ↦ λ miss. miss
    ]) refl where
      ⊥_step : (n r : ℕ) → suc n ≤ r → n ≡ r → ⊥
      ⊥_step n r h e = omega (arith, h, e)

eq_self : (k : ℕ) → (k == k) ≡ true
eq_self k = search rules

pub ordinal_far : (taken : List (List ℕ)) (name : List ℕ) (k : ℕ) → ordinal taken name k ≤ 1 + k * (1 + length taken)
ordinal_far taken name zero = omega arith
ordinal_far taken name (suc k) =
    let f = far taken name (length taken) (suc (ordinal taken name k)) in
    let m : suc k * (1 + length taken) ≡ k * (1 + length taken) + (1 + length taken) = suc-mul k (1 + length taken) in
    omega (arith, f.1, m, ordinal_far taken name k)

pub ordinal_rises : (taken : List (List ℕ)) (name : List ℕ) (j k : ℕ) → j < k → ordinal taken name j < ordinal taken name k
ordinal_rises taken name j zero h = absurd (omega (arith, h))
ordinal_rises taken name j (suc k) h =
    let f = far taken name (length taken) (suc (ordinal taken name k)) in
    elim (cases_Bool (j == k)) [
      | inl e ↦ omega (arith, f.0, ap (ordinal taken name) (exact_unsigned_eq j k e))
      | inr e ↦ omega (arith, f.0, ordinal_rises taken name j k (omega (arith, h, other j k e)))
    ] where
      other : (j k : ℕ) → (j == k) ≡ false → j ≢ k
      other j k e g = cc (e, eq_self k, ap (λ x. x == k) g)

pub ordinal_small : (taken : List (List ℕ)) (name : List ℕ) (k : ℕ) → suc k < length taken → length taken < 2 ^ 32 → suc (ordinal taken name k) + length taken < 2 ^ 64
ordinal_small taken name k less short =
    let far = ordinal_far taken name k in
    let m : k * (1 + length taken) ≤ k * (2 ^ 32) = mul-le-mul_left k (omega (arith, short)) in
    omega (arith, far, less, short, m)

ordinal_fits : (taken : List (List ℕ)) (name : List ℕ) (k : ℕ) → suc k < length taken → length taken < 2 ^ 32 → ordinal taken name (suc k) < 2 ^ 64
ordinal_fits taken name k less short = omega (arith, (far taken name (length taken) (suc (ordinal taken name k))).1, ordinal_small taken name k less short)

pub ordinal_some : (taken : List (List ℕ)) (name : List ℕ) (k : ℕ) → 1 ≤ ordinal taken name k
ordinal_some taken name zero = omega arith
ordinal_some taken name (suc k) = let f = (far taken name (length taken) (suc (ordinal taken name k))).0 in omega (arith, f)

-- the name with an ordinal is no dep path's name without one
pub ordinal_free : (taken : List (List ℕ)) (name : List ℕ) (k : ℕ) → suc k < length taken → length taken < 2 ^ 32
    → is_taken taken (with_ordinal name (ordinal taken name (suc k))) ≡ false
ordinal_free taken name k less short = free taken taken name (length taken) (suc (ordinal taken name k)) (ordinal_small taken name k less short) (omega arith) (λ r more high is. is)

longer : (b : ℕ) (x y : List ℕ) → x ≡ x ++ b ∷ y → ⊥
longer b [] y h = cc h
longer b (a ∷ x) y h = longer b x y (tail_is h)

-- the earlier one and the later one of two dep paths with one name
pub later_apart : (taken : List (List ℕ)) (name : List ℕ) (j k : ℕ) → j < k → k < length taken → length taken < 2 ^ 32 → numbered taken name j ≡ numbered taken name k → ⊥
later_apart taken name j zero less fits short h = omega (arith, less)
later_apart taken name zero (suc k) less fits short h = longer 43 name _ h
later_apart taken name (suc j) (suc k) less fits short h =
    let r = ordinals_apart name name (ordinal taken name (suc j)) (ordinal taken name (suc k)) (ordinal_fits taken name j (omega (arith, less, fits)) short) (ordinal_fits taken name k fits short) h in
    omega (arith, r.1, ordinal_rises taken name (suc j) (suc k) less)

taken_apart : (taken : List (List ℕ)) (x y : List ℕ) → is_taken taken x ≡ true → is_taken taken y ≡ false → x ≡ y → ⊥
taken_apart taken x y p q h = cc (p, q, ap (is_taken taken) h)

-- two dep paths with different names
pub other_apart : (taken : List (List ℕ)) (x y : List ℕ) (j k : ℕ) → x ≢ y → j < length taken → k < length taken → length taken < 2 ^ 32
    → is_taken taken x ≡ true → is_taken taken y ≡ true → numbered taken x j ≡ numbered taken y k → ⊥
other_apart taken x y zero zero n fj fk short p q h = n h
other_apart taken x y zero (suc k) n fj fk short p q h = taken_apart taken x _ p (ordinal_free taken y k fk short) h
other_apart taken x y (suc j) zero n fj fk short p q h = taken_apart taken y _ q (ordinal_free taken x j fj short) (sym h)
other_apart taken x y (suc j) (suc k) n fj fk short p q h = n (ordinals_apart x y _ _ (ordinal_fits taken x j fj short) (ordinal_fits taken y k fk short) h).0

abbrev pub In : List (List ℕ) → List ℕ → Type 0
In [] p = ⊥
In (x ∷ xs) p = (x ≡ p) ⊎ In xs p

in_from : (xs : List (List ℕ)) (k : ℕ) (p : List ℕ) → k < length xs → get_or xs k p ≡ p → In xs p
in_from [] k p l h = absurd (omega (arith, l))
in_from (x ∷ xs) zero p l h = inl h
in_from (x ∷ xs) (suc k) p l h = inr (in_from xs k p (omega (arith, l)) h)

taken_in : (named : List ℕ → List ℕ) (xs : List (List ℕ)) (p : List ℕ) → In xs p → is_taken (map named xs) (named p) ≡ true
taken_in named [] p h = absurd h
taken_in named (x ∷ xs) p (inl e) = ap (λ b. b || is_taken (map named xs) (named p)) (ap (λ y. bytes_eq (named y) (named p)) e ∙ itself (named p))
taken_in named (x ∷ xs) p (inr h) = elim (bytes_eq (named x) (named p)) as (λ o. (o || is_taken (map named xs) (named p)) ≡ true) [ true ↦ refl | false ↦ taken_in named xs p h ]

pub count_le : (f g : List ℕ → Bool) → ((x : List ℕ) → f x ≡ true → g x ≡ true) → (xs : List (List ℕ)) → count_of f xs ≤ count_of g xs
count_le f g i [] = omega arith
count_le f g i (x ∷ xs) = go (f x) (g x) (i x) (count_le f g i xs) where
  go : (a b : Bool) → (a ≡ true → b ≡ true) → count_of f xs ≤ count_of g xs → cond a (suc (count_of f xs)) (count_of f xs) ≤ cond b (suc (count_of g xs)) (count_of g xs)
  go true true h so = omega (arith, so)
  go true false h so = absurd (cc (h refl))
  go false true h so = omega (arith, so)
  go false false h so = so

count_lt : (f g : List ℕ → Bool) → ((x : List ℕ) → f x ≡ true → g x ≡ true) → (xs : List (List ℕ)) (p : List ℕ) → In xs p → f p ≡ false → g p ≡ true → count_of f xs < count_of g xs
count_lt f g i [] p h no_f is_g = absurd h
count_lt f g i (x ∷ xs) p (inl e) no_f is_g = go (f x) (g x) (ap f e ∙ no_f) (ap g e ∙ is_g) where
  go : (a b : Bool) → a ≡ false → b ≡ true → cond a (suc (count_of f xs)) (count_of f xs) < cond b (suc (count_of g xs)) (count_of g xs)
  go true b h k = absurd (cc h)
  go false true h k = omega (arith, count_le f g i xs)
  go false false h k = absurd (cc k)
count_lt f g i (x ∷ xs) p (inr h) no_f is_g = go (f x) (g x) (i x) (count_lt f g i xs p h no_f is_g) where
  go : (a b : Bool) → (a ≡ true → b ≡ true) → count_of f xs < count_of g xs → cond a (suc (count_of f xs)) (count_of f xs) < cond b (suc (count_of g xs)) (count_of g xs)
  go true true j so = omega (arith, so)
  go true false j so = absurd (cc (j refl))
  go false true j so = omega (arith, so)
  go false false j so = so

pub count_all : (xs : List (List ℕ)) → count_of (λ x. true) xs ≡ length xs
count_all [] = refl
count_all (x ∷ xs) = ap suc (count_all xs)

not_earlier : (named : List ℕ → List ℕ) (p : List ℕ) → is_earlier named p p ≡ false
not_earlier named p = ap (λ o. is_lt o && bytes_eq (named p) (named p)) (tied_itself nat_list_cmp_total p)

fits_in : (named : List ℕ → List ℕ) (xs : List (List ℕ)) (p : List ℕ) → In xs p → earlier named xs p < length xs
fits_in named xs p h = subst (λ n. earlier named xs p < n) (count_all xs) (count_lt (is_earlier named p) (λ x. true) (λ x e. refl) xs p h (not_earlier named p) refl)

both : (a b : Bool) → (a && b) ≡ true → (a ≡ true) × (b ≡ true)
both true true h = (refl, refl)
both true false h = absurd (cc h)
both false b h = absurd (cc h)

-- what stands before the earlier one stands before the later one too
grows : (named : List ℕ → List ℕ) (p q : List ℕ) → slice_cmp nat_cmp p q ≡ Less → named p ≡ named q → (x : List ℕ) → is_earlier named p x ≡ true → is_earlier named q x ≡ true
grows named p q less e x h =
    let b = both (is_lt (slice_cmp nat_cmp x p)) (bytes_eq (named x) (named p)) h in
    let l : slice_cmp nat_cmp x q ≡ Less = nat_list_cmp_total.trans x p q (is_less _ b.0) less in
    ap (λ o. is_lt o && bytes_eq (named x) (named q)) l ∙ ap (bytes_eq (named x)) (sym e) ∙ b.1

below_apart : (named : List ℕ → List ℕ) (paths : List (List ℕ)) (p q : List ℕ) → length paths < 2 ^ 32 → In paths p → In paths q → slice_cmp nat_cmp p q ≡ Less
    → folder_by named paths p ≡ folder_by named paths q → ⊥
below_apart named paths p q short ip iq less h =
    let n : length (map named paths) ≡ length paths = length-map paths named in
    let fp = subst (λ m. earlier named paths p < m) (sym n) (fits_in named paths p ip) in
    let fq = subst (λ m. earlier named paths q < m) (sym n) (fits_in named paths q iq) in
    let s = subst (λ m. m < 2 ^ 32) (sym n) short in
    elim (cases_Bool (bytes_eq (named p) (named q))) [
      | inl e ↦
          let e = same (named p) (named q) e in
          let c : earlier named paths p < earlier named paths q = count_lt (is_earlier named p) (is_earlier named q) (grows named p q less e) paths p ip (not_earlier named p)
          (ap (λ o. is_lt o && bytes_eq (named p) (named q)) less ∙ ap (bytes_eq (named p)) (sym e) ∙ itself (named p)) in
          later_apart (map named paths) (named p) _ _ c fq s (h ∙ ap (λ x. numbered (map named paths) x (earlier named paths q)) (sym e))
      | inr e ↦ other_apart (map named paths) (named p) (named q) _ _ (λ g. cc (e, ap (bytes_eq (named p)) (sym g), itself (named p))) fp fq s (taken_in named paths p ip) (taken_in named paths q iq) h
    ]

pub folders_apart : FolderLaw
folders_apart named paths p q short cp cq n h =
    go (slice_cmp nat_cmp p q) refl where
      go : (o : Ordering) → slice_cmp nat_cmp p q ≡ o → ⊥
      go Less e = below_apart named paths p q short (in_from paths cp.0 p cp.1 cp.2) (in_from paths cq.0 q cq.1 cq.2) e h
      go Equal e = n (exact_bytes p q e)
      go Greater e = below_apart named paths q p short (in_from paths cq.0 q cq.1 cq.2) (in_from paths cp.0 p cp.1 cp.2) (nat_list_cmp_total.antisymm q p ∙ ap ordering_reverse e) (sym h)
