-- Ordinals are given one after the other.
use Rattle.std.proofs.Common.{◌≡◌, ◌≢◌, ◌<◌, ◌^◌, ℕ, zero, suc, ◌+◌, List, [], ◌∷◌, ◌++◌, length, Bool, true, false, cond, refl, sym, ap, ◌∙◌, inl, inr, arith, Some, None}
use Rattle.std.specs.Prelude.{◌==◌, ◌||◌, bytes_eq, unwrap_or, Option, String}
use Rattle.std.specs.Map.{update}
use Rattle.std.specs.BTreeMap.{BTreeMap, get_by_text}
use Rattle.std.proofs.lemmas.Bool.{cases_Bool, ne_eqb}
use Rattle.pn_deppath.specs.Folders.{free_from, is_taken, numbered, ordinal, with_ordinal}
use Rattle.pn_deppath.specs.Numbers.{given, HasNumbers, last_after, last_of, name_after, number_after, Numbered}
use Rattle.pn_deppath.proofs.CountLemmas.{count-append}
use Rattle.pn_deppath.proofs.NumberingLemmas.{ordinal_small, ordinal_some, same}

not_first : (taken : List (List ℕ)) (name : List ℕ) (k : ℕ) → (ordinal taken name k == 0) ≡ false
not_first taken name k = ne_eqb (ordinal taken name k) 0 (λ e. absurd (omega (arith, e, ordinal_some taken name k)))

pub number_next : (taken : List (List ℕ)) (name : List ℕ) (k : ℕ) → number_after taken name (last_after taken name k) ≡ last_after taken name (suc k)
number_next taken name zero = refl
number_next taken name (suc k) = ap (λ (o : Bool). cond o 1 (free_from taken name (length taken) (suc (ordinal taken name k)))) (not_first taken name k)

pub name_next : (taken : List (List ℕ)) (name : List ℕ) (k : ℕ) → name_after taken name (last_after taken name k) ≡ numbered taken name k
name_next taken name zero = refl
name_next taken name (suc k) =
    ap (λ (o : Bool). cond o name (with_ordinal name (number_after taken name (ordinal taken name k)))) (not_first taken name k)
    ∙ ap (with_ordinal name) (number_next taken name (suc k))

-- the last ordinal of a taken name
pub last_is : {A : Type 0} (m : BTreeMap (String A) ℕ) (taken : List (List ℕ)) (last : List ℕ → ℕ) (name : List ℕ) → HasNumbers m taken last → is_taken taken name ≡ true → last_of m name ≡ last name
last_is m taken last name h is = ap (λ (o : Option ℕ). unwrap_or o 0) (h name ∙ ap (λ (b : Bool). cond b (Some (last name)) None) is)

given_push : (named : List ℕ → List ℕ) (done : List (List ℕ)) (p q : List ℕ) → given named (done ++ p ∷ []) q ≡ given named done q + cond (bytes_eq (named p) q) 1 0
given_push named done p q = count-append (λ x. bytes_eq (named x) q) done (p ∷ []) ∙ ap (λ (n : ℕ). given named done q + n) refl

given_own : (named : List ℕ → List ℕ) (done : List (List ℕ)) (p q : List ℕ) → bytes_eq (named p) q ≡ true → given named (done ++ p ∷ []) q ≡ suc (given named done q)
given_own named done p q e = given_push named done p q ∙ ap (λ (b : Bool). given named done q + cond b 1 0) e ∙ one_more (given named done q) where
  one_more : (n : ℕ) → n + 1 ≡ suc n
  one_more n = omega arith

given_other : (named : List ℕ → List ℕ) (done : List (List ℕ)) (p q : List ℕ) → bytes_eq (named p) q ≡ false → given named (done ++ p ∷ []) q ≡ given named done q
given_other named done p q e = given_push named done p q ∙ ap (λ (b : Bool). given named done q + cond b 1 0) e ∙ none_more (given named done q) where
  none_more : (n : ℕ) → n + 0 ≡ n
  none_more n = omega arith

-- one dep path more has its name
pub numbers_more : {A : Type 0} (m m' : BTreeMap (String A) ℕ) (taken : List (List ℕ)) (named : List ℕ → List ℕ) (done : List (List ℕ)) (p : List ℕ)
    → HasNumbers m taken (λ q. last_after taken q (given named done q)) → is_taken taken (named p) ≡ true → Numbered m m' (named p) (number_after taken (named p) (last_of m (named p)))
    → HasNumbers m' taken (λ q. last_after taken q (given named (done ++ p ∷ []) q))
numbers_more m m' taken named done p h is step q = elim (cases_Bool (bytes_eq (named p) q)) [
  | inl e ↦
      let own : named p ≡ q = same (named p) q e in
      let last = last_is m taken (λ r. last_after taken r (given named done r)) (named p) h is in
      let next : number_after taken (named p) (last_of m (named p)) ≡ last_after taken (named p) (suc (given named done (named p))) = ap (number_after taken (named p)) last ∙ number_next taken (named p) (given named done (named p)) in
      let now : last_after taken q (given named (done ++ p ∷ []) q) ≡ last_after taken (named p) (suc (given named done (named p))) =
      ap (last_after taken q) (given_own named done p q e) ∙ ap (λ (r : List ℕ). last_after taken r (suc (given named done r))) (sym own) in
      step q ∙ ap (λ (b : Bool). cond b (Some (number_after taken (named p) (last_of m (named p)))) (get_by_text m q)) e ∙ ap Some (next ∙ sym now)
      ∙ sym (ap (λ (b : Bool). cond b (Some (last_after taken q (given named (done ++ p ∷ []) q))) None) (ap (is_taken taken) (sym own) ∙ is))
  | inr e ↦ step q ∙ ap (λ (b : Bool). cond b (Some (number_after taken (named p) (last_of m (named p)))) (get_by_text m q)) e ∙ h q
      ∙ ap (λ (n : ℕ). cond (is_taken taken q) (Some (last_after taken q n)) None) (sym (given_other named done p q e))
]

-- ordinals fit
pub last_small : (taken : List (List ℕ)) (name : List ℕ) (k : ℕ) → k < length taken → length taken < 2 ^ 32 → last_after taken name k + 1 + length taken < 2 ^ 64
last_small taken name zero within short = omega (arith, short)
last_small taken name (suc k) within short = let s = ordinal_small taken name k within short in omega (arith, s)

-- ---- names are met

taken_push : (taken : List (List ℕ)) (name q : List ℕ) → is_taken (taken ++ name ∷ []) q ≡ (is_taken taken q || bytes_eq name q)
taken_push [] name q = right (bytes_eq name q) where
  right : (b : Bool) → (b || false) ≡ b
  right true = refl
  right false = refl
taken_push (t ∷ ts) name q = elim (bytes_eq t q) as (λ o. (o || is_taken (ts ++ name ∷ []) q) ≡ ((o || is_taken ts q) || bytes_eq name q)) [ true ↦ refl | false ↦ taken_push ts name q ]

pub names_more : {A : Type 0} (m m' : BTreeMap (String A) ℕ) (taken : List (List ℕ)) (name : List ℕ) → HasNumbers m taken (λ q. 0) → ((q : List ℕ) → get_by_text m' q ≡ update bytes_eq (get_by_text m) name (Some 0) q)
    → HasNumbers m' (taken ++ name ∷ []) (λ q. 0)
names_more m m' taken name h step q =
    step q ∙ ap (λ (o : Option ℕ). cond (bytes_eq name q) (Some zero) o) (h q) ∙ joined (is_taken taken q) (bytes_eq name q) ∙ ap (λ (b : Bool). cond b (Some zero) None) (sym (taken_push taken name q)) where
      joined : (a b : Bool) → cond b (Some zero) (cond a (Some zero) None) ≡ cond (a || b) (Some zero) None
      joined true true = refl
      joined true false = refl
      joined false true = refl
      joined false false = refl

-- a name is given its next ordinal
pub numbered_by : {A : Type 0} (m m' : BTreeMap (String A) ℕ) (key name : List ℕ) (k n : ℕ) → key ≡ name → k ≡ n → ((q : List ℕ) → get_by_text m' q ≡ update bytes_eq (get_by_text m) key (Some k) q) → Numbered m m' name n
numbered_by m m' key name k n e f step q =
    step q ∙ ap (λ (x : List ℕ). cond (bytes_eq x q) (Some k) (get_by_text m q)) e ∙ ap (λ (j : ℕ). cond (bytes_eq name q) (Some j) (get_by_text m q)) f

pub number_first : (taken : List (List ℕ)) (name : List ℕ) (last : ℕ) → last ≡ 0 → 1 ≡ number_after taken name last
number_first taken name last e = sym (ap (number_after taken name) e)

pub number_later : (taken : List (List ℕ)) (name : List ℕ) (last : ℕ) → last ≢ 0 → free_from taken name (length taken) (last + 1) ≡ number_after taken name last
number_later taken name last ne =
    ap (free_from taken name (length taken)) (one_more last) ∙ sym (ap (λ (o : Bool). cond o 1 (free_from taken name (length taken) (suc last))) (ne_eqb last 0 ne)) where
      one_more : (n : ℕ) → n + 1 ≡ suc n
      one_more n = omega arith

-- ---- a free ordinal is looked for

pub free_stop : (taken : List (List ℕ)) (name : List ℕ) (left n : ℕ) → 0 < left → is_taken taken (with_ordinal name n) ≡ false → free_from taken name left n ≡ n
free_stop taken name zero n some h = refl
free_stop taken name (suc left) n some h = ap (λ (o : Bool). cond o (free_from taken name left (suc n)) n) h

pub free_more : (taken : List (List ℕ)) (name : List ℕ) (left more n next : ℕ) → left ≡ more + 1 → next ≡ n + 1 → is_taken taken (with_ordinal name n) ≡ true → free_from taken name left n ≡ free_from taken name more next
free_more taken name zero more n next e f h = absurd (omega (arith, e))
free_more taken name (suc left) more n next e f h =
    ap (λ (o : Bool). cond o (free_from taken name left (suc n)) n) h ∙ ap (λ (k : ℕ). free_from taken name k (suc n)) (fewer left more e) ∙ ap (free_from taken name more) (sym (later n next f)) where
      fewer : (a b : ℕ) → suc a ≡ b + 1 → a ≡ b
      fewer a b g = omega (arith, g)

      later : (a b : ℕ) → b ≡ a + 1 → b ≡ suc a
      later a b g = omega (arith, g)

pub free_end : (taken : List (List ℕ)) (name : List ℕ) (left n : ℕ) → left ≡ 0 → free_from taken name left n ≡ n
free_end taken name left n e = ap (λ (k : ℕ). free_from taken name k n) e
