-- Places as they are met.
use Rattle.std.proofs.Common.{◌≡◌, ◌<◌, ℕ, zero, suc, ◌+◌, Bool, true, false, List, [], ◌∷◌, ◌++◌, length, take, get_or, set, replicate, inl, inr, ◌⊎◌, refl, sym, ap, ◌∙◌, subst, arith, append_assoc, length-append}
use Rattle.std.specs.List.{Contains}
use Rattle.std.proofs.lemmas.Bool.{cases_eq}
use Rattle.std.proofs.lemmas.List.{take_more, get_or-set_same, get_or-set_other, length-set, length-replicate}
use Rattle.std.proofs.lemmas.List.Elements.{Contains-push, Contains-push_cases, Contains-append_left, Contains-append_cases}
use Rattle.pn_text.proofs.Members.{in_one, none_in}
use Rattle.pn_lock_prod.specs.Walks.{AddsAll, IsMarked, unmarked}

unmarked-replicate : (n : ℕ) → unmarked (replicate n false) ≡ n
unmarked-replicate zero = refl
unmarked-replicate (suc n) = ap suc (unmarked-replicate n)

no_mark : (n k : ℕ) → get_or (replicate n false) k false ≡ true → ⊥
no_mark zero k e = (cc)
no_mark (suc n) zero e = (cc)
no_mark (suc n) (suc k) e = no_mark n k e

pub none_marked : (n : ℕ) → IsMarked (replicate n false) []
none_marked n = record {
  once = let e = unmarked-replicate n in let f : length (replicate n false) ≡ n = length-replicate n false in omega arith;
  listed = λ k e. absurd (no_mark n k e);
  marked = λ k h. absurd (none_in k h);
}

unmarked-set : (seen : List Bool) (at : ℕ) → at < length seen → get_or seen at false ≡ false → suc (unmarked (set seen at true)) ≡ unmarked seen
unmarked-set [] at h e = absurd (omega arith)
unmarked-set (true ∷ bs) zero h e = (cc)
unmarked-set (false ∷ bs) zero h e = refl
unmarked-set (true ∷ bs) (suc i) h e = unmarked-set bs i (omega arith) e
unmarked-set (false ∷ bs) (suc i) h e = ap suc (unmarked-set bs i (omega arith) e)

pub one_marked : (seen : List Bool) (order : List ℕ) (at : ℕ) → IsMarked seen order → at < length seen → get_or seen at false ≡ false → IsMarked (set seen at true) (order ++ at ∷ [])
one_marked seen order at h within fresh = record {
  once =
      let e = unmarked-set seen at within fresh in
      let f : length (set seen at true) ≡ length seen = length-set seen at true in
      let g : length (order ++ at ∷ []) ≡ length order + 1 = length-append order (at ∷ []) in
      let o = h.once in
      omega arith;
  listed = λ k e. elim (cases_eq k at) [
    | inl same ↦ subst (λ (j : ℕ). Contains (order ++ at ∷ []) j) (sym same) (Contains-push order at)
    | inr other ↦ Contains-append_left order (at ∷ []) k (h.listed k (sym (get_or-set_other seen at k true false other) ∙ e))
  ];
  marked = λ k c. elim (Contains-push_cases order at k c) [
    | inl old ↦ (elim (cases_eq k at) [
      | inl same ↦ subst (λ (j : ℕ). get_or (set seen at true) j false ≡ true) (sym same) (get_or-set_same seen at true false within)
      | inr other ↦ get_or-set_other seen at k true false other ∙ h.marked k old
    ])
    | inr new ↦ subst (λ (j : ℕ). get_or (set seen at true) j false ≡ true) new (get_or-set_same seen at true false within)
  ];
}

-- ---- what is added

pub adds_none : (P : ℕ → Type 0) (a : List ℕ) → ((k : ℕ) → P k → Contains a k) → AddsAll P a a
adds_none P a h = record { more = []; is = nil a; each = λ k c. absurd (none_in k c); all = h } where
  nil : (xs : List ℕ) → xs ≡ xs ++ []
  nil [] = refl
  nil (x ∷ xs) = ap (λ (t : List ℕ). x ∷ t) (nil xs)

pub adds_one : (order : List ℕ) (at : ℕ) → AddsAll (λ k. k ≡ at) order (order ++ at ∷ [])
adds_one order at = record {
  more = at ∷ [];
  is = refl;
  each = λ k c. sym (in_one at k c);
  all = λ k e. subst (λ (j : ℕ). Contains (order ++ at ∷ []) j) (sym e) (Contains-push order at);
}

pub adds_same : (P Q : ℕ → Type 0) (a b : List ℕ) → ((k : ℕ) → P k → Q k) → ((k : ℕ) → Q k → P k) → AddsAll P a b → AddsAll Q a b
adds_same P Q a b to from h = record { more = h.more; is = h.is; each = λ k c. to k (h.each k c); all = λ k q. h.all k (from k q) }

pub adds_both : (P Q R : ℕ → Type 0) (a b c : List ℕ) → ((k : ℕ) → P k → R k) → ((k : ℕ) → Q k → R k) → ((k : ℕ) → R k → P k ⊎ Q k) → AddsAll P a b → AddsAll Q b c → AddsAll R a c
adds_both P Q R a b c left right split f s = record {
  more = f.more ++ s.more;
  is = s.is ∙ ap (λ (l : List ℕ). l ++ s.more) f.is ∙ append_assoc a f.more s.more;
  each = λ k m. elim (Contains-append_cases f.more s.more k m) [ inl x ↦ left k (f.each k x) | inr y ↦ right k (s.each k y) ];
  all = λ k r. elim (split k r) [
    | inl p ↦ subst (λ (l : List ℕ). Contains l k) (sym s.is) (Contains-append_left b s.more k (f.all k p))
    | inr q ↦ s.all k q
  ];
}

-- one instance more
pub adds_next : (row : List ℕ) (i : ℕ) (a b c : List ℕ) → i < length row → AddsAll (Contains (take i row)) a b → AddsAll (λ k. k ≡ get_or row i 0) b c → AddsAll (Contains (take (i + 1) row)) a c
adds_next row i a b c lt f s =
    let front = take i row in
    let x = get_or row i 0 in
    subst (λ (l : List ℕ). AddsAll (Contains l) a c) (sym (take_more row i 0 lt))
    (adds_both (Contains front) (λ k. k ≡ x) (Contains (front ++ x ∷ [])) a b c
    (λ k p. Contains-append_left front (x ∷ []) k p)
    (λ k e. subst (λ (j : ℕ). Contains (front ++ x ∷ []) j) (sym e) (Contains-push front x))
    (λ k r. back k (Contains-push_cases front x k r)) f s) where
      back : (k : ℕ) → Contains (take i row) k ⊎ (get_or row i 0 ≡ k) → Contains (take i row) k ⊎ (k ≡ get_or row i 0)
      back k (inl p) = inl p
      back k (inr e) = inr (sym e)

pub marked_within : (seen : List Bool) (k : ℕ) → get_or seen k false ≡ true → k < length seen
marked_within [] zero e = (cc)
marked_within [] (suc k) e = (cc)
marked_within (b ∷ bs) zero e = omega arith
marked_within (b ∷ bs) (suc k) e = let h = marked_within bs k e in omega arith

pub all_within : (seen : List Bool) (order : List ℕ) → IsMarked seen order → (k : ℕ) → Contains order k → k < length seen
all_within seen order m k c = marked_within seen k (m.marked k c)
