-- Packages as they are met.
use Rattle.std.proofs.Common.{◌≡◌, ◌<◌, ℕ, zero, suc, ◌+◌, Bool, true, false, List, [], ◌∷◌, ◌++◌, length, take, get_or, set, replicate, inl, inr, ◌⊎◌, refl, sym, ap, ◌∙◌, subst, arith, append_assoc, length-append}
use Rattle.std.specs.List.{Contains}
use Rattle.std.proofs.lemmas.Bool.{cases_eq}
use Rattle.std.proofs.lemmas.List.{take_more, get_or-set_same, get_or-set_other, length-set, length-replicate}
use Rattle.std.proofs.lemmas.List.Elements.{Contains-push, Contains-push_cases, Contains-append_left, Contains-append_cases, Contains-get_or}
use Rattle.pn_text.proofs.Members.{none_in}
use Rattle.pn_graph.specs.Graphs.{At, Dep, to_package}
use Rattle.pn_graph.specs.Reaches.{LeadsTo}
use Rattle.pn_graph.specs.Founds.{IsMarked, AddsAll, unmarked}

unmarked-replicate : (n : ℕ) → unmarked (replicate n false) ≡ n
unmarked-replicate zero = refl
unmarked-replicate (suc n) = ap suc (unmarked-replicate n)

no_mark : (n k : ℕ) → get_or (replicate n false) k false ≡ true → ⊥
no_mark zero k e = (cc)
no_mark (suc n) zero e = (cc)
no_mark (suc n) (suc k) e = no_mark n k e

pub none_marked : (n : ℕ) → IsMarked (replicate n false) []
none_marked n = record {
  once = let e = unmarked-replicate n in let f : length (replicate n false) ≡ n = length-replicate n false in omega arith;
  listed = λ k e. absurd (no_mark n k e);
  marked = λ k h. absurd (none_in k h);
}

unmarked-set : (seen : List Bool) (at : ℕ) → at < length seen → get_or seen at false ≡ false → suc (unmarked (set seen at true)) ≡ unmarked seen
unmarked-set [] at h e = absurd (omega arith)
unmarked-set (true ∷ bs) zero h e = (cc)
unmarked-set (false ∷ bs) zero h e = refl
unmarked-set (true ∷ bs) (suc i) h e = unmarked-set bs i (omega arith) e
unmarked-set (false ∷ bs) (suc i) h e = ap suc (unmarked-set bs i (omega arith) e)

pub one_marked : (seen : List Bool) (order : List ℕ) (at : ℕ) → IsMarked seen order → at < length seen → get_or seen at false ≡ false → IsMarked (set seen at true) (order ++ at ∷ [])
one_marked seen order at h within fresh = record {
  once =
      let e = unmarked-set seen at within fresh in
      let f : length (set seen at true) ≡ length seen = length-set seen at true in
      let g : length (order ++ at ∷ []) ≡ length order + 1 = length-append order (at ∷ []) in
      let o = h.once in
      omega arith;
  listed = λ k e. elim (cases_eq k at) [
    | inl same ↦ subst (λ (j : ℕ). Contains (order ++ at ∷ []) j) (sym same) (Contains-push order at)
    | inr other ↦ Contains-append_left order (at ∷ []) k (h.listed k (sym (get_or-set_other seen at k true false other) ∙ e))
  ];
  marked = λ k c. elim (Contains-push_cases order at k c) [
    | inl old ↦ (elim (cases_eq k at) [
      | inl same ↦ subst (λ (j : ℕ). get_or (set seen at true) j false ≡ true) (sym same) (get_or-set_same seen at true false within)
      | inr other ↦ get_or-set_other seen at k true false other ∙ h.marked k old
    ])
    | inr new ↦ subst (λ (j : ℕ). get_or (set seen at true) j false ≡ true) new (get_or-set_same seen at true false within)
  ];
}

pub adds_same : (P Q : ℕ → Type 0) (a b : List ℕ) → ((k : ℕ) → P k → Q k) → ((k : ℕ) → Q k → P k) → AddsAll P a b → AddsAll Q a b
adds_same P Q a b to from h = record {
  adds = record { more = h.adds.more; is = h.adds.is; each = λ k c. to k (h.adds.each k c) };
  all = λ k q. h.all k (from k q);
}

pub adds_both : (P Q R : ℕ → Type 0) (a b c : List ℕ) → ((k : ℕ) → P k → R k) → ((k : ℕ) → Q k → R k) → ((k : ℕ) → R k → P k ⊎ Q k) → AddsAll P a b → AddsAll Q b c → AddsAll R a c
adds_both P Q R a b c left right split f s = record {
  adds = record {
    more = f.adds.more ++ s.adds.more;
    is = s.adds.is ∙ ap (λ (l : List ℕ). l ++ s.adds.more) f.adds.is ∙ append_assoc a f.adds.more s.adds.more;
    each = λ k m. elim (Contains-append_cases f.adds.more s.adds.more k m) [ inl x ↦ left k (f.adds.each k x) | inr y ↦ right k (s.adds.each k y) ];
  };
  all = λ k r. elim (split k r) [
    | inl p ↦ subst (λ (l : List ℕ). Contains l k) (sym s.adds.is) (Contains-append_left b s.adds.more k (f.all k p))
    | inr q ↦ s.all k q
  ];
}

-- what a dependency leads to
abbrev pub IsTo : Dep → ℕ → Type 0
IsTo dep k = dep.to ≡ to_package (record { 0 = k })

leads_on : (front : List Dep) (dep : Dep) (k : ℕ) → LeadsTo (front ++ dep ∷ []) k → LeadsTo front k ⊎ IsTo dep k
leads_on front dep k l = elim (Contains-push_cases front dep l.dep l.has) [
  | inl old ↦ inl (record { dep = l.dep; has = old; to = l.to })
  | inr new ↦ inr (ap (λ (d : Dep). d.to) new ∙ l.to)
]

-- one dependency more
pub adds_more : (deps : List Dep) (i : ℕ) (dep : Dep) (a b c : List ℕ) → i < length deps → dep ≡ get_or deps i dep → AddsAll (LeadsTo (take i deps)) a b → AddsAll (IsTo dep) b c → AddsAll (LeadsTo (take (i + 1) deps)) a c
adds_more deps i dep a b c within is f s =
    let front = take i deps in
    let next : take (i + 1) deps ≡ front ++ dep ∷ [] = take_more deps i dep within ∙ ap (λ (d : Dep). front ++ d ∷ []) (sym is) in
    subst (λ (l : List Dep). AddsAll (LeadsTo l) a c) (sym next)
    (adds_both (LeadsTo front) (IsTo dep) (LeadsTo (front ++ dep ∷ [])) a b c
    (λ k l. record { dep = l.dep; has = Contains-append_left front (dep ∷ []) l.dep l.has; to = l.to })
    (λ k e. record { dep = dep; has = Contains-push front dep; to = e })
    (leads_on front dep) f s)

place_in : At → ℕ → ℕ
place_in (to_package k) other = k.0
place_in q other = other

pub to_place : (to : At) (k j : ℕ) → to ≡ to_package (record { 0 = k }) → to ≡ to_package (record { 0 = j }) → k ≡ j
unfolding place_in
to_place to k j e f = ap (λ (a : At). place_in a 0) (sym e ∙ f)

-- the dependency of that number is one of them
pub leads_by : (deps : List Dep) (i : ℕ) (dep : Dep) (k : ℕ) → i < length deps → dep ≡ get_or deps i dep → IsTo dep k → LeadsTo deps k
leads_by deps i dep k within is e = record {
  dep = dep;
  has = subst (λ (d : Dep). Contains deps d) (sym is) (Contains-get_or deps i dep within);
  to = e;
}
