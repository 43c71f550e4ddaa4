-- Pairs and the instances that they are provided to.
use Rattle.std.proofs.Common.{◌≡◌, ◌<◌, ◌≤◌, ℕ, zero, suc, ◌+◌, List, [], ◌∷◌, ◌++◌, length, get_or, set, take, Some, inl, inr, ◌⊎◌, refl, sym, ap, ◌∙◌, subst, arith, length-append}
use Rattle.std.specs.Prelude.{slice_get, Option}
use Rattle.std.specs.List.{Contains}
use Rattle.std.proofs.lemmas.Bool.{cases_eq}
use Rattle.std.proofs.lemmas.Option.{get_or_from_slice_get, slice_get-get_or, slice_get_within}
use Rattle.std.proofs.lemmas.List.{get_or-set_same, get_or-set_other, get_or_append_left, take_more}
use Rattle.std.proofs.Math.Seq.{get_or-append_seam}
use Rattle.std.proofs.lemmas.List.Elements.{Contains-append_left, Contains-push, Contains-push_cases}
use Rattle.pn_text.proofs.Members.{here, in_one, none_in}
use Rattle.pn_text.proofs.Results.{same_some}
use Rattle.pn_outer.specs.Instances.{Instance, Link, peers_at}
use Rattle.pn_outer.specs.Provisions.{AddsHolder, AddsHolders, AreProvided, HasHolder}
use Rattle.pn_outer.proofs.EdgeLemmas.{peers_within}

-- a pair that is there has one more instance
pub holder_more : (i : ℕ) (pair : Link) (pairs : List Link) (holders new : List (List ℕ)) (place : ℕ) → slice_get pairs place ≡ Some pair → place < length holders
    → new ≡ set holders place (get_or holders place [] ++ i ∷ []) → AddsHolder i pair pairs holders pairs new
holder_more i pair pairs holders new place at within is =
    let row = get_or holders place [] ++ i ∷ [] in
    let mine : get_or new place [] ≡ row = ap (λ (h : List (List ℕ)). get_or h place []) is ∙ get_or-set_same holders place row [] within in
    let other = λ (p : ℕ) (ne : p ≡ place → ⊥). ap (λ (h : List (List ℕ)). get_or h p []) is ∙ get_or-set_other holders place p row [] ne in
    record {
      kept = λ k l h. record {
        number = h.number;
        at = h.at;
        holds = elim (cases_eq h.number place) [
          | inl e ↦ subst (λ (r : List ℕ). Contains r k) (sym (ap (λ (p : ℕ). get_or new p []) e ∙ mine))
              (Contains-append_left (get_or holders place []) (i ∷ []) k (subst (λ (p : ℕ). Contains (get_or holders p []) k) e h.holds))
          | inr ne ↦ subst (λ (r : List ℕ). Contains r k) (sym (other h.number ne)) h.holds
        ];
      };
      added = record { number = place; at = at; holds = subst (λ (r : List ℕ). Contains r i) (sym mine) (Contains-push (get_or holders place []) i) };
      only = λ k l h. elim (cases_eq h.number place) [
        | inl e ↦ (elim (Contains-push_cases (get_or holders place []) i k (subst (λ (r : List ℕ). Contains r k) (ap (λ (p : ℕ). get_or new p []) e ∙ mine) h.holds)) [
          | inl old ↦ inl (record { number = place; at = ap (slice_get pairs) (sym e) ∙ h.at; holds = old })
          | inr same ↦ inr (sym same, same_some l pair (sym h.at ∙ ap (slice_get pairs) e ∙ at))
        ])
        | inr ne ↦ inl (record { number = h.number; at = h.at; holds = subst (λ (r : List ℕ). Contains r k) (other h.number ne) h.holds })
      ];
    }

split_less : (k n : ℕ) → k < n + 1 → (k < n) ⊎ (k ≡ n)
split_less k n h = grind arith

front_at : {X : Type 0} (xs : List X) (x : X) (n : ℕ) (d : X) → n < length xs → slice_get (xs ++ x ∷ []) n ≡ slice_get xs n
front_at xs x n d h =
    slice_get-get_or (xs ++ x ∷ []) n d (omega (arith, length-append xs (x ∷ []), h)) ∙ ap Some (get_or_append_left xs (x ∷ []) d n h) ∙ sym (slice_get-get_or xs n d h)

last_at : {X : Type 0} (xs : List X) (x : X) → slice_get (xs ++ x ∷ []) (length xs) ≡ Some x
last_at xs x = slice_get-get_or (xs ++ x ∷ []) (length xs) x (omega (arith, length-append xs (x ∷ []))) ∙ ap Some (get_or-append_seam xs x [] x)

-- a pair that wasn't there
pub holder_new : (i : ℕ) (pair : Link) (pairs pairs' : List Link) (holders holders' : List (List ℕ)) → length holders ≡ length pairs → pairs' ≡ pairs ++ pair ∷ [] → holders' ≡ holders ++ (i ∷ []) ∷ []
    → AddsHolder i pair pairs holders pairs' holders'
holder_new i pair pairs pairs' holders holders' long is his =
    let mine : get_or holders' (length pairs) [] ≡ i ∷ [] =
    ap (λ (h : List (List ℕ)). get_or h (length pairs) []) his ∙ ap (λ (n : ℕ). get_or (holders ++ (i ∷ []) ∷ []) n []) (sym long) ∙ get_or-append_seam holders (i ∷ []) [] [] in
    let at : slice_get pairs' (length pairs) ≡ Some pair = ap (λ (p : List Link). slice_get p (length pairs)) is ∙ last_at pairs pair in
    let front = λ (n : ℕ) (h : n < length pairs).
    ap (λ (l : List (List ℕ)). get_or l n []) his ∙ get_or_append_left holders ((i ∷ []) ∷ []) [] n (subst (λ (m : ℕ). n < m) (sym long) h) in
    record {
      kept = λ k l h.
          let low = slice_get_within pairs h.number l h.at in
          record {
            number = h.number;
            at = ap (λ (p : List Link). slice_get p h.number) is ∙ front_at pairs pair h.number pair low ∙ h.at;
            holds = subst (λ (r : List ℕ). Contains r k) (sym (front h.number low)) h.holds;
          };
      added = record { number = length pairs; at = at; holds = subst (λ (r : List ℕ). Contains r i) (sym mine) (here i []) };
      only = λ k l h.
          let wide = slice_get_within pairs' h.number l h.at in
          elim (split_less h.number (length pairs) (subst (λ (m : ℕ). h.number < m) (ap length is ∙ length-append pairs (pair ∷ [])) wide)) [
            | inl low ↦ inl (record {
              number = h.number;
              at = sym (front_at pairs pair h.number pair low) ∙ ap (λ (p : List Link). slice_get p h.number) (sym is) ∙ h.at;
              holds = subst (λ (r : List ℕ). Contains r k) (front h.number low) h.holds;
            })
            | inr e ↦ inr (
              sym (in_one i k (subst (λ (r : List ℕ). Contains r k) (ap (λ (n : ℕ). get_or holders' n []) e ∙ mine) h.holds)),
              same_some l pair (sym h.at ∙ ap (slice_get pairs') e ∙ at),
            )
          ];
    }

-- ---- the pairs of one instance

pub no_links : (i : ℕ) (pairs : List Link) (holders : List (List ℕ)) → AddsHolders i [] pairs holders pairs holders
no_links i pairs holders = record { kept = λ k l h. h; added = λ l c. absurd (none_in l c); only = λ k l h. inl h }

one_link : (i : ℕ) (front : List Link) (x : Link) (pairs mid new : List Link) (holders mid' new' : List (List ℕ)) → AddsHolders i front pairs holders mid mid' → AddsHolder i x mid mid' new new'
    → AddsHolders i (front ++ x ∷ []) pairs holders new new'
one_link i front x pairs mid new holders mid' new' f s = record {
  kept = λ k l h. s.kept k l (f.kept k l h);
  added = λ l c. elim (Contains-push_cases front x l c) [
    | inl old ↦ s.kept i l (f.added l old)
    | inr e ↦ subst (λ (y : Link). HasHolder new new' i y) e s.added
  ];
  only = λ k l h. elim (s.only k l h) [
    | inl m ↦ (elim (f.only k l m) [
      | inl o ↦ inl o
      | inr t ↦ inr (t.0, Contains-append_left front (x ∷ []) l t.1)
    ])
    | inr e ↦ inr (e.0, subst (λ (y : Link). Contains (front ++ x ∷ []) y) (sym e.1) (Contains-push front x))
  ];
}

pub more_links : (i : ℕ) (links : List Link) (n : ℕ) (x : Link) (pairs mid new : List Link) (holders mid' new' : List (List ℕ)) → n < length links → x ≡ get_or links n x
    → AddsHolders i (take n links) pairs holders mid mid' → AddsHolder i x mid mid' new new' → AddsHolders i (take (n + 1) links) pairs holders new new'
more_links i links n x pairs mid new holders mid' new' lt is f s =
    subst (λ (l : List Link). AddsHolders i l pairs holders new new') (sym (take_more links n x lt ∙ ap (λ (y : Link). take n links ++ y ∷ []) (sym is)))
    (one_link i (take n links) x pairs mid new holders mid' new' f s)

-- ---- the pairs of the first instances

pub record AreFirst (instances : List Instance) (count : ℕ) (pairs : List Link) (holders : List (List ℕ)) : Type 0 where
  pub right : (k : ℕ) (l : Link) → HasHolder pairs holders k l → (k < count) × Contains (peers_at instances k) l
  pub all : (k : ℕ) (l : Link) → k < count → Contains (peers_at instances k) l → HasHolder pairs holders k l

pub none_first : (instances : List Instance) → AreFirst instances 0 [] []
none_first instances = record {
  right = λ k l h. absurd (let low : h.number < 0 = slice_get_within [] h.number l h.at in omega (arith, low));
  all = λ k l lt c. absurd (omega (arith, lt));
}

later : (k n : ℕ) → k < n → k < n + 1
later k n h = omega arith

pub more_first : (instances : List Instance) (n : ℕ) (links : List Link) (pairs new : List Link) (holders new' : List (List ℕ)) → links ≡ peers_at instances n → AreFirst instances n pairs holders
    → AddsHolders n links pairs holders new new' → AreFirst instances (n + 1) new new'
more_first instances n links pairs new holders new' is f s = record {
  right = λ k l h. elim (s.only k l h) [
    | inl o ↦ (later k n (f.right k l o).0, (f.right k l o).1)
    | inr t ↦ (subst (λ (x : ℕ). x < n + 1) (sym t.0) (omega arith), subst (λ (x : ℕ). Contains (peers_at instances x) l) (sym t.0) (subst (λ (ls : List Link). Contains ls l) is t.1))
  ];
  all = λ k l lt c. elim (split_less k n lt) [
    | inl low ↦ s.kept k l (f.all k l low c)
    | inr e ↦ subst (λ (x : ℕ). HasHolder new new' x l) (sym e) (s.added l (subst (λ (ls : List Link). Contains ls l) (sym is) (subst (λ (x : ℕ). Contains (peers_at instances x) l) e c)))
  ];
}

pub are_provided : (instances : List Instance) (n : ℕ) (pairs : List Link) (holders : List (List ℕ)) → length instances ≤ n → AreFirst instances n pairs holders → AreProvided instances pairs holders
are_provided instances n pairs holders whole f = record {
  right = λ k l h. (f.right k l h).1;
  all = λ k l c. f.all k l (far k (peers_within instances k l c)) c;
} where
  far : (k : ℕ) → k < length instances → k < n
  far k h = omega arith
