-- Pairs as instances get them.
use Rattle.std.proofs.Common.{◌≡◌, ◌<◌, ℕ, zero, suc, ◌+◌, List, [], ◌∷◌, ◌++◌, length, get_or, set, take, map, inl, inr, ◌⊎◌, refl, sym, ap, ◌∙◌, subst, Vec, Global}
use Rattle.std.specs.List.{Contains}
use Rattle.std.proofs.lemmas.Bool.{cases_eq}
use Rattle.std.proofs.lemmas.List.{get_or-map, get_or-set_same, get_or-set_other, take_more}
use Rattle.std.proofs.lemmas.List.Elements.{Contains-append_left, Contains-push, Contains-push_cases}
use Rattle.pn_text.proofs.Members.{none_in}
use Rattle.pn_components.specs.Rows.{rows_of}
use Rattle.pn_outer.specs.Founds.{AddsPair, AreNone}

-- a row as the code reads it
pub row_at : (rows : List (Vec ℕ Global)) (i : ℕ) (v : Vec ℕ Global) → i < length rows → v ≡ get_or rows i v → get_or (rows_of rows) i [] ≡ v.items
row_at rows i v lt is = get_or-map (λ (r : Vec ℕ Global). r.items) rows i v [] lt ∙ ap (λ (r : Vec ℕ Global). r.items) (sym is)

none_none : AreNone []
none_none zero = refl
none_none (suc a) = refl

pub none_at_first : AreNone []
none_at_first = none_none

pub none_more : (rows : List (List ℕ)) → AreNone rows → AreNone (rows ++ [] ∷ [])
none_more [] h zero = refl
none_more [] h (suc a) = none_none a
none_more (r ∷ rows) h zero = h 0
none_more (r ∷ rows) h (suc a) = none_more rows (λ b. h (suc b)) a

pub one_pair : (pair at : ℕ) (old new : List (List ℕ)) → at < length old → new ≡ set old at (get_or old at [] ++ pair ∷ []) → AddsPair pair (λ k. k ≡ at) old new
one_pair pair at old new within is =
    let row = get_or old at [] ++ pair ∷ [] in
    let mine : get_or new at [] ≡ row = ap (λ (h : List (List ℕ)). get_or h at []) is ∙ get_or-set_same old at row [] within in
    let other = λ (p : ℕ) (ne : p ≡ at → ⊥). ap (λ (h : List (List ℕ)). get_or h p []) is ∙ get_or-set_other old at p row [] ne in
    record {
      kept = λ i p c. elim (cases_eq i at) [
        | inl e ↦ subst (λ (r : List ℕ). Contains r p) (sym (ap (λ (k : ℕ). get_or new k []) e ∙ mine))
            (Contains-append_left (get_or old at []) (pair ∷ []) p (subst (λ (k : ℕ). Contains (get_or old k []) p) e c))
        | inr ne ↦ subst (λ (r : List ℕ). Contains r p) (sym (other i ne)) c
      ];
      added = λ i e. subst (λ (r : List ℕ). Contains r pair) (sym (ap (λ (k : ℕ). get_or new k []) e ∙ mine)) (Contains-push (get_or old at []) pair);
      only = λ i p c. elim (cases_eq i at) [
        | inl e ↦ (elim (Contains-push_cases (get_or old at []) pair p (subst (λ (r : List ℕ). Contains r p) (ap (λ (k : ℕ). get_or new k []) e ∙ mine) c)) [
          | inl o ↦ inl (subst (λ (k : ℕ). Contains (get_or old k []) p) (sym e) o)
          | inr same ↦ inr (sym same, e)
        ])
        | inr ne ↦ inl (subst (λ (r : List ℕ). Contains r p) (other i ne) c)
      ];
    }

pub no_pairs : (pair : ℕ) (rows : List (List ℕ)) → AddsPair pair (Contains []) rows rows
no_pairs pair rows = record { kept = λ i p c. c; added = λ i c. absurd (none_in i c); only = λ i p c. inl c }

pub more_pairs : (pair : ℕ) (order : List ℕ) (n : ℕ) (old mid new : List (List ℕ)) → n < length order → AddsPair pair (Contains (take n order)) old mid → AddsPair pair (λ k. k ≡ get_or order n 0) mid new
    → AddsPair pair (Contains (take (n + 1) order)) old new
more_pairs pair order n old mid new lt f s =
    let front = take n order in
    let x = get_or order n 0 in
    subst (λ (l : List ℕ). AddsPair pair (Contains l) old new) (sym (take_more order n 0 lt)) (record {
      kept = λ i p c. s.kept i p (f.kept i p c);
      added = λ i c. elim (Contains-push_cases front x i c) [ inl o ↦ s.kept i pair (f.added i o) | inr e ↦ s.added i (sym e) ];
      only = λ i p c. elim (s.only i p c) [
        | inl m ↦ (elim (f.only i p m) [
          | inl o ↦ inl o
          | inr t ↦ inr (t.0, Contains-append_left front (x ∷ []) i t.1)
        ])
        | inr t ↦ inr (t.0, subst (λ (j : ℕ). Contains (front ++ x ∷ []) j) (sym t.1) (Contains-push front x))
      ];
    })
