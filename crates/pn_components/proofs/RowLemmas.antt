-- Edges as the targets of each place.
use Rattle.std.proofs.Common.{◌≡◌, ◌<◌, ℕ, zero, suc, ◌+◌, List, [], ◌∷◌, ◌++◌, length, get_or, set, take, refl, sym, ap, ◌∙◌, subst, inl, inr}
use Rattle.std.specs.List.{Contains}
use Rattle.std.proofs.lemmas.Bool.{cases_eq}
use Rattle.std.proofs.lemmas.List.{get_or-set_same, get_or-set_other, take_more}
use Rattle.std.proofs.lemmas.List.Elements.{Contains-append_left, Contains-push, Contains-push_cases}
use Rattle.pn_text.proofs.Members.{none_in}
use Rattle.pn_components.specs.Graphs.{Edges}
use Rattle.pn_components.specs.Rows.{AreRows, LeadsIn}

-- no place has a target
abbrev pub AreEmpty : List (List ℕ) → Type 0
AreEmpty rows = (a : ℕ) → get_or rows a [] ≡ []

pub none_empty : AreEmpty []
none_empty zero = refl
none_empty (suc a) = refl

pub empty_more : (rows : List (List ℕ)) → AreEmpty rows → AreEmpty (rows ++ [] ∷ [])
empty_more [] h zero = refl
empty_more [] h (suc a) = none_empty a
empty_more (r ∷ rows) h zero = h 0
empty_more (r ∷ rows) h (suc a) = empty_more rows (λ b. h (suc b)) a

pub empty_rows : (rows : List (List ℕ)) → AreEmpty rows → AreRows [] rows
empty_rows rows h = record {
  leads = λ a b c. absurd (none_in b (subst (λ (r : List ℕ). Contains r b) (h a) c));
  all = λ a b c. absurd (none_in (a, b) c);
}

pub row_more : (edges : Edges) (rows : List (List ℕ)) (from to : ℕ) → from < length rows → AreRows edges rows → AreRows (edges ++ (from, to) ∷ []) (set rows from (get_or rows from [] ++ to ∷ []))
row_more edges rows from to within h =
    let row = get_or rows from [] ++ to ∷ [] in
    let mine : get_or (set rows from row) from [] ≡ row = get_or-set_same rows from row [] within in
    let edge : ℕ × ℕ = (from, to) in
    record {
      leads = λ a b c. elim (cases_eq a from) [
        | inl e ↦ (elim (Contains-push_cases (get_or rows from []) to b (subst (λ (r : List ℕ). Contains r b) (ap (λ (x : ℕ). get_or (set rows from row) x []) e ∙ mine) c)) [
          | inl old ↦ Contains-append_left edges (edge ∷ []) (a, b) (h.leads a b (subst (λ (x : ℕ). LeadsIn rows x b) (sym e) old))
          | inr new ↦ subst (λ (p : ℕ × ℕ). Contains (edges ++ edge ∷ []) p) (ap (λ (x : ℕ). (x, to)) (sym e) ∙ ap (λ (y : ℕ). (a, y)) new) (Contains-push edges edge)
        ])
        | inr ne ↦ Contains-append_left edges (edge ∷ []) (a, b) (h.leads a b (subst (λ (r : List ℕ). Contains r b) (get_or-set_other rows from a row [] ne) c))
      ];
      all = λ a b c. elim (cases_eq a from) [
        | inl e ↦ subst (λ (r : List ℕ). Contains r b) (sym (ap (λ (x : ℕ). get_or (set rows from row) x []) e ∙ mine)) (elim (Contains-push_cases edges edge (a, b) c) [
          | inl old ↦ Contains-append_left (get_or rows from []) (to ∷ []) b (subst (λ (x : ℕ). LeadsIn rows x b) e (h.all a b old))
          | inr new ↦ subst (λ (y : ℕ). Contains row y) (ap (λ (p : ℕ × ℕ). p.1) new) (Contains-push (get_or rows from []) to)
        ])
        | inr ne ↦ subst (λ (r : List ℕ). Contains r b) (sym (get_or-set_other rows from a row [] ne)) (elim (Contains-push_cases edges edge (a, b) c) [
          | inl old ↦ h.all a b old
          | inr new ↦ absurd (ne (sym (ap (λ (p : ℕ × ℕ). p.0) new)))
        ])
      ];
    }

-- the next edge
pub row_next : (edges : Edges) (i : ℕ) (rows new : List (List ℕ)) → i < length edges → (get_or edges i (0, 0)).0 < length rows → AreRows (take i edges) rows
    → new ≡ set rows (get_or edges i (0, 0)).0 (get_or rows (get_or edges i (0, 0)).0 [] ++ (get_or edges i (0, 0)).1 ∷ []) → AreRows (take (i + 1) edges) new
row_next edges i rows new lt within h is =
    let e = get_or edges i (0, 0) in
    subst (λ (l : List (List ℕ)). AreRows (take (i + 1) edges) l) (sym is)
    (subst (λ (l : Edges). AreRows l (set rows e.0 (get_or rows e.0 [] ++ e.1 ∷ []))) (sym (take_more edges i (0, 0) lt)) (row_more (take i edges) rows e.0 e.1 within h))
