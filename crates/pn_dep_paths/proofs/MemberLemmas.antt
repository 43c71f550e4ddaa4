-- The members of components.
use Rattle.std.proofs.Common.{◌≡◌, ◌<◌, ◌≤◌, ◌+◌, ℕ, List, [], ◌∷◌, ◌++◌, length, get_or, inl, inr, ◌⊎◌, sym, ap, ◌∙◌, subst, arith}
use Rattle.std.specs.List.{All, Contains}
use Rattle.std.proofs.lemmas.List.Elements.{All-weaker, All-contains_itself, Contains-append_left, Contains-push, Contains-push_cases}
use Rattle.pn_text.proofs.Members.{none_in}
use Rattle.pn_components.specs.Graphs.{Edges}
use Rattle.pn_components.specs.Rows.{AreRows}
use Rattle.pn_dep_paths.specs.Steps.{AreMembers}

-- the first places with their numbers
pub record ArePairsOf (numbers : List ℕ) (count : ℕ) (pairs : Edges) : Type 0 where
  pub right : (c i : ℕ) → Contains pairs (c, i) → (i < count) × (get_or numbers i 0 ≡ c)
  pub all : (c i : ℕ) → i < count → get_or numbers i 0 ≡ c → Contains pairs (c, i)

pub no_pairs : (numbers : List ℕ) → ArePairsOf numbers 0 []
no_pairs numbers = record { right = λ c i h. absurd (none_in (c, i) h); all = λ c i lt. absurd (omega (arith, lt)) }

split : (k n : ℕ) → k < n + 1 → (k < n) ⊎ (k ≡ n)
split k n h = grind arith

pub more_pairs : (numbers : List ℕ) (n number : ℕ) (old new : Edges) → ArePairsOf numbers n old → number ≡ get_or numbers n 0 → new ≡ old ++ (number, n) ∷ [] → ArePairsOf numbers (n + 1) new
more_pairs numbers n number old new h at is = record {
  right = λ c i k. elim (Contains-push_cases old (number, n) (c, i) (subst (λ (l : Edges). Contains l (c, i)) is k)) [
    | inl o ↦ (let e = h.right c i o in (let lt = e.0 in omega (arith, lt), e.1))
    | inr s ↦ (let e : n ≡ i = ap (λ (p : ℕ × ℕ). p.1) s in
        (omega (arith, e), ap (λ (k : ℕ). get_or numbers k 0) (sym e) ∙ sym at ∙ ap (λ (p : ℕ × ℕ). p.0) s))
  ];
  all = λ c i lt e. subst (λ (l : Edges). Contains l (c, i)) (sym is) (elim (split i n lt) [
    | inl low ↦ Contains-append_left old ((number, n) ∷ []) (c, i) (h.all c i low e)
    | inr same ↦ subst (λ (p : ℕ × ℕ). Contains (old ++ (number, n) ∷ []) p) (ap (λ (x : ℕ). (x, n)) (at ∙ ap (λ (k : ℕ). get_or numbers k 0) (sym same) ∙ e) ∙ ap (λ (y : ℕ). (c, y)) (sym same)) (Contains-push old (number, n))
  ]);
}

pub pairs_within : (numbers : List ℕ) (n : ℕ) (pairs : Edges) → ((i : ℕ) → i < length numbers → get_or numbers i 0 < length numbers) → n ≤ length numbers → ArePairsOf numbers n pairs → All (λ e. e.0 < length numbers) pairs
pairs_within numbers n pairs within le h =
    All-weaker (Contains pairs) (λ (e : ℕ × ℕ). e.0 < length numbers)
    (λ e c. let r = h.right e.0 e.1 c in let lt = r.0 in subst (λ (k : ℕ). k < length numbers) r.1 (within e.1 (omega (arith, lt, le)))) pairs (All-contains_itself pairs)

pub are_members : (numbers : List ℕ) (n : ℕ) (pairs : Edges) (rows : List (List ℕ)) → n ≡ length numbers → ArePairsOf numbers n pairs → AreRows pairs rows → AreMembers numbers rows
are_members numbers n pairs rows whole h r = record {
  right = λ c i k. let e = h.right c i (r.leads c i k) in (let lt = e.0 in omega (arith, lt, whole), e.1);
  all = λ c i lt e. r.all c i (h.all c i (omega (arith, lt, whole)) e);
}
