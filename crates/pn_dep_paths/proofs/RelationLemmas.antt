-- The edges of the outer relation, and the numbers of its components.
use Rattle.std.proofs.Common.{◌≡◌, ◌<◌, ◌+◌, ℕ, zero, suc, List, [], ◌∷◌, ◌++◌, length, get_or, Some, None, inl, inr, refl, sym, ap, ◌∙◌, subst, arith, append_assoc, drop}
use Rattle.std.specs.Prelude.{slice_get, Option}
use Rattle.std.specs.List.{All, Contains}
use Rattle.std.proofs.lemmas.List.{drop_more}
use Rattle.std.proofs.lemmas.List.Elements.{Contains-append_left, Contains-append_right, Contains-append_cases, All-contains_itself, All-weaker}
use Rattle.pn_text.proofs.Members.{here, in_one, none_in}
use Rattle.pn_text.proofs.Results.{same_some}
use Rattle.pn_components.specs.Graphs.{AreComponents, Edges, Leads, Reaches, itself, through}
use Rattle.pn_outer.specs.declared.instance.Goal.{Goal}
use Rattle.pn_outer.specs.declared.instance.Goal.TheVariants.{Project as to_project, Inst as to_instance}
use Rattle.pn_outer.specs.declared.instance.Instance.{Instance}
use Rattle.pn_outer.specs.declared.instance.Link.{Link}
use Rattle.pn_outer.specs.Instances.{ArePeersThere, IsThere}
use Rattle.pn_outer.specs.Outer.{AreOuter, IsOuter, below, provided}
use Rattle.pn_dep_paths.specs.Relation.{AreRanks, LeadsOut}
use Rattle.pn_dep_paths.specs.Steps.{IsPairThere, edge_or_none, edge_to, edges_from, row_edges}

-- ---- the edges, one after the other

pub row_more : (pairs : List Link) (from k : ℕ) (row : List ℕ) (whole old new : Edges) → k < length row → new ≡ old ++ edge_or_none from (slice_get pairs (get_or row k 0))
    → old ++ row_edges pairs from (drop k row) ≡ whole → new ++ row_edges pairs from (drop (k + 1) row) ≡ whole
row_more pairs from k row whole old new lt is h =
    let more = row_edges pairs from (drop (k + 1) row) in
    ap (λ (l : Edges). l ++ more) is ∙ append_assoc old (edge_or_none from (slice_get pairs (get_or row k 0))) more
    ∙ sym (ap (λ (l : List ℕ). old ++ row_edges pairs from l) (drop_more row k 0 lt)) ∙ h

pub rows_more : (pairs : List Link) (k : ℕ) (rows : List (List ℕ)) (whole old new : Edges) → k < length rows → new ≡ old ++ row_edges pairs k (get_or rows k [])
    → old ++ edges_from pairs k (drop k rows) ≡ whole → new ++ edges_from pairs (k + 1) (drop (k + 1) rows) ≡ whole
rows_more pairs k rows whole old new lt is h =
    let more = edges_from pairs (k + 1) (drop (k + 1) rows) in
    ap (λ (l : Edges). l ++ more) is ∙ append_assoc old (row_edges pairs k (get_or rows k [])) more
    ∙ sym (ap (λ (l : List (List ℕ)). old ++ edges_from pairs k l) (drop_more rows k [] lt)) ∙ h

-- ---- which edges there are

-- A pair with one of these numbers leads to an instance.
record HasEdge (pairs : List Link) (row : List ℕ) (to : ℕ) : Type 0 where
  number : ℕ
  has : Contains row number
  pair : Link
  at : slice_get pairs number ≡ Some pair
  leads : pair.to ≡ to_instance (record { 0 = to })

edge_right : (i : ℕ) (pair : Link) (g : Goal) (a b : ℕ) → pair.to ≡ g → Contains (edge_to i g) (a, b) → (a ≡ i) × (pair.to ≡ to_instance (record { 0 = b }))
edge_right i pair (to_project q) a b e c = absurd (none_in (a, b) c)
edge_right i pair (to_instance j) a b e c =
    let s = in_one (i, j.0) (a, b) c in
    (sym (ap (λ (p : ℕ × ℕ). p.0) s), e ∙ ap (λ (x : ℕ). to_instance (record { 0 = x })) (ap (λ (p : ℕ × ℕ). p.1) s))

one_right : (pairs : List Link) (i n : ℕ) (row : List ℕ) (o : Option Link) (a b : ℕ) → Contains row n → slice_get pairs n ≡ o → Contains (edge_or_none i o) (a, b) → (a ≡ i) × HasEdge pairs row b
one_right pairs i n row None a b has at c = absurd (none_in (a, b) c)
one_right pairs i n row (Some pair) a b has at c = let e = edge_right i pair pair.to a b refl c in (e.0, record { number = n; has = has; pair = pair; at = at; leads = e.1 })

row_right : (pairs : List Link) (i : ℕ) (row : List ℕ) (a b : ℕ) → Contains (row_edges pairs i row) (a, b) → (a ≡ i) × HasEdge pairs row b
row_right pairs i [] a b c = absurd (none_in (a, b) c)
row_right pairs i (p ∷ ps) a b c = elim (Contains-append_cases (edge_or_none i (slice_get pairs p)) (row_edges pairs i ps) (a, b) c) [
  | inl h ↦ one_right pairs i p (p ∷ ps) (slice_get pairs p) a b (here p ps) refl h
  | inr h ↦ (let e = row_right pairs i ps a b h in
      let f = e.1 in
      (e.0, record { number = f.number; has = Contains-append_right (p ∷ []) ps f.number f.has; pair = f.pair; at = f.at; leads = f.leads }))
]

from_right : (pairs : List Link) (i : ℕ) (rows : List (List ℕ)) (a b : ℕ) → Contains (edges_from pairs i rows) (a, b) → (k : ℕ) × (a ≡ i + k) × HasEdge pairs (get_or rows k []) b
from_right pairs i [] a b c = absurd (none_in (a, b) c)
from_right pairs i (row ∷ rows) a b c = elim (Contains-append_cases (row_edges pairs i row) (edges_from pairs (i + 1) rows) (a, b) c) [
  | inl h ↦ (let e = row_right pairs i row a b h in let s = e.0 in (0, omega (arith, s), e.1))
  | inr h ↦ (let e = from_right pairs (i + 1) rows a b h in let k : ℕ = e.0 in let s = e.1 in (suc k, omega (arith, s), e.2))
]

one_all : (i b : ℕ) (o : Option Link) (pair : Link) → o ≡ Some pair → pair.to ≡ to_instance (record { 0 = b }) → Contains (edge_or_none i o) (i, b)
one_all i b o pair at leads = subst (λ (x : Option Link). Contains (edge_or_none i x) (i, b)) (sym at) (subst (λ (g : Goal). Contains (edge_to i g) (i, b)) (sym leads) (here (i, b) []))

row_all : (pairs : List Link) (i : ℕ) (row : List ℕ) (b n : ℕ) (pair : Link) → Contains row n → slice_get pairs n ≡ Some pair → pair.to ≡ to_instance (record { 0 = b }) → Contains (row_edges pairs i row) (i, b)
row_all pairs i [] b n pair has at leads = absurd (none_in n has)
row_all pairs i (p ∷ ps) b n pair has at leads = elim (Contains-append_cases (p ∷ []) ps n has) [
  | inl h ↦ Contains-append_left (edge_or_none i (slice_get pairs p)) (row_edges pairs i ps) (i, b) (one_all i b (slice_get pairs p) pair (ap (slice_get pairs) (in_one p n h) ∙ at) leads)
  | inr h ↦ Contains-append_right (edge_or_none i (slice_get pairs p)) (row_edges pairs i ps) (i, b) (row_all pairs i ps b n pair h at leads)
]

from_all : (pairs : List Link) (i k : ℕ) (rows : List (List ℕ)) (b n : ℕ) (pair : Link) → Contains (get_or rows k []) n → slice_get pairs n ≡ Some pair → pair.to ≡ to_instance (record { 0 = b })
    → Contains (edges_from pairs i rows) (i + k, b)
from_all pairs i zero [] b n pair has at leads = absurd (none_in n has)
from_all pairs i (suc k) [] b n pair has at leads = absurd (none_in n has)
from_all pairs i zero (row ∷ rows) b n pair has at leads =
    Contains-append_left (row_edges pairs i row) (edges_from pairs (i + 1) rows) (i + 0, b)
    (subst (λ (x : ℕ). Contains (row_edges pairs i row) (x, b)) (omega arith) (row_all pairs i row b n pair has at leads))
from_all pairs i (suc k) (row ∷ rows) b n pair has at leads =
    Contains-append_right (row_edges pairs i row) (edges_from pairs (i + 1) rows) (i + suc k, b)
    (subst (λ (x : ℕ). Contains (edges_from pairs (i + 1) rows) (x, b)) (omega arith) (from_all pairs (i + 1) k rows b n pair has at leads))

pub row_within : {X : Type 0} (rows : List (List X)) (i : ℕ) (p : X) → Contains (get_or rows i []) p → i < length rows
row_within [] zero p c = absurd (none_in p c)
row_within [] (suc i) p c = absurd (none_in p c)
row_within (row ∷ rows) zero p c = omega arith
row_within (row ∷ rows) (suc i) p c = let r = row_within rows i p c in omega (arith, r)

-- an outer pair leads to what is there
pub outer_there : (instances : List Instance) (projects : ℕ) (pair : Link) (i : ℕ) → ArePeersThere projects instances → IsOuter instances pair i → IsThere (length instances) projects pair.to
outer_there instances projects pair _ h (provided i c) = h i pair c
outer_there instances projects pair _ h (below i j d f o) = outer_there instances projects pair j h o

pub leads_there : (instances : List Instance) (projects i j : ℕ) → ArePeersThere projects instances → LeadsOut instances i j → j < length instances
leads_there instances projects i j h l = subst (λ (g : Goal). IsThere (length instances) projects g) l.to (outer_there instances projects l.pair i h l.outer)

along : (L M : ℕ → ℕ → Type 0) → ((a b : ℕ) → L a b → M a b) → (a b : ℕ) → Reaches L a b → Reaches M a b
along L M turn a _ itself = itself
along L M turn a _ (through x y g l) = through x y (along L M turn a x g) (turn x y l)

-- ---- with the outer pairs

module _ (instances : List Instance) (pairs : List Link) (rows : List (List ℕ)) (outer : AreOuter instances pairs rows) where
  pub pairs_in : (i p : ℕ) → Contains (get_or rows i []) p → p < length pairs
  pairs_in i p c = within pairs p (outer.right i p c).pair (outer.right i p c).at where
    within : (pairs : List Link) (p : ℕ) (pair : Link) → slice_get pairs p ≡ Some pair → p < length pairs
    within [] zero pair e = (cc)
    within [] (suc p) pair e = (cc)
    within (x ∷ xs) zero pair e = omega arith
    within (x ∷ xs) (suc p) pair e = let r = within xs p pair e in omega (arith, r)

  pub pairs_there : (projects : ℕ) → ArePeersThere projects instances → (i p : ℕ) → Contains (get_or rows i []) p → IsPairThere (length instances) projects (slice_get pairs p)
  pairs_there projects h i p c =
      let named = outer.right i p c in
      subst (IsPairThere (length instances) projects) (sym named.at) (outer_there instances projects named.pair i h named.outer)

  leads_of : (a b : ℕ) → Contains (edges_from pairs 0 rows) (a, b) → LeadsOut instances a b
  leads_of a b c =
      let e = from_right pairs 0 rows a b c in
      let k : ℕ = e.0 in
      let same : a ≡ k = (let s = e.1 in omega (arith, s)) in
      let f = e.2 in
      let named = outer.right k f.number f.has in
      let one : named.pair ≡ f.pair = same_some named.pair f.pair (sym named.at ∙ f.at) in
      subst (λ (x : ℕ). LeadsOut instances x b) (sym same) (record { pair = named.pair; outer = named.outer; to = ap (λ (l : Link). l.to) one ∙ f.leads })

  edge_of : (a b : ℕ) → LeadsOut instances a b → Contains (edges_from pairs 0 rows) (a, b)
  edge_of a b l =
      let n = outer.all a l.pair l.outer in
      subst (λ (x : ℕ). Contains (edges_from pairs 0 rows) (x, b)) (omega arith) (from_all pairs 0 a rows b n.number l.pair n.has n.at l.to)

  leads_within : (a b : ℕ) → LeadsOut instances a b → a < length instances
  leads_within a b l = let n = outer.all a l.pair l.outer in subst (λ (k : ℕ). a < k) outer.count (row_within rows a n.number n.has)

  pub edges_within : (projects : ℕ) → ArePeersThere projects instances → (edges : Edges) → edges ≡ edges_from pairs 0 rows → All (λ e. (e.0 < length instances) × (e.1 < length instances)) edges
  edges_within projects h edges is =
      All-weaker (Contains edges) (λ (e : ℕ × ℕ). (e.0 < length instances) × (e.1 < length instances))
      (λ e c. let l = leads_of e.0 e.1 (subst (λ (es : Edges). Contains es (e.0, e.1)) is c) in (leads_within e.0 e.1 l, leads_there instances projects e.0 e.1 h l))
      edges (All-contains_itself edges)

  pub ranks : (projects : ℕ) → ArePeersThere projects instances → (edges : Edges) (numbers : List ℕ) → edges ≡ edges_from pairs 0 rows → AreComponents (length instances) edges numbers → AreRanks instances numbers
  ranks projects h edges numbers is are = record {
    count = are.all;
    few = λ i lt. are.few i 0 (let e = are.all in omega (arith, e, lt));
    lower = λ i j l. are.targets_first i j (edge i j l);
    same = λ i j l e.
        let r = (are.together j i (leads_there instances projects i j h l) (leads_within i j l)).0 e in
        (along (Leads edges) (LeadsOut instances) back i j r.1, along (Leads edges) (LeadsOut instances) back j i r.0);
    one = λ i j l r.
        (are.together j i (leads_there instances projects i j h l) (leads_within i j l)).1
        (along (LeadsOut instances) (Leads edges) edge j i r.1, along (LeadsOut instances) (Leads edges) edge i j r.0);
  } where
    edge : (a b : ℕ) → LeadsOut instances a b → Leads edges a b
    edge a b l = subst (λ (es : Edges). Contains es (a, b)) (sym is) (edge_of a b l)

    back : (a b : ℕ) → Leads edges a b → LeadsOut instances a b
    back a b c = leads_of a b (subst (λ (es : Edges). Contains es (a, b)) is c)

pub there_within : (n q : ℕ) (pairs : List Link) (p : ℕ) → IsPairThere n q (slice_get pairs p) → p < length pairs
there_within n q [] zero h = absurd h
there_within n q [] (suc p) h = absurd h
there_within n q (x ∷ xs) zero h = omega arith
there_within n q (x ∷ xs) (suc p) h = let r = there_within n q xs p h in omega (arith, r)
