-- Edges from instances to those that depend on them.
use Rattle.std.proofs.Common.{◌≡◌, ◌<◌, ◌≤◌, ℕ, zero, suc, ◌+◌, List, [], ◌∷◌, ◌++◌, length, get_or, inl, inr, ◌⊎◌, refl, sym, ap, ◌∙◌, subst, arith}
use Rattle.std.specs.Prelude.{slice_get}
use Rattle.std.specs.List.{Contains}
use Rattle.std.proofs.lemmas.Option.{slice_get_past}
use Rattle.std.proofs.lemmas.Bool.{cases_lt}
use Rattle.std.proofs.lemmas.List.Elements.{Contains-append_left, Contains-append_right, Contains-append_cases}
use Rattle.pn_text.proofs.Members.{here, in_cons, in_one, none_in, there}
use Rattle.pn_components.specs.Graphs.{Edges}
use Rattle.pn_components.specs.Rows.{AreRows}
use Rattle.pn_outer.specs.Instances.{AreInRange, DependsOn, Goal, Instance, LeadsTo, Link, deps_at, deps_of, peers_at, peers_of, to_instance, to_project}
use Rattle.pn_outer.specs.Dependents.{AreDependents, edge_of, edges_of}

-- the edges of the first instances
pub record AreEdges (instances : List Instance) (count : ℕ) (edges : Edges) : Type 0 where
  pub right : (j k : ℕ) → Contains edges (j, k) → (k < count) × DependsOn instances k j
  pub all : (j k : ℕ) → k < count → DependsOn instances k j → Contains edges (j, k)

pub no_edges : (instances : List Instance) → AreEdges instances 0 []
no_edges instances = record { right = λ j k c. absurd (none_in (j, k) c); all = λ j k lt d. absurd (omega (arith, lt)) }

edge_right : (from : ℕ) (g : Goal) (j k : ℕ) → Contains (edge_of from g) (j, k) → (k ≡ from) × (g ≡ to_instance (record { 0 = j }))
edge_right from (to_project q) j k c = absurd (none_in (j, k) c)
edge_right from (to_instance n) j k c =
    let e = in_one (n.0, from) (j, k) c in
    (sym (ap (λ (p : ℕ × ℕ). p.1) e), ap (λ (x : ℕ). to_instance (record { 0 = x })) (ap (λ (p : ℕ × ℕ). p.0) e))

edges_right : (from : ℕ) (links : List Link) (j k : ℕ) → Contains (edges_of from links) (j, k) → (k ≡ from) × LeadsTo links j
edges_right from [] j k c = absurd (none_in (j, k) c)
edges_right from (l ∷ ls) j k c = elim (Contains-append_cases (edge_of from l.to) (edges_of from ls) (j, k) c) [
  | inl h ↦ (let e = edge_right from l.to j k h in (e.0, record { link = l; has = here l ls; to = e.1 }))
  | inr h ↦ (let e = edges_right from ls j k h in (e.0, record { link = e.1.link; has = there l ls e.1.link e.1.has; to = e.1.to }))
]

edges_all : (from : ℕ) (links : List Link) (j : ℕ) → LeadsTo links j → Contains (edges_of from links) (j, from)
edges_all from [] j h = absurd (none_in h.link h.has)
edges_all from (l ∷ ls) j h = elim (in_cons l ls h.link h.has) [
  | inl e ↦ Contains-append_left (edge_of from l.to) (edges_of from ls) (j, from)
      (subst (λ (es : Edges). Contains es (j, from)) (sym (ap (edge_of from) (ap (λ (x : Link). x.to) e ∙ h.to))) (here (j, from) []))
  | inr r ↦ Contains-append_right (edge_of from l.to) (edges_of from ls) (j, from) (edges_all from ls j (record { link = h.link; has = r; to = h.to }))
]

split_less : (k n : ℕ) → k < n + 1 → (k < n) ⊎ (k ≡ n)
split_less k n h = grind arith

later : (k n : ℕ) → k < n → k < n + 1
later k n h = omega arith

-- one instance more
pub more_edges : (instances : List Instance) (n : ℕ) (old new : Edges) → AreEdges instances n old → new ≡ old ++ edges_of n (deps_at instances n) → AreEdges instances (n + 1) new
more_edges instances n old new h is = record {
  right = λ j k c. elim (Contains-append_cases old (edges_of n (deps_at instances n)) (j, k) (subst (λ (es : Edges). Contains es (j, k)) is c)) [
    | inl o ↦ (later k n (h.right j k o).0, (h.right j k o).1)
    | inr o ↦ (let e = edges_right n (deps_at instances n) j k o in (subst (λ (x : ℕ). x < n + 1) (sym e.0) (omega arith), subst (λ (x : ℕ). DependsOn instances x j) (sym e.0) e.1))
  ];
  all = λ j k lt d. subst (λ (es : Edges). Contains es (j, k)) (sym is) (elim (split_less k n lt) [
    | inl low ↦ Contains-append_left old (edges_of n (deps_at instances n)) (j, k) (h.all j k low d)
    | inr same ↦ Contains-append_right old (edges_of n (deps_at instances n)) (j, k)
        (subst (λ (x : ℕ). Contains (edges_of n (deps_at instances n)) (j, x)) (sym same) (edges_all n (deps_at instances n) j (subst (λ (x : ℕ). DependsOn instances x j) same d)))
  ]);
}

-- who depends on another is one of the instances
pub depends_within : (instances : List Instance) (i j : ℕ) → DependsOn instances i j → i < length instances
depends_within instances i j d = elim (cases_lt i (length instances)) [
  | inl low ↦ low
  | inr high ↦ absurd (none_in d.link (subst (λ (l : List Link). Contains l d.link) (ap deps_of (slice_get_past instances i high)) d.has))
]

pub peers_within : (instances : List Instance) (i : ℕ) (pair : Link) → Contains (peers_at instances i) pair → i < length instances
peers_within instances i pair c = elim (cases_lt i (length instances)) [
  | inl low ↦ low
  | inr high ↦ absurd (none_in pair (subst (λ (l : List Link). Contains l pair) (ap peers_of (slice_get_past instances i high)) c))
]

pub are_dependents : (instances : List Instance) (n : ℕ) (edges : Edges) (rows : List (List ℕ)) → n ≡ length instances → length rows ≡ length instances → AreEdges instances n edges → AreRows edges rows
    → AreDependents instances rows
are_dependents instances n edges rows whole long e r = record {
  within = λ j i c. subst (λ (k : ℕ). i < k) (whole ∙ sym long) (e.right j i (r.leads j i c)).0;
  right = λ j i c. (e.right j i (r.leads j i c)).1;
  all = λ j i d. r.all j i (e.all j i (subst (λ (k : ℕ). i < k) (sym whole) (depends_within instances i j d)) d);
}
