-- Links that lead to what is there.
use Rattle.std.proofs.Common.{◌≡◌, ◌<◌, ℕ, List, [], ◌∷◌, Bool, true, false, length, get_or, inl, inr, sym, ap, ◌∙◌, subst, arith}
use Rattle.std.specs.Prelude.{nat_lt}
use Rattle.std.specs.List.{Contains, list_all}
use Rattle.std.proofs.lemmas.Bool.{ltb-true}
use Rattle.pn_text.proofs.Bools.{and_left, and_right}
use Rattle.pn_text.proofs.Members.{in_cons, none_in}
use Rattle.std.proofs.lemmas.List.Elements.{Contains-get_or}
use Rattle.pn_outer.specs.Instances.{AreInRange, ArePeersThere, Goal, Instance, IsThere, Link, are_there, goal_there, is_there, to_instance, to_project}
use Rattle.pn_outer.proofs.EdgeLemmas.{depends_within, peers_within}
use Rattle.pn_outer.proofs.FoundLemmas.{deps_there, peers_there}

passes : {X : Type 0} (f : X → Bool) (xs : List X) (x : X) → list_all f xs ≡ true → Contains xs x → f x ≡ true
passes f [] x h c = absurd (none_in x c)
passes f (y ∷ ys) x h c = elim (in_cons y ys x c) [
  | inl e ↦ ap f (sym e) ∙ and_left (f y) (list_all f ys) h
  | inr r ↦ passes f ys x (and_right (f y) (list_all f ys) h) r
]

there : (n q : ℕ) (g : Goal) → goal_there n q g ≡ true → IsThere n q g
there n q (to_project p) h = ltb-true p.0 q h
there n q (to_instance j) h = ltb-true j.0 n h

one_there : (instances : List Instance) (q i : ℕ) (d : Instance) → list_all (are_there (length instances) q) instances ≡ true → i < length instances → are_there (length instances) q (get_or instances i d) ≡ true
one_there instances q i d h lt = passes (are_there (length instances) q) instances (get_or instances i d) h (Contains-get_or instances i d lt)

module _ (instances : List Instance) (q : ℕ) (h : list_all (are_there (length instances) q) instances ≡ true) where
  pub in_range : (d : Instance) → AreInRange instances
  in_range d i j l =
      let lt = depends_within instances i j l in
      let n = length instances in
      let x = get_or instances i d in
      let all = and_left (list_all (is_there n q) x.deps) (list_all (is_there n q) x.peers) (one_there instances q i d h lt) in
      let one = passes (is_there n q) x.deps l.link all (subst (λ (ls : List Link). Contains ls l.link) (deps_there instances i d lt) l.has) in
      there n q (to_instance (record { 0 = j })) (ap (goal_there n q) (sym l.to) ∙ one)

  pub peers_in : (d : Instance) → ArePeersThere q instances
  peers_in d i pair c =
      let lt = peers_within instances i pair c in
      let n = length instances in
      let x = get_or instances i d in
      let all = and_right (list_all (is_there n q) x.deps) (list_all (is_there n q) x.peers) (one_there instances q i d h lt) in
      there n q pair.to (passes (is_there n q) x.peers pair all (subst (λ (ls : List Link). Contains ls pair) (peers_there instances i d lt) c))

-- where there is an instance, there is one to read with
some : (instances : List Instance) (i : ℕ) → i < length instances → Instance
some [] i h = absurd (omega (arith, h))
some (x ∷ xs) i h = x

pub all_in : (instances : List Instance) (q : ℕ) → list_all (are_there (length instances) q) instances ≡ true → AreInRange instances
all_in instances q h i j l = in_range instances q h (some instances i (depends_within instances i j l)) i j l

pub peers_all : (instances : List Instance) (q : ℕ) → list_all (are_there (length instances) q) instances ≡ true → ArePeersThere q instances
peers_all instances q h i pair c = peers_in instances q h (some instances i (peers_within instances i pair c)) i pair c
