-- What is kept of a manifest.
use Rattle.std.proofs.Common.{◌≡◌, ℕ, Bool, true, false, List, [], ◌∷◌, ◌++◌, Option, Some, None, refl, sym, ap, ◌∙◌, subst, inl, inr}
use Rattle.std.specs.Prelude.{◌⊎◌, ◌||◌, not}
use Rattle.std.specs.List.{Contains}
use Rattle.std.specs.Str.{bytes_eq}
use Rattle.std.proofs.lemmas.Slice.Eq.{bytes_eq-Decides}
use Rattle.std.proofs.lemmas.List.Elements.{Contains-append_left, Contains-append_right, Contains-append_cases}
use Rattle.std.proofs.lemmas.Map.Views.{Contains-from_any}
use Rattle.pn_text.proofs.Bools.{true_false, not_true, or_right}
use Rattle.pn_text.proofs.Members.{none_in, in_one, in_cons, here, from_map, to_map}
use Rattle.pn_manifest.specs.declared.peers.Peer.{Peer}
use Rattle.pn_manifest.specs.Pairs.{Pair, names}
use Rattle.pn_manifest.specs.Said.{Said}
use Rattle.pn_walk.proofs.FilterLemmas.{in_filter, to_filter}
use Rattle.pn_plain.specs.Seen.{Owner, is_among, but, peers_but, own_names, dev_of, one_map, dependency_names, dropped, no_hook, no_rules, IsSeen}
use Rattle.pn_plain.specs.SeenLaws.{IsIn, IsDependency, SeenWords, IsOnce, AddsNone, HasNoOwn, SeenLaw}
use Rattle.pn_plain.specs.Told.{Told, IsOverridden, IsToldSeen}
use Rattle.pn_plain.proofs.PlainLemmas.{one_seen, told_rules}

-- names among others
among : (all : List (List ℕ)) (n : List ℕ) → is_among all n ≡ true → Contains all n
among all n h = Contains-from_any {eq = bytes_eq} (λ x y e. (bytes_eq-Decides x y).0 e) n all h

not_among : (all : List (List ℕ)) (n : List ℕ) → (Contains all n → ⊥) → not (is_among all n) ≡ true
not_among all n h = elim (is_among all n) as (λ b. is_among all n ≡ b → not b ≡ true) [
  | true ↦ λ e. absurd (h (among all n e))
  | false ↦ λ e. refl
] refl

among_from : (all : List (List ℕ)) (n : List ℕ) → Contains all n → is_among all n ≡ true
among_from [] n h = absurd (none_in n h)
among_from (x ∷ xs) n h = elim (in_cons x xs n h) [
  | inl same ↦ first_is (bytes_eq n x) (is_among xs n) ((bytes_eq-Decides n x).1 (sym same))
  | inr more ↦ or_right (bytes_eq n x) (is_among xs n) (among_from xs n more)
]
  where
    first_is : (a b : Bool) → a ≡ true → (a || b) ≡ true
    first_is true b e = refl
    first_is false b e = cc

none_among : (all : List (List ℕ)) (n : List ℕ) → not (is_among all n) ≡ true → Contains all n → ⊥
none_among all n h c = true_false (is_among all n) (among_from all n c) (not_true (is_among all n) h)

name_of : Pair → List ℕ
name_of e = e.0

pub in_names : (pairs : List Pair) (n : List ℕ) → Contains (names pairs) n → IsIn pairs n
in_names pairs n h = let m = from_map (λ (e : Pair). e.0) pairs n h in (m.0.1, subst (λ (x : List ℕ). Contains pairs (x, m.0.1)) m.2 m.1)

names_in : (pairs : List Pair) (n : List ℕ) → IsIn pairs n → Contains (names pairs) n
names_in pairs n h = to_map (λ (e : Pair). e.0) pairs (n, h.0) h.1

-- what is left of a map, and of peers
from_but : (all : List (List ℕ)) (pairs : List Pair) (n t : List ℕ) → Contains (but all pairs) (n, t) → Contains pairs (n, t) × (Contains all n → ⊥)
from_but all pairs n t h =
    let k = in_filter (λ (e : Pair). not (is_among all e.0)) pairs (n, t) h in
    (k.0, none_among all n k.1)

to_but : (all : List (List ℕ)) (pairs : List Pair) (n t : List ℕ) → Contains pairs (n, t) → (Contains all n → ⊥) → Contains (but all pairs) (n, t)
to_but all pairs n t h k = to_filter (λ (e : Pair). not (is_among all e.0)) pairs (n, t) h (not_among all n k)

in_but : (all : List (List ℕ)) (pairs : List Pair) (n : List ℕ) → IsIn (but all pairs) n → IsIn pairs n
in_but all pairs n h = (h.0, (from_but all pairs n h.0 h.1).0)

not_in_but : (all : List (List ℕ)) (pairs : List Pair) (n : List ℕ) → IsIn (but all pairs) n → Contains all n → ⊥
not_in_but all pairs n h = (from_but all pairs n h.0 h.1).1

from_peers : (all : List (List ℕ)) (peers : List Peer) (p : Peer) → Contains (peers_but all peers) p → Contains peers p × (Contains all p.name → ⊥)
from_peers all peers p h =
    let k = in_filter (λ (q : Peer). not (is_among all q.name)) peers p h in
    (k.0, none_among all p.name k.1)

to_peers : (all : List (List ℕ)) (peers : List Peer) (p : Peer) → Contains peers p → (Contains all p.name → ⊥) → Contains (peers_but all peers) p
to_peers all peers p h k = to_filter (λ (q : Peer). not (is_among all q.name)) peers p h (not_among all p.name k)

-- the manifest's own name
own_is : (o : Option (List ℕ)) (n : List ℕ) → Contains (own_names o) n → o ≡ Some n
own_is None n h = absurd (none_in n h)
own_is (Some name) n h = ap Some (in_one name n h)

is_own : (o : Option (List ℕ)) (n : List ℕ) → o ≡ Some n → Contains (own_names o) n
is_own o n e = subst (λ (x : Option (List ℕ)). Contains (own_names x) n) (sym e) (here n [])

-- the names of dependencies, each in one map
dependency : (owner : Owner) (m : Said) (n : List ℕ) → Contains (dependency_names (one_map owner m)) n → IsDependency owner m n
dependency owner m n h =
    let o = one_map owner m in
    elim (Contains-append_cases (names o.dependencies) (names o.dev ++ names o.optional) n h) [
      | inl a ↦ inr (inl (in_but (names m.optional) m.dependencies n (in_names o.dependencies n a)))
      | inr b ↦ elim (Contains-append_cases (names o.dev) (names o.optional) n b) [
        | inl c ↦ inr (inr (in_but (names m.optional ++ names m.dependencies) (dev_of owner m) n (in_names o.dev n c)))
        | inr d ↦ inl (in_names m.optional n d)
      ]
    ]

-- a name is among these or isn't
is_or_not : (all : List (List ℕ)) (n : List ℕ) → Contains all n ⊎ (Contains all n → ⊥)
is_or_not all n = elim (is_among all n) as (λ b. is_among all n ≡ b → Contains all n ⊎ (Contains all n → ⊥)) [
  | true ↦ λ e. inl (among all n e)
  | false ↦ λ e. inr (λ c. true_false (is_among all n) (among_from all n c) e)
] refl

as_optional : (owner : Owner) (m : Said) (n : List ℕ) → IsIn m.optional n → Contains (dependency_names (one_map owner m)) n
as_optional owner m n a =
    let o = one_map owner m in
    Contains-append_right (names o.dependencies) (names o.dev ++ names o.optional) n (Contains-append_right (names o.dev) (names m.optional) n (names_in m.optional n a))

as_regular : (owner : Owner) (m : Said) (n : List ℕ) → IsIn m.dependencies n → Contains (dependency_names (one_map owner m)) n
as_regular owner m n a =
    let o = one_map owner m in
    elim (is_or_not (names m.optional) n) [
      | inl b ↦ as_optional owner m n (in_names m.optional n b)
      | inr c ↦ Contains-append_left (names o.dependencies) (names o.dev ++ names o.optional) n (names_in o.dependencies n (a.0, to_but (names m.optional) m.dependencies n a.0 a.1 c))
    ]

as_dev : (owner : Owner) (m : Said) (n : List ℕ) → IsIn (dev_of owner m) n → Contains (dependency_names (one_map owner m)) n
as_dev owner m n a =
    let o = one_map owner m in
    elim (is_or_not (names m.optional ++ names m.dependencies) n) [
      | inl b ↦ elim (Contains-append_cases (names m.optional) (names m.dependencies) n b) [
        | inl c ↦ as_optional owner m n (in_names m.optional n c)
        | inr d ↦ as_regular owner m n (in_names m.dependencies n d)
      ]
      | inr c ↦ Contains-append_right (names o.dependencies) (names o.dev ++ names o.optional) n (Contains-append_left (names o.dev) (names o.optional) n
          (names_in o.dev n (a.0, to_but (names m.optional ++ names m.dependencies) (dev_of owner m) n a.0 a.1 c)))
    ]

is_dependency : (owner : Owner) (m : Said) (n : List ℕ) → IsDependency owner m n → Contains (dependency_names (one_map owner m)) n
is_dependency owner m n (inl a) = as_optional owner m n a
is_dependency owner m n (inr (inl a)) = as_regular owner m n a
is_dependency owner m n (inr (inr a)) = as_dev owner m n a

-- of maps in which a name stands once
one_map_once : (owner : Owner) (m : Said) → IsOnce (one_map owner m)
one_map_once owner m = record {
  dependencies = λ n a b. not_in_but (names m.optional) m.dependencies n b (names_in m.optional n a);
  dev = λ n a b. not_in_but (names m.optional ++ names m.dependencies) (dev_of owner m) n b (Contains-append_left (names m.optional) (names m.dependencies) n (names_in m.optional n a));
  either = λ n a b. not_in_but (names m.optional ++ names m.dependencies) (dev_of owner m) n b
      (Contains-append_right (names m.optional) (names m.dependencies) n (names_in m.dependencies n (in_but (names m.optional) m.dependencies n a)));
}

fewer_once : (m s : Said) → AddsNone m s → IsOnce m → IsOnce s
fewer_once m s f h = record {
  dependencies = λ n a b. h.dependencies n (f.optional n a) (f.dependencies n b);
  dev = λ n a b. h.dev n (f.optional n a) (f.dev n b);
  either = λ n a b. h.either n (f.dependencies n a) (f.dev n b);
}

dropped_fewer : (before : List (List ℕ)) (m : Said) → AddsNone m (dropped before m)
dropped_fewer before m = record {
  optional = λ n a. in_but (own_names m.name) m.optional n a;
  dependencies = λ n a. in_but (own_names m.name) m.dependencies n a;
  dev = λ n a. in_but (own_names m.name) m.dev n a;
}

dropped_own : (before : List (List ℕ)) (m : Said) → HasNoOwn (dropped before m)
dropped_own before m = record {
  optional = λ n e a. not_in_but (own_names m.name) m.optional n a (is_own m.name n e);
  dependencies = λ n e a. not_in_but (own_names m.name) m.dependencies n a (is_own m.name n e);
  dev = λ n e a. not_in_but (own_names m.name) m.dev n a (is_own m.name n e);
  peers = λ p e a. (from_peers (own_names m.name ++ before) m.peers p a).1 (Contains-append_left (own_names m.name) before p.name (is_own m.name p.name e));
}

seen_once : (t : Told) (owner : Owner) (m s : Said) → ((x y : Said) → IsOverridden t x y → AddsNone x y) → IsToldSeen t owner m s → IsOnce s
seen_once t owner m s f h =
    let x = t.hook owner m in
    subst IsOnce (sym h.is)
    (fewer_once h.overridden (dropped (dependency_names (one_map owner x)) h.overridden) (dropped_fewer (dependency_names (one_map owner x)) h.overridden)
    (fewer_once (one_map owner x) h.overridden (f (one_map owner x) h.overridden h.by_rules) (one_map_once owner x)))

seen_own : (t : Told) (owner : Owner) (m s : Said) → IsToldSeen t owner m s → HasNoOwn s
seen_own t owner m s h = subst HasNoOwn (sym h.is) (dropped_own (dependency_names (one_map owner (t.hook owner m))) h.overridden)

seen_peers : (t : Told) (owner : Owner) (m s : Said) (p : Peer) → IsToldSeen t owner m s → Contains s.peers p → IsDependency owner (t.hook owner m) p.name → ⊥
seen_peers t owner m s p h c d =
    let x = t.hook owner m in
    let before = dependency_names (one_map owner x) in
    (from_peers (own_names h.overridden.name ++ before) h.overridden.peers p (subst (λ (z : Said). Contains z.peers p) h.is c)).1
    (Contains-append_right (own_names h.overridden.name) before p.name (is_dependency owner x p.name d))

words : (owner : Owner) (m : Said) → SeenWords owner m (dropped (dependency_names (one_map owner m)) (one_map owner m))
words owner m = record {
  optional = λ n t. (
    λ h. let k = from_but (own_names m.name) m.optional n t h in (k.0, λ e. k.1 (is_own m.name n e)),
    λ k. to_but (own_names m.name) m.optional n t k.0 (λ c. k.1 (own_is m.name n c)),
  );
  dependencies = λ n t. (
    λ h. let k = from_but (own_names m.name) (one_map owner m).dependencies n t h in
        let j = from_but (names m.optional) m.dependencies n t k.0 in
        (j.0, λ o. j.1 (names_in m.optional n o), λ e. k.1 (is_own m.name n e)),
    λ k. to_but (own_names m.name) (one_map owner m).dependencies n t (to_but (names m.optional) m.dependencies n t k.0 (λ c. k.1 (in_names m.optional n c))) (λ c. k.2 (own_is m.name n c)),
  );
  dev = λ n t. (
    λ h. let k = from_but (own_names m.name) (one_map owner m).dev n t h in
        let j = from_but (names m.optional ++ names m.dependencies) (dev_of owner m) n t k.0 in (
          j.0,
          λ o. j.1 (Contains-append_left (names m.optional) (names m.dependencies) n (names_in m.optional n o)),
          λ d. j.1 (Contains-append_right (names m.optional) (names m.dependencies) n (names_in m.dependencies n d)),
          λ e. k.1 (is_own m.name n e),
        ),
    λ k. to_but (own_names m.name) (one_map owner m).dev n t (to_but (names m.optional ++ names m.dependencies) (dev_of owner m) n t k.0
        (λ c. elim (Contains-append_cases (names m.optional) (names m.dependencies) n c) [ inl a ↦ k.1 (in_names m.optional n a) | inr b ↦ k.2 (in_names m.dependencies n b) ])) (λ c. k.3 (own_is m.name n c)),
  );
  peers = λ p. (
    λ h. let k = from_peers (own_names m.name ++ dependency_names (one_map owner m)) m.peers p h in (
      k.0,
      λ e. k.1 (Contains-append_left (own_names m.name) (dependency_names (one_map owner m)) p.name (is_own m.name p.name e)),
      λ d. k.1 (Contains-append_right (own_names m.name) (dependency_names (one_map owner m)) p.name (is_dependency owner m p.name d)),
    ),
    λ k. to_peers (own_names m.name ++ dependency_names (one_map owner m)) m.peers p k.0
        (λ c. elim (Contains-append_cases (own_names m.name) (dependency_names (one_map owner m)) p.name c) [ inl a ↦ k.1 (own_is m.name p.name a) | inr b ↦ k.2 (dependency owner m p.name b) ]),
  );
}

pub seen_words : (owner : Owner) (m s : Said) → IsSeen no_hook no_rules owner m s → SeenWords owner m s
seen_words owner m s h =
    subst (λ (x : Said). SeenWords owner m x) (sym (h.is ∙ ap (λ (x : Said). dropped (dependency_names (one_map owner m)) x) h.by_rules)) (words owner m)

pub seen_law : (t : Told) → SeenLaw t
seen_law t = record {
  one = λ o m a b x y. one_seen t.hook (IsOverridden t) (told_rules t) o m a b x y;
  once = λ o m s f h. seen_once t o m s f h;
  own = λ o m s h. seen_own t o m s h;
  peers = λ o m s p h c d. seen_peers t o m s p h c d;
  plain = λ o m s h. seen_words o m s h;
}
