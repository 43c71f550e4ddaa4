-- What nodes ask for, one after the other.
use Rattle.std.proofs.Common.{◌≡◌, ◌<◌, ◌+◌, ℕ, zero, suc, List, [], ◌∷◌, ◌++◌, Bool, true, false, Some, length, map, refl, sym, ap, ◌∙◌, subst, arith, inl, inr}
use Rattle.std.specs.Prelude.{cond, slice_get, ◌==◌}
use Rattle.std.specs.List.{All, Contains}
use Rattle.std.specs.List.Sorted.{IsStrictlySortedBy}
use Rattle.std.proofs.lemmas.Bool.{eq-eqb}
use Rattle.std.proofs.lemmas.List.{append-nil}
use Rattle.std.proofs.lemmas.Option.{none-some, same_Some}
use Rattle.std.proofs.lemmas.List.Elements.{All-head, All-tail, Contains-append_cases}
use Rattle.pn_text.proofs.Members.{none_in, from_map}
use Rattle.pn_manifest.specs.Said.{AreRising}
use Rattle.pn_walk.specs.declared.node.Node.{Node}
use Rattle.pn_walk.specs.declared.wish.Place.{Place}
use Rattle.pn_walk.specs.declared.wish.Place.TheVariants.{Project as at_project, Package as at_package}
use Rattle.pn_walk.specs.declared.wish.Wish.{Wish}
use Rattle.pn_walk.specs.Starts.{turns_from}
use Rattle.pn_walk.specs.Walks.{Turn, turn_by, turns_of, same_place, asked_by}
use Rattle.pn_walk.proofs.GraphLemmas.{both_asked}

-- the aliases of wishes
abbrev pub aliases_of : List Wish → List (List ℕ)
aliases_of wishes = map (λ (w : Wish). w.alias) wishes

abbrev pub alias_in : Turn → List ℕ
alias_in e = e.wish.alias

-- the edges of the nodes from a place on, by what each asks for
abbrev pub turns_at : (ℕ → Place) → ℕ → List (List Wish) → List Turn
turns_at at j [] = []
turns_at at j (ws ∷ rest) = map (turn_by (at j)) ws ++ turns_at at (suc j) rest

pub from_projects : (j : ℕ) (lists : List (List Wish)) → turns_from j lists ≡ turns_at at_project j lists
from_projects j [] = refl
from_projects j (ws ∷ rest) = ap (λ (l : List Turn). map (turn_by (at_project j)) ws ++ l) (from_projects (suc j) rest)

abbrev pub wishes_of : Node → List Wish
wishes_of n = n.wishes

pub from_packages : (j : ℕ) (ns : List Node) → turns_of j ns ≡ turns_at at_package j (map wishes_of ns)
from_packages j [] = refl
from_packages j (n ∷ ns) = ap (λ (l : List Turn). map (turn_by (at_package j)) n.wishes ++ l) (from_packages (suc j) ns)

own_same : (who p : Place) → same_place p who ≡ true → (ws : List Wish) → asked_by who (map (turn_by p) ws) ≡ map (turn_by p) ws
own_same who p h [] = refl
own_same who p h (w ∷ ws) =
    ap (λ (b : Bool). cond b (turn_by p w ∷ asked_by who (map (turn_by p) ws)) (asked_by who (map (turn_by p) ws))) h
    ∙ ap (λ (l : List Turn). turn_by p w ∷ l) (own_same who p h ws)

own_other : (who p : Place) → same_place p who ≡ false → (ws : List Wish) → asked_by who (map (turn_by p) ws) ≡ []
own_other who p h [] = refl
own_other who p h (w ∷ ws) =
    ap (λ (b : Bool). cond b (turn_by p w ∷ asked_by who (map (turn_by p) ws)) (asked_by who (map (turn_by p) ws))) h
    ∙ own_other who p h ws

passed : (who : Place) (at : ℕ → Place) (j : ℕ) (ws : List Wish) (rest : List (List Wish)) → same_place (at j) who ≡ false → asked_by who (turns_at at j (ws ∷ rest)) ≡ asked_by who (turns_at at (suc j) rest)
passed who at j ws rest h = both_asked who (map (turn_by (at j)) ws) (turns_at at (suc j) rest) ∙ ap (λ (l : List Turn). l ++ asked_by who (turns_at at (suc j) rest)) (own_other who (at j) h ws)

-- nodes of another kind
pub other_kind : (who : Place) (at : ℕ → Place) → ((j : ℕ) → same_place (at j) who ≡ false) → (j : ℕ) (lists : List (List Wish)) → asked_by who (turns_at at j lists) ≡ []
other_kind who at h j [] = refl
other_kind who at h j (ws ∷ rest) = passed who at j ws rest (h j) ∙ other_kind who at h (suc j) rest

unequal : (j i : ℕ) → i < j → (j == i) ≡ false
unequal j i h = grind arith

beyond : (at : ℕ → Place) → ((i j : ℕ) → same_place (at i) (at j) ≡ (i == j)) → (i j : ℕ) (lists : List (List Wish)) → i < j → asked_by (at i) (turns_at at j lists) ≡ []
beyond at same i j [] h = refl
beyond at same i j (ws ∷ rest) h = passed (at i) at j ws rest (same j i ∙ unequal j i h) ∙ beyond at same i (suc j) rest (omega arith)

first_asks : (at : ℕ → Place) → ((i j : ℕ) → same_place (at i) (at j) ≡ (i == j)) → (i j : ℕ) (ws : List Wish) (rest : List (List Wish)) → (j == i) ≡ true → i < suc j → asked_by (at i) (turns_at at j (ws ∷ rest)) ≡ map (turn_by (at j)) ws
first_asks at same i j ws rest is lt =
    both_asked (at i) (map (turn_by (at j)) ws) (turns_at at (suc j) rest)
    ∙ ap (λ (l : List Turn). l ++ asked_by (at i) (turns_at at (suc j) rest)) (own_same (at i) (at j) (same j i ∙ is) ws)
    ∙ ap (λ (l : List Turn). map (turn_by (at j)) ws ++ l) (beyond at same i (suc j) rest lt)
    ∙ append-nil (map (turn_by (at j)) ws)

number_is : (j i : ℕ) → (j == i) ≡ true → i < suc j
number_is j i h = grind arith

apart : (j i k : ℕ) → i ≡ j + suc k → (j == i) ≡ false
apart j i k e = grind arith

-- what the node at a place asks for
pub asked_there : (at : ℕ → Place) → ((i j : ℕ) → same_place (at i) (at j) ≡ (i == j)) → (i j k : ℕ) (lists : List (List Wish)) (ws : List Wish) → i ≡ j + k → slice_get lists k ≡ Some ws → asked_by (at i) (turns_at at j lists) ≡ map (turn_by (at i)) ws
asked_there at same i j k [] ws is h = absurd (none-some ws h)
asked_there at same i j zero (us ∷ rest) ws is h =
    let here : j ≡ i = omega (arith, is) in
    first_asks at same i j us rest (eq-eqb j i here) (omega (arith, here)) ∙ ap (λ (n : ℕ). map (turn_by (at n)) us) here ∙ ap (map (turn_by (at i))) (same_Some us ws h)
asked_there at same i j (suc k) (us ∷ rest) ws is h = passed (at i) at j us rest (same j i ∙ apart j i k is) ∙ asked_there at same i (suc j) k rest ws (omega (arith, is)) h

pub turn_aliases : (p : Place) (ws : List Wish) → map alias_in (map (turn_by p) ws) ≡ aliases_of ws
turn_aliases p [] = refl
turn_aliases p (w ∷ ws) = ap (λ (l : List (List ℕ)). w.alias ∷ l) (turn_aliases p ws)

none_rise : AreRising []
unfolding IsStrictlySortedBy
none_rise = tt

-- Each node asks in byte order of aliases.
pub asked_rise : (at : ℕ → Place) → ((i j : ℕ) → same_place (at i) (at j) ≡ (i == j)) → (i j : ℕ) (lists : List (List Wish)) → All (λ ws. AreRising (aliases_of ws)) lists → AreRising (map alias_in (asked_by (at i) (turns_at at j lists)))
asked_rise at same i j [] h = none_rise
asked_rise at same i j (ws ∷ rest) h = elim (j == i) as (λ b. (j == i) ≡ b → AreRising (map alias_in (asked_by (at i) (turns_at at j (ws ∷ rest))))) [
  | true ↦ λ is. subst AreRising (sym (ap (map alias_in) (first_asks at same i j ws rest is (number_is j i is)) ∙ turn_aliases (at j) ws)) (All-head (λ us. AreRising (aliases_of us)) ws rest h)
  | false ↦ λ is. subst AreRising (sym (ap (map alias_in) (passed (at i) at j ws rest (same j i ∙ is)))) (asked_rise at same i (suc j) rest (All-tail (λ us. AreRising (aliases_of us)) ws rest h))
] refl

-- Who asks is one of the nodes.
pub record IsNodeAt (at : ℕ → Place) (first count : ℕ) (who : Place) : Type 0 where
  pub place : ℕ
  pub is : who ≡ at place
  pub within : place < first + count

pub asker_within : (at : ℕ → Place) (j : ℕ) (lists : List (List Wish)) (e : Turn) → Contains (turns_at at j lists) e → IsNodeAt at j (length lists) e.who
asker_within at j [] e c = absurd (none_in e c)
asker_within at j (ws ∷ rest) e c = elim (Contains-append_cases (map (turn_by (at j)) ws) (turns_at at (suc j) rest) e c) [
  | inl h ↦
      let w = from_map (turn_by (at j)) ws e h in
      record { place = j; is = ap (λ (x : Turn). x.who) (sym w.2); within = more j (length rest) }
  | inr h ↦
      let r = asker_within at (suc j) rest e h in
      record { place = r.place; is = r.is; within = later r.place j (length rest) r.within }
]
  where
    more : (j n : ℕ) → j < j + suc n
    more j n = omega arith

    later : (p j n : ℕ) → p < suc j + n → p < j + suc n
    later p j n h = omega (arith, h)
