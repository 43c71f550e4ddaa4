-- A walk comes to an end, since there is room for so many packages and no more.
use Rattle.std.proofs.Common.{◌≡◌, ℕ, zero, suc, ◌+◌, Bool, List, [], ◌∷◌, ◌++◌, length, map, Option, Some, None, refl, sym, ap, ◌∙◌, subst, arith, inl, inr, length-append}
use Rattle.std.specs.Prelude.{◌⊎◌, ◌<◌}
use Rattle.std.proofs.lemmas.List.{append-nil}
use Rattle.pn_text.specs.declared.limits.TheConstants.{PACKAGE_LIMIT}
use Rattle.pn_walk.specs.declared.node.Node.{Node}
use Rattle.pn_walk.specs.declared.wish.Aim.{Aim}
use Rattle.pn_walk.specs.declared.wish.Aim.TheVariants.{Project as to_project, Package as to_package}
use Rattle.pn_walk.specs.declared.wish.Place.{Place}
use Rattle.pn_walk.specs.declared.wish.Place.TheVariants.{Project as at_project}
use Rattle.pn_walk.specs.Wants.{Id}
use Rattle.pn_walk.specs.Walks.{Turn, Link, State, turn_by, after, Lands, LandsAt, Moves, Walk, ends, goes, place_of, turns_of}
use Rattle.pn_plain.specs.Aims.{Leads}
use Rattle.pn_plain.specs.EdgeLaws.{IsReadable, IsTotal, IsRefused, AnswerLaw}
use Rattle.pn_plain.specs.Given.{Given}
use Rattle.pn_plain.specs.Plains.{Project, given_by, AreStarts, no_more, one_more}
use Rattle.pn_plain.specs.Seen.{a_project, one_map, dependency_names, dropped, counted, wishes_of}
use Rattle.pn_plain.specs.Told.{Told, IsToldShelf, IsToldNode, IsOverridden}
use Rattle.pn_plain.proofs.EdgeLemmas.{edge_law}

-- what an edge adds: nothing, or one package where there is room
data Adds (met added : List Node) : Type 0 where
  nothing : added ≡ [] → Adds met added
  one_new : (new : Node) → added ≡ new ∷ [] → length met < PACKAGE_LIMIT → Adds met added

adds_at : (node : Node → Type 0) (met : List Node) (i : Id) (o : Option ℕ) (to : Option Place) (added : List Node) → LandsAt node met i o to added → Adds met added
adds_at node met i (Some k) to added h = nothing h.only
adds_at node met i None to added h = one_new h.new h.only h.room

adds : (node : Node → Type 0) (met : List Node) (aim : Option Aim) (to : Option Place) (added : List Node) → Lands node met aim to added → Adds met added
adds node met None to added h = nothing h.only
adds node met (Some (to_project q)) to added h = nothing h.only
adds node met (Some (to_package i)) to added h = adds_at node met i (place_of i met) to added h

-- the first edge that waits is refused
record Stops (t : Told) (g : Given) (s : State) : Type 0 where
  turn : Turn
  rest : List Turn
  next : s.todo ≡ turn ∷ rest
  refused : IsRefused t g s.met turn

record Ends (t : Told) (g : Given) (s : State) : Type 0 where
  end : State
  walk : Walk (Leads (IsToldShelf t) g) (IsToldNode t) end s
  how : (end.todo ≡ []) ⊎ Stops t g end

abbrev state : List Turn → List Node → List Link → State
state todo met links = record { todo = todo; met = met; links = links }

-- where there is room for n packages more
abbrev Goes : Told → Given → ℕ → Type 0
Goes t g n = (todo : List Turn) (met : List Node) (links : List Link) → length met + n ≡ PACKAGE_LIMIT → Ends t g (state todo met links)

onwards : (t : Told) (g : Given) (s m : State) → Moves (Leads (IsToldShelf t) g) (IsToldNode t) s m → Ends t g m → Ends t g s
onwards t g s m move e = record { end = e.end; walk = goes s m move e.walk; how = e.how }

no_room : (k n : ℕ) → k < PACKAGE_LIMIT → k + n ≡ PACKAGE_LIMIT → n ≡ 0 → ⊥
no_room k n h e z = absurd (omega (arith, h, e, z))

more_room : (met : List Node) (new : Node) (n m : ℕ) → length met + n ≡ PACKAGE_LIMIT → n ≡ suc m → length (met ++ new ∷ []) + m ≡ PACKAGE_LIMIT
more_room met new n m e i = let l : length (met ++ new ∷ []) ≡ length met + 1 = length-append met (new ∷ []) in omega (arith, l, e, i)

-- one less, or none
data Less (n : ℕ) : Type 0 where
  none_left : n ≡ 0 → Less n
  one_less : (m : ℕ) → n ≡ suc m → Less n

less : (n : ℕ) → Less n
less zero = none_left refl
less (suc m) = one_less m refl

go_on : (t : Told) → IsTotal t → ((text : List ℕ) → IsReadable text) → (g : Given) (n : ℕ) → ((m : ℕ) → n ≡ suc m → Goes t g m) → Goes t g n
go_on t total can g n later [] met links e = record { end = state [] met links; walk = ends (state [] met links) refl; how = inl refl }
go_on t total can g n later (turn ∷ rest) met links e = elim (edge_law t total g met turn (can turn.wish.specifier)) [
  | inr refused ↦ record {
    end = state (turn ∷ rest) met links;
    walk = ends (state (turn ∷ rest) met links) refl;
    how = inr (record { turn = turn; rest = rest; next = refl; refused = refused });
  }
  | inl taken ↦
      onwards t g (state (turn ∷ rest) met links) (after rest met links turn taken.to taken.added)
      (record { turn = turn; rest = rest; next = refl; to = taken.to; added = taken.added; takes = taken.takes; is = refl })
      (elim (adds (IsToldNode t) met taken.takes.aim taken.to taken.added taken.takes.lands) [
        | nothing same ↦ subst (Ends t g)
            (ap (λ (todo : List Turn). state todo met (links ++ record { turn = turn; to = taken.to } ∷ [])) (sym (append-nil rest))
            ∙ ap (λ (m : List Node). state (rest ++ []) m (links ++ record { turn = turn; to = taken.to } ∷ [])) (sym (append-nil met))
            ∙ ap (after rest met links turn taken.to) (sym same))
            (go_on t total can g n later rest met (links ++ record { turn = turn; to = taken.to } ∷ []) e)
        | one_new new same room ↦ elim (less n) [
          | none_left z ↦ absurd (no_room (length met) n room e z)
          | one_less m i ↦ subst (Ends t g) (ap (after rest met links turn taken.to) (sym same))
              (later m i (rest ++ turns_of (length met) (new ∷ [])) (met ++ new ∷ []) (links ++ record { turn = turn; to = taken.to } ∷ []) (more_room met new n m e i))
        ]
      ])
]

go : (t : Told) → IsTotal t → ((text : List ℕ) → IsReadable text) → (g : Given) (n : ℕ) → Goes t g n
go t total can g zero = go_on t total can g zero (λ m e. absurd (omega (arith, e)))
go t total can g (suc k) = go_on t total can g (suc k) (λ m e. let same : k ≡ m = omega (arith, e) in subst (Goes t g) same (go t total can g k))

-- what the projects ask for
record HasStarts (t : Told) (auto_peers : Bool) (k : ℕ) (ps : List Project) : Type 0 where
  own : List Turn
  are : AreStarts t.hook (IsOverridden t) auto_peers k ps own

starts : (t : Told) → IsTotal t → (auto_peers : Bool) (k : ℕ) (ps : List Project) → HasStarts t auto_peers k ps
starts t total auto k [] = record { own = []; are = no_more k }
starts t total auto k (p ∷ ps) =
    let m = one_map a_project (t.hook a_project p.said) in
    let over = total m in
    let face = dropped (dependency_names m) over.0 in
    let rest = starts t total auto (suc k) ps in
    record {
      own = map (turn_by (at_project k)) (wishes_of (counted auto face)) ++ rest.own;
      are = one_more k p ps face rest.own (record { overridden = over.0; by_rules = over.1; is = refl }) rest.are;
    }

pub answer_law : (t : Told) → AnswerLaw t
answer_law t total can i =
    let own = starts t total i.auto_peers 0 i.projects in
    let e = go t total can (given_by i) PACKAGE_LIMIT own.own [] [] refl in
    elim e.how [
      | inl none ↦ inl (record { state = e.end; plain = record { own = own.own; starts = own.are; walked = record { walk = e.walk; none = none } } })
      | inr s ↦ inr (record {
        state = e.end;
        cause = s.refused.cause;
        unplain = record { own = own.own; starts = own.are; stopped = record { walk = e.walk; turn = s.turn; rest = s.rest; next = s.next; why = s.refused.why } };
      })
    ]
