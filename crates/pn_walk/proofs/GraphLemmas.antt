-- A walk gives the graph.
use Rattle.std.proofs.Common.{◌≡◌, ℕ, zero, suc, ◌+◌, List, [], ◌∷◌, ◌++◌, true, false, Option, Some, None, length, map, option_map, refl, sym, ap, ◌∙◌, subst, arith, append_assoc, inl, inr, if◌then◌else◌}
use Rattle.std.specs.List.{All, Contains, slice_get}
use Rattle.std.specs.Prelude.{cond}
use Rattle.std.proofs.lemmas.Bool.{eq-eqb}
use Rattle.std.proofs.lemmas.Slice.Eq.{bytes_eq-Decides}
use Rattle.std.proofs.lemmas.List.{map-append, append-nil}
use Rattle.std.proofs.lemmas.List.Elements.{All-nil, All-cons, All-head, All-tail, All-append, All-push, All-map, All-weaker, All-contains, All-contains_itself, filter-append, Contains-append_left, Contains-append_right, Contains-append_cases, Contains-push_cases}
use Rattle.pn_text.proofs.Members.{from_map, to_map}
use Rattle.pn_walk.specs.Wants.{Id, same_id, Wish, Node, Aim, to_project, to_package, Place, at_project, at_package}
use Rattle.pn_walk.specs.Walks.{Turn, Link, State, turn_by, turns_of, Lands, LandsAt, Moves, Walk, ends, goes, start, place_of, IsWalked, IsStopped, same_place, asked_by, asking, IsOfProject, Rounds, first, again, all_of}
use Rattle.pn_walk.specs.Graphs.{id_of, turn_of, Reaches, direct, through, IsDistinct, IsAt, IsRight, IsGraph, IsAsked, by_project, by_package}
use Rattle.pn_walk.specs.WalkLaws.{AreSettled}
use Rattle.pn_walk.proofs.FilterLemmas.{in_filter, to_filter}

pub same_id-is : (a b : Id) → same_id a b ≡ true → a ≡ b
same_id-is a b h = (bytes_eq-Decides a b).0 h

-- the edges of more packages
pub turns_more : (k j : ℕ) (a b : List Node) → j ≡ k + length a → turns_of k (a ++ b) ≡ turns_of k a ++ turns_of j b
turns_more k j [] b e =
    let z : k ≡ j = omega (arith, e) in
    ap (λ (n : ℕ). turns_of n b) z
turns_more k j (n ∷ a) b e =
    ap (λ (l : List Turn). map (turn_by (at_package k)) n.wishes ++ l) (turns_more (suc k) j a b (omega (arith, e)))
    ∙ sym (append_assoc (map (turn_by (at_package k)) n.wishes) (turns_of (suc k) a) (turns_of j b))

pub get_front : (xs ys : List Id) (k : ℕ) (i : Id) → slice_get xs k ≡ Some i → slice_get (xs ++ ys) k ≡ Some i
get_front [] ys k i h = cc
get_front (x ∷ xs) ys zero i h = h
get_front (x ∷ xs) ys (suc k) i h = get_front xs ys k i h

get_last : (xs : List Node) (x : Node) → slice_get (map id_of (xs ++ x ∷ [])) (length xs) ≡ Some (id_of x)
get_last [] x = refl
get_last (y ∷ ys) x = get_last ys x

get_contains : (xs : List Id) (k : ℕ) (i : Id) → slice_get xs k ≡ Some i → Contains xs i
get_contains [] k i h = absurd (none_some i h) where
  none_some : (i : Id) → None ≡ Some i → ⊥
  none_some i e = cc e
get_contains (x ∷ xs) zero i h = (0, omega arith, one x i h) where
  one : (x i : Id) → Some x ≡ Some i → x ≡ i
  one x i e = cc
get_contains (x ∷ xs) (suc k) i h = Contains-append_right (x ∷ []) xs i (get_contains xs k i h)

pub at_more : (met added : List Node) (aim : Option Aim) (to : Option Place) → IsAt met aim to → IsAt (met ++ added) aim to
at_more met added None to h = h
at_more met added (Some (to_project q)) to h = h
at_more met added (Some (to_package i)) to h = (h.0, h.1, subst (λ (l : List Id). slice_get l h.0 ≡ Some i) (sym (map-append id_of met added)) (get_front (map id_of met) (map id_of added) h.0 i h.2))

-- the place of an id is where it is
pub place_there : (i : Id) (met : List Node) (k : ℕ) → place_of i met ≡ Some k → slice_get (map id_of met) k ≡ Some i
place_there i [] k h = cc
place_there i (n ∷ ns) k h = elim (same_id n.id i) as (λ b. same_id n.id i ≡ b → (if b then Some 0 else option_map suc (place_of i ns)) ≡ Some k → slice_get (n.id ∷ map id_of ns) k ≡ Some i) [
  | true ↦ λ is e. first n.id i (map id_of ns) k (same_id-is n.id i is) e
  | false ↦ λ is e. later n.id i (map id_of ns) k (place_of i ns) (place_there i ns) e
] refl h
  where
    first : (x i : Id) (ids : List Id) (k : ℕ) → x ≡ i → Some 0 ≡ Some k → slice_get (x ∷ ids) k ≡ Some i
    first x i ids zero is e = ap Some is
    first x i ids (suc k) is e = absurd (apart k (one e)) where
      one : {a b : ℕ} → Some a ≡ Some b → a ≡ b
      one e = cc

      apart : (k : ℕ) → 0 ≡ suc k → ⊥
      apart k e = omega (arith, e)

    later : (x i : Id) (ids : List Id) (k : ℕ) (o : Option ℕ) → ((j : ℕ) → o ≡ Some j → slice_get ids j ≡ Some i) → option_map suc o ≡ Some k → slice_get (x ∷ ids) k ≡ Some i
    later x i ids k None f e = cc
    later x i ids k (Some j) f e =
        let is : suc j ≡ k = cc in
        subst (λ (n : ℕ). slice_get (x ∷ ids) n ≡ Some i) is (f j refl)

-- an id without a place is nowhere
nowhere : (i : Id) (met : List Node) → place_of i met ≡ None → All (λ x. x ≡ i → ⊥) (map id_of met)
nowhere i [] h = All-nil (λ x. x ≡ i → ⊥)
nowhere i (n ∷ ns) h = elim (same_id n.id i) as (λ b. same_id n.id i ≡ b → (if b then Some 0 else option_map suc (place_of i ns)) ≡ None → All (λ x. x ≡ i → ⊥) (n.id ∷ map id_of ns)) [
  | true ↦ λ is e. absurd (some_none e)
  | false ↦ λ is e. All-cons (λ x. x ≡ i → ⊥) n.id (map id_of ns) (λ same. differs n.id i is same) (nowhere i ns (still (place_of i ns) e))
] refl h
  where
    some_none : {k : ℕ} → Some k ≡ None → ⊥
    some_none e = cc e

    still : (o : Option ℕ) → option_map suc o ≡ None → o ≡ None
    still None e = refl
    still (Some j) e = cc e

    differs : (a b : Id) → same_id a b ≡ false → a ≡ b → ⊥
    differs a b is e = true_false (sym ((bytes_eq-Decides a b).1 e) ∙ is) where
      true_false : true ≡ false → ⊥
      true_false e = cc e

pub not_there : (i : Id) (met : List Node) → place_of i met ≡ None → Contains (map id_of met) i → ⊥
not_there i met h c = All-contains (λ x. x ≡ i → ⊥) (map id_of met) i (nowhere i met h) c refl

distinct_more : (xs : List Id) (x : Id) → IsDistinct xs → (Contains xs x → ⊥) → IsDistinct (xs ++ x ∷ [])
distinct_more [] x h new = (new, tt)
distinct_more (y ∷ ys) x h new = (
  λ c. elim (Contains-push_cases ys x y c) [
    | inl in' ↦ h.0 in'
    | inr is ↦ new (0, omega arith, sym is)
  ],
  distinct_more ys x h.1 (λ c. new (Contains-append_right (y ∷ []) ys x c)),
)

-- a package of the list asks for that
Asked : List Node → Turn → Type 0
Asked ns e = (n : Node) × Contains ns n × Contains n.wishes e.wish

all_asked : (k : ℕ) (ns : List Node) → All (Asked ns) (turns_of k ns)
unfolding Asked
all_asked k [] = All-nil (Asked [])
all_asked k (n ∷ ns) =
    All-append (Asked (n ∷ ns)) (map (turn_by (at_package k)) n.wishes) (turns_of (suc k) ns)
    (All-map (Asked (n ∷ ns)) (turn_by (at_package k)) n.wishes
    (All-weaker (Contains n.wishes) (λ w. Asked (n ∷ ns) (turn_by (at_package k) w)) (λ w c. (n, (0, omega arith, refl), c)) n.wishes (All-contains_itself n.wishes)))
    (All-weaker (Asked ns) (Asked (n ∷ ns)) (λ e a. (a.0, Contains-append_right (n ∷ []) ns a.0 a.1, a.2)) (turns_of (suc k) ns) (all_asked (suc k) ns))

-- what a package of the list asks for is among the edges
Posed : ℕ → List Node → Node → Type 0
Posed j ns n = (w : Wish) → Contains n.wishes w → (k : ℕ) × Contains (turns_of j ns) (turn_by (at_package k) w)

all_posed : (j : ℕ) (ns : List Node) → All (Posed j ns) ns
unfolding Posed
all_posed j [] = All-nil (Posed j [])
all_posed j (n ∷ ns) =
    let here = map (turn_by (at_package j)) n.wishes in
    let rest = turns_of (suc j) ns in
    All-cons (Posed j (n ∷ ns)) n ns
    (λ w c. (j, Contains-append_left here rest (turn_by (at_package j) w) (to_map (turn_by (at_package j)) n.wishes w c)))
    (All-weaker (Posed (suc j) ns) (Posed j (n ∷ ns)) (λ m p w c. let q = p w c in (q.0, Contains-append_right here rest (turn_by (at_package q.0) w) q.1)) ns (all_posed (suc j) ns))

-- What holds all along a walk.
pub record Fits (leads : Wish → Option Aim → Type 0) (node : Node → Type 0) (own : List Turn) (s : State) : Type 0 where
  pub nodes : All node s.met
  pub edges : (who : Place) → asked_by who (map turn_of s.links ++ s.todo) ≡ asked_by who (own ++ turns_of 0 s.met)
  pub right : All (IsRight leads s.met) s.links
  pub once : IsDistinct (map id_of s.met)
  pub sound : All (Reaches leads node own) (map id_of s.met)

-- the same of what is added
record Landed (leads : Wish → Option Aim → Type 0) (node : Node → Type 0) (own : List Turn) (met added : List Node) (aim : Option Aim) (to : Option Place) : Type 0 where
  nodes : All node added
  at : IsAt (met ++ added) aim to
  once : IsDistinct (map id_of (met ++ added))
  sound : All (Reaches leads node own) (map id_of added)

known : (leads : Wish → Option Aim → Type 0) (node : Node → Type 0) (own : List Turn) (met added : List Node) (aim : Option Aim) (to : Option Place)
    → IsDistinct (map id_of met) → IsAt met aim to → added ≡ [] → Landed leads node own met added aim to
known leads node own met added aim to once at none = subst (λ (l : List Node). Landed leads node own met l aim to) (sym none) (record {
  nodes = All-nil node;
  at = subst (λ (l : List Node). IsAt l aim to) (sym (append-nil met)) at;
  once = subst (λ (l : List Node). IsDistinct (map id_of l)) (sym (append-nil met)) once;
  sound = All-nil (Reaches leads node own);
})

landed_at : (leads : Wish → Option Aim → Type 0) (node : Node → Type 0) (own : List Turn) (met added : List Node) (i : Id) (o : Option ℕ) (to : Option Place)
    → place_of i met ≡ o → IsDistinct (map id_of met) → Reaches leads node own i → LandsAt node met i o to added → Landed leads node own met added (Some (to_package i)) to
landed_at leads node own met added i (Some k) to place once reached h = known leads node own met added (Some (to_package i)) to once (k, h.at, place_there i met k place) h.only
landed_at leads node own met added i None to place once reached h = subst (λ (l : List Node). Landed leads node own met l (Some (to_package i)) to) (sym h.only) (record {
  nodes = All-cons node h.new [] h.is (All-nil node);
  at = (length met, h.at, get_last met h.new ∙ ap Some h.here);
  once = subst IsDistinct (sym (map-append id_of met (h.new ∷ []))) (distinct_more (map id_of met) h.new.id once (λ c. not_there i met place (subst (Contains (map id_of met)) h.here c)));
  sound = All-cons (Reaches leads node own) h.new.id [] (subst (Reaches leads node own) (sym h.here) reached) (All-nil (Reaches leads node own));
})

landed : (leads : Wish → Option Aim → Type 0) (node : Node → Type 0) (own : List Turn) (met added : List Node) (aim : Option Aim) (to : Option Place)
    → IsDistinct (map id_of met) → ((i : Id) → aim ≡ Some (to_package i) → Reaches leads node own i) → Lands node met aim to added → Landed leads node own met added aim to
landed leads node own met added None to once reached h = known leads node own met added None to once h.at h.only
landed leads node own met added (Some (to_project q)) to once reached h = known leads node own met added (Some (to_project q)) to once h.at h.only
landed leads node own met added (Some (to_package i)) to once reached h = landed_at leads node own met added i (place_of i met) to refl once (reached i refl) h

pub both_asked : (who : Place) (xs ys : List Turn) → asked_by who (xs ++ ys) ≡ asked_by who xs ++ asked_by who ys
both_asked who xs ys = filter-append (λ (e : Turn). same_place e.who who) xs ys

pub place_self : (p : Place) → same_place p p ≡ true
place_self (at_project q) = eq-eqb q q refl
place_self (at_package k) = eq-eqb k k refl

keeps_own : (e : Turn) (xs : List Turn) → Contains xs e → Contains (asked_by e.who xs) e
keeps_own e xs c = to_filter (λ (x : Turn). same_place x.who e.who) xs e c (place_self e.who)

from_asked : (who : Place) (xs : List Turn) (e : Turn) → Contains (asked_by who xs) e → Contains xs e
from_asked who xs e c = (in_filter (λ (x : Turn). same_place x.who who) xs e c).0

-- an edge of one list is in another where its node asks for the same in both
pub moved : (e : Turn) (xs ys : List Turn) → asked_by e.who xs ≡ asked_by e.who ys → Contains xs e → Contains ys e
moved e xs ys same c = from_asked e.who ys e (subst (λ (l : List Turn). Contains l e) same (keeps_own e xs c))

pub all_taken : (leads : Wish → Option Aim → Type 0) (node : Node → Type 0) (own : List Turn) (t : State) (who : Place) → Fits leads node own t → t.todo ≡ [] → asked_by who (map turn_of t.links) ≡ asked_by who (own ++ turns_of 0 t.met)
all_taken leads node own t who h none = ap (asked_by who) (sym (append-nil (map turn_of t.links)) ∙ ap (λ (x : List Turn). map turn_of t.links ++ x) (sym none)) ∙ h.edges who

-- The first edge that waits is asked for by what is reached.
reached_next : (leads : Wish → Option Aim → Type 0) (node : Node → Type 0) (own : List Turn) (s : State) (e : Turn) (rest : List Turn) (i : Id) → Fits leads node own s → s.todo ≡ e ∷ rest → leads e.wish (Some (to_package i)) → Reaches leads node own i
unfolding Asked
reached_next leads node own s e rest i h next aims =
    let waits : Contains (map turn_of s.links ++ s.todo) e = Contains-append_right (map turn_of s.links) s.todo e (subst (λ (l : List Turn). Contains l e) (sym next) (0, omega arith, refl)) in
    elim (Contains-append_cases own (turns_of 0 s.met) e (moved e (map turn_of s.links ++ s.todo) (own ++ turns_of 0 s.met) (h.edges e.who) waits)) [
      | inl mine ↦ direct e i mine aims
      | inr theirs ↦
          let a : Asked s.met e = All-contains (Asked s.met) (turns_of 0 s.met) e (all_asked 0 s.met) theirs in
          through a.0 e.wish i (All-contains (Reaches leads node own) (map id_of s.met) a.0.id h.sound (to_map id_of s.met a.0 a.1)) (All-contains node s.met a.0 h.nodes a.1) a.2 aims
    ]

-- An edge that was taken or that waits is a project's, or that of a package that is reached.
pub asked_all : (leads : Wish → Option Aim → Type 0) (node : Node → Type 0) (own : List Turn) (s : State) (e : Turn) → Fits leads node own s → Contains (map turn_of s.links ++ s.todo) e → IsAsked leads node own e
unfolding Asked
asked_all leads node own s e h c =
    elim (Contains-append_cases own (turns_of 0 s.met) e (moved e (map turn_of s.links ++ s.todo) (own ++ turns_of 0 s.met) (h.edges e.who) c)) [
      | inl mine ↦ by_project mine
      | inr theirs ↦
          let a : Asked s.met e = All-contains (Asked s.met) (turns_of 0 s.met) e (all_asked 0 s.met) theirs in
          by_package a.0 (All-contains (Reaches leads node own) (map id_of s.met) a.0.id h.sound (to_map id_of s.met a.0 a.1)) (All-contains node s.met a.0 h.nodes a.1) a.2
    ]

pub asked_next : (leads : Wish → Option Aim → Type 0) (node : Node → Type 0) (own : List Turn) (s : State) (e : Turn) (rest : List Turn) → Fits leads node own s → s.todo ≡ e ∷ rest → IsAsked leads node own e
asked_next leads node own s e rest h next = asked_all leads node own s e h (Contains-append_right (map turn_of s.links) s.todo e (subst (λ (l : List Turn). Contains l e) (sym next) (0, omega arith, refl)))

queue : (links : List Link) (l : Link) (todo rest own old new : List Turn) (who : Place) → asked_by who (map turn_of links ++ todo) ≡ asked_by who (own ++ old) → todo ≡ turn_of l ∷ rest
    → asked_by who (map turn_of (links ++ l ∷ []) ++ (rest ++ new)) ≡ asked_by who (own ++ (old ++ new))
queue links l todo rest own old new who h next =
    ap (asked_by who) (ap (λ (x : List Turn). x ++ (rest ++ new)) (map-append turn_of links (l ∷ []))
    ∙ append_assoc (map turn_of links) (turn_of l ∷ []) (rest ++ new)
    ∙ sym (append_assoc (map turn_of links) (turn_of l ∷ rest) new)
    ∙ ap (λ (x : List Turn). (map turn_of links ++ x) ++ new) (sym next))
    ∙ both_asked who (map turn_of links ++ todo) new
    ∙ ap (λ (x : List Turn). x ++ asked_by who new) h
    ∙ sym (both_asked who (own ++ old) new)
    ∙ ap (asked_by who) (append_assoc own old new)

pub fits_more : (leads : Wish → Option Aim → Type 0) (node : Node → Type 0) (own : List Turn) (s t : State) → Fits leads node own s → Moves leads node s t → Fits leads node own t
fits_more leads node own s t h v =
    let l : Link = record { turn = v.turn; to = v.to } in
    let new = landed leads node own s.met v.added v.takes.aim v.to h.once (λ i is. reached_next leads node own s v.turn v.rest i h v.next (subst (leads v.turn.wish) is v.takes.aims)) v.takes.lands in
    subst (Fits leads node own) (sym v.is) (record {
      nodes = All-append node s.met v.added h.nodes new.nodes;
      edges = λ who. queue s.links l s.todo v.rest own (turns_of 0 s.met) (turns_of (length s.met) v.added) who (h.edges who) v.next
          ∙ ap (λ (x : List Turn). asked_by who (own ++ x)) (sym (turns_more 0 (length s.met) s.met v.added (omega arith)));
      right = All-push (IsRight leads (s.met ++ v.added)) s.links l
          (All-weaker (IsRight leads s.met) (IsRight leads (s.met ++ v.added)) (λ k r. record { aim = r.aim; aims = r.aims; at = at_more s.met v.added r.aim k.to r.at }) s.links h.right)
          (record { aim = v.takes.aim; aims = v.takes.aims; at = new.at });
      once = new.once;
      sound = subst (All (Reaches leads node own)) (sym (map-append id_of s.met v.added)) (All-append (Reaches leads node own) (map id_of s.met) (map id_of v.added) h.sound new.sound);
    })

pub fits_start : (leads : Wish → Option Aim → Type 0) (node : Node → Type 0) (own : List Turn) → Fits leads node own (start own)
fits_start leads node own = record {
  nodes = All-nil node;
  edges = λ who. ap (asked_by who) (sym (append-nil own));
  right = All-nil (IsRight leads []);
  once = tt;
  sound = All-nil (Reaches leads node own);
}

pub fits_walk : (leads : Wish → Option Aim → Type 0) (node : Node → Type 0) (own : List Turn) (t s : State) → Walk leads node t s → Fits leads node own s → Fits leads node own t
fits_walk leads node own t _ (ends s e) h = subst (Fits leads node own) e h
fits_walk leads node own t _ (goes s m v w) h = fits_walk leads node own t m w (fits_more leads node own s m h v)

-- What an edge leads to is there, where all edges were taken.
there : (leads : Wish → Option Aim → Type 0) (node : Node → Type 0) → AreSettled leads node → (own : List Turn) (t : State) → Fits leads node own t → t.todo ≡ [] → (e : Turn) (i : Id)
    → Contains (own ++ turns_of 0 t.met) e → leads e.wish (Some (to_package i)) → Contains (map id_of t.met) i
there leads node one own t h none e i c aims =
    let l = from_map turn_of t.links e (moved e (own ++ turns_of 0 t.met) (map turn_of t.links) (sym (all_taken leads node own t e.who h none)) c) in
    let r : IsRight leads t.met l.0 = All-contains (IsRight leads t.met) t.links l.0 h.right l.1 in
    let aim : r.aim ≡ Some (to_package i) = one.one_aim e.wish r.aim (Some (to_package i)) (subst (λ (x : Turn). leads x.wish r.aim) l.2 r.aims) aims in
    let at : IsAt t.met (Some (to_package i)) l.0.to = subst (λ (o : Option Aim). IsAt t.met o l.0.to) aim r.at in
    get_contains (map id_of t.met) at.0 i at.2

complete : (leads : Wish → Option Aim → Type 0) (node : Node → Type 0) → AreSettled leads node → (own : List Turn) (t : State) → Fits leads node own t → t.todo ≡ [] → (i : Id) → Reaches leads node own i → Contains (map id_of t.met) i
unfolding Posed
complete leads node one own t h none _ (direct e i mine aims) = there leads node one own t h none e i (Contains-append_left own (turns_of 0 t.met) e mine) aims
complete leads node one own t h none _ (through n w i reached is asks aims) =
    let m = from_map id_of t.met n.id (complete leads node one own t h none n.id reached) in
    let same : m.0 ≡ n = one.one_node m.0 n (All-contains node t.met m.0 h.nodes m.1) is m.2 in
    let p = All-contains (Posed 0 t.met) t.met m.0 (all_posed 0 t.met) m.1 w (subst (λ (x : Node). Contains x.wishes w) (sym same) asks) in
    there leads node one own t h none (turn_by (at_package p.0) w) i (Contains-append_right own (turns_of 0 t.met) (turn_by (at_package p.0) w) p.1) aims

-- Where all edges are taken, the packages and edges are those of the graph.
pub graph_of : (leads : Wish → Option Aim → Type 0) (node : Node → Type 0) → AreSettled leads node → (own : List Turn) (t : State) → Fits leads node own t → t.todo ≡ [] → IsGraph leads node own t.met t.links
graph_of leads node one own t h none = record {
  nodes = h.nodes;
  edges = λ who. all_taken leads node own t who h none;
  right = h.right;
  once = h.once;
  sound = λ i c. All-contains (Reaches leads node own) (map id_of t.met) i h.sound c;
  complete = complete leads node one own t h none;
}

pub graph : (leads : Wish → Option Aim → Type 0) (node : Node → Type 0) → AreSettled leads node → (own : List Turn) (t : State) → IsWalked leads node (start own) t → IsGraph leads node own t.met t.links
graph leads node one own t w = graph_of leads node one own t (fits_walk leads node own t (start own) w.walk (fits_start leads node own)) w.none

-- more is reached where more is asked for
more_reached : (leads : Wish → Option Aim → Type 0) (node : Node → Type 0) (own more : List Turn) (i : Id) → Reaches leads node own i → Reaches leads node (own ++ more) i
more_reached leads node own more _ (direct e i mine aims) = direct e i (Contains-append_left own more e mine) aims
more_reached leads node own more _ (through n w i reached is asks aims) = through n w i (more_reached leads node own more n.id reached) is asks aims

-- packages ask for nothing as a project
of_packages : (q k : ℕ) (ns : List Node) → asked_by (at_project q) (turns_of k ns) ≡ []
of_packages q k [] = refl
of_packages q k (n ∷ ns) = both_asked (at_project q) (map (turn_by (at_package k)) n.wishes) (turns_of (suc k) ns) ∙ ap (λ (x : List Turn). x ++ asked_by (at_project q) (turns_of (suc k) ns)) (none_of n.wishes) ∙ of_packages q (suc k) ns
  where
    none_of : (ws : List Wish) → asked_by (at_project q) (map (turn_by (at_package k)) ws) ≡ []
    none_of [] = refl
    none_of (w ∷ ws) = none_of ws

-- and projects nothing as a package
of_projects : (k : ℕ) (more : List Turn) → All (λ (e : Turn). IsOfProject e.who) more → asked_by (at_package k) more ≡ []
of_projects k [] h = refl
of_projects k (e ∷ es) h = other e.who (All-head (λ (e : Turn). IsOfProject e.who) e es h) (of_projects k es (All-tail (λ (e : Turn). IsOfProject e.who) e es h)) where
  other : (p : Place) → IsOfProject p → asked_by (at_package k) es ≡ [] → cond (same_place p (at_package k)) (e ∷ asked_by (at_package k) es) (asked_by (at_package k) es) ≡ []
  other (at_project q) is none = none
  other (at_package j) is none = absurd is

nil_last : (xs ys : List Turn) → ys ≡ [] → xs ++ ys ≡ ys ++ xs
nil_last xs ys e = ap (λ (l : List Turn). xs ++ l) e ∙ append-nil xs ∙ sym (ap (λ (l : List Turn). l ++ xs) e)

nil_first : (xs ys : List Turn) → xs ≡ [] → xs ++ ys ≡ ys ++ xs
nil_first xs ys e = ap (λ (l : List Turn). l ++ ys) e ∙ sym (append-nil ys) ∙ sym (ap (λ (l : List Turn). ys ++ l) e)

-- the edges of packages and of projects change places
swapped : (who : Place) (ns : List Node) (more : List Turn) → All (λ (e : Turn). IsOfProject e.who) more → asked_by who (turns_of 0 ns) ++ asked_by who more ≡ asked_by who more ++ asked_by who (turns_of 0 ns)
swapped (at_project q) ns more h = nil_first (asked_by (at_project q) (turns_of 0 ns)) (asked_by (at_project q) more) (of_packages q 0 ns)
swapped (at_package k) ns more h = nil_last (asked_by (at_package k) (turns_of 0 ns)) (asked_by (at_package k) more) (of_projects k more h)

-- What holds at the end of a round holds where more is asked for.
pub fits_again : (leads : Wish → Option Aim → Type 0) (node : Node → Type 0) (own more : List Turn) (s : State) → Fits leads node own s → s.todo ≡ [] → All (λ (e : Turn). IsOfProject e.who) more → Fits leads node (own ++ more) (asking s more)
fits_again leads node own more s h none is = record {
  nodes = h.nodes;
  edges = λ who.
      let T = turns_of 0 s.met in
      both_asked who (map turn_of s.links) more
      ∙ ap (λ (x : List Turn). x ++ asked_by who more) (all_taken leads node own s who h none ∙ both_asked who own T)
      ∙ append_assoc (asked_by who own) (asked_by who T) (asked_by who more)
      ∙ ap (λ (x : List Turn). asked_by who own ++ x) (swapped who s.met more is)
      ∙ sym (append_assoc (asked_by who own) (asked_by who more) (asked_by who T))
      ∙ ap (λ (x : List Turn). x ++ asked_by who T) (sym (both_asked who own more))
      ∙ sym (both_asked who (own ++ more) T);
  right = h.right;
  once = h.once;
  sound = All-weaker (Reaches leads node own) (Reaches leads node (own ++ more)) (λ i r. more_reached leads node own more i r) (map id_of s.met) h.sound;
}

ended : (leads : Wish → Option Aim → Type 0) (node : Node → Type 0) (own : List Turn) (rounds : List (List Turn)) (t : State) → Rounds leads node own rounds t → t.todo ≡ []
ended leads node own _ _ (first t w) = w.none
ended leads node own _ _ (again rounds s more t r is w) = w.none

rounds_more : (rounds : List (List Turn)) (more : List Turn) → all_of (rounds ++ more ∷ []) ≡ all_of rounds ++ more
rounds_more [] more = append-nil more
rounds_more (r ∷ rs) more = ap (λ (l : List Turn). r ++ l) (rounds_more rs more) ∙ sym (append_assoc r (all_of rs) more)

fits_rounds : (leads : Wish → Option Aim → Type 0) (node : Node → Type 0) (own : List Turn) (rounds : List (List Turn)) (t : State) → Rounds leads node own rounds t → Fits leads node (own ++ all_of rounds) t
fits_rounds leads node own _ _ (first t w) = subst (λ (l : List Turn). Fits leads node l t) (sym (append-nil own)) (fits_walk leads node own t (start own) w.walk (fits_start leads node own))
fits_rounds leads node own _ _ (again rounds s more t r is w) =
    let before = fits_rounds leads node own rounds s r in
    let fit = fits_walk leads node ((own ++ all_of rounds) ++ more) t (asking s more) w.walk (fits_again leads node (own ++ all_of rounds) more s before (ended leads node own rounds s r) is) in
    subst (λ (l : List Turn). Fits leads node l t) (append_assoc own (all_of rounds) more ∙ ap (λ (l : List Turn). own ++ l) (sym (rounds_more rounds more))) fit

-- The graph after any number of rounds is that of all that projects ask for.
pub graph_rounds : (leads : Wish → Option Aim → Type 0) (node : Node → Type 0) → AreSettled leads node → (own : List Turn) (rounds : List (List Turn)) (t : State) → Rounds leads node own rounds t → IsGraph leads node (own ++ all_of rounds) t.met t.links
graph_rounds leads node one own rounds t r = graph_of leads node one (own ++ all_of rounds) t (fits_rounds leads node own rounds t r) (ended leads node own rounds t r)

-- The edge that is refused is asked for by what is reached.
pub refused_edge : {F : Type 0} (leads : Wish → Option Aim → Type 0) (node : Node → Type 0) (refused : List Node → Turn → F → Type 0) (own : List Turn) (t : State) (f : F) → (s : IsStopped leads node refused (start own) t f) → IsAsked leads node own s.turn
refused_edge leads node refused own t f s = asked_next leads node own t s.turn s.rest (fits_walk leads node own t (start own) s.walk (fits_start leads node own)) s.next
