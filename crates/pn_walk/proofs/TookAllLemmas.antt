-- Edges that are taken one after the other.
use Rattle.std.proofs.Common.{◌≡◌, ◌≤◌, ◌<◌, ℕ, zero, suc, ◌+◌, List, [], ◌∷◌, ◌++◌, Option, length, map, take, drop, get_or, refl, sym, ap, ◌∙◌, subst, arith, add-one, append_assoc, length-append}
use Rattle.std.proofs.Math.Seq.{split_at}
use Rattle.std.proofs.lemmas.List.{map-append, append-nil, take_more}
use Rattle.pn_walk.specs.Wants.{Id, Wish, Node, Aim, Place, at_package}
use Rattle.pn_walk.specs.Walks.{Turn, State, turn_by, turns_of, Moves, Walk, ends, goes, IsWalked}
use Rattle.pn_walk.specs.declared.state.Queue.{Queue}
use Rattle.pn_walk.specs.declared.fault.WalkFault.{WalkFault}
use Rattle.pn_walk.specs.declared.fault.WalkFault.TheVariants.{Ways, Packages, Memory}
use Rattle.pn_walk.specs.Calls.{at, Took, TookAll, EdgeRefused, StopsIn, StopsSomewhere, Stops}
use Rattle.pn_walk.proofs.GraphLemmas.{turns_more}
use Rattle.pn_walk.specs.Keeps.{Keeps}
use Rattle.pn_walk.proofs.TookLemmas.{walk_more, walk_on, lands_from, refused_from}

-- no edge yet
pub took_none : (leads : Wish → Option Aim → Type 0) (node : Node → Type 0) (q : Queue) → TookAll leads node [] q q
took_none leads node q = record {
  added = [];
  grows = sym (append-nil q.nodes.items);
  walks = λ rest. ends (at rest q) (ap (λ (l : List Turn). at l q) (sym (append-nil rest)));
}

-- one edge more
pub took_more : (leads : Wish → Option Aim → Type 0) (node : Node → Type 0) (edges : List Turn) (e : Turn) (q r s : Queue) → TookAll leads node edges q r → Took leads node e r s → TookAll leads node (edges ++ e ∷ []) q s
took_more leads node edges e q r s a b = record {
  added = a.added ++ b.added;
  grows = b.grows ∙ ap (λ (l : List Node). l ++ b.added) a.grows ∙ append_assoc q.nodes.items a.added b.added;
  walks = λ rest.
      let T = turns_of (length q.nodes.items) a.added in
      let U = turns_of (length r.nodes.items) b.added in
      let long : length r.nodes.items ≡ length q.nodes.items + length a.added = ap length a.grows ∙ length-append q.nodes.items a.added in
      let all : (rest ++ T) ++ U ≡ rest ++ turns_of (length q.nodes.items) (a.added ++ b.added) =
      append_assoc rest T U ∙ ap (λ (l : List Turn). rest ++ l) (sym (turns_more (length q.nodes.items) (length r.nodes.items) a.added b.added long)) in
      let both : Walk leads node (at ((rest ++ T) ++ U) s) (at (edges ++ e ∷ rest) q) = walk_more leads node (at (e ∷ (rest ++ T)) r) (at ((rest ++ T) ++ U) s) (at (edges ++ e ∷ rest) q) (a.walks (e ∷ rest)) (b.moves (rest ++ T)) in
      subst (λ (l : List Turn). Walk leads node (at l s) (at ((edges ++ e ∷ []) ++ rest) q)) all
      (subst (λ (l : List Turn). Walk leads node (at ((rest ++ T) ++ U) s) (at l q)) (sym (append_assoc edges (e ∷ []) rest)) both);
}

pub took_next : (leads : Wish → Option Aim → Type 0) (node : Node → Type 0) (who : Place) (ws : List Wish) (i : ℕ) (w : Wish) (q r s : Queue) → i < length ws → w ≡ get_or ws i w
    → TookAll leads node (map (turn_by who) (take i ws)) q r → Took leads node (turn_by who w) r s → TookAll leads node (map (turn_by who) (take (i + 1) ws)) q s
took_next leads node who ws i w q r s h is a b =
    subst (λ (l : List Turn). TookAll leads node l q s)
    (sym (ap (map (turn_by who)) (take_more ws i w h ∙ ap (λ (x : Wish). take i ws ++ x ∷ []) (sym is)) ∙ map-append (turn_by who) (take i ws) (w ∷ [])))
    (took_more leads node (map (turn_by who) (take i ws)) (turn_by who w) q r s a b)

-- the edges before one, it, and those after it
pub turns_split : (who : Place) (ws : List Wish) (i : ℕ) (w : Wish) (rest : List Turn) → i < length ws → w ≡ get_or ws i w → map (turn_by who) ws ++ rest ≡ map (turn_by who) (take i ws) ++ (turn_by who w ∷ (map (turn_by who) (drop (suc i) ws) ++ rest))
turns_split who ws i w rest h is =
    ap (λ (l : List Turn). l ++ rest) (ap (map (turn_by who)) (split_at ws i w h ∙ ap (λ (x : Wish). take i ws ++ x ∷ drop (suc i) ws) (sym is)) ∙ map-append (turn_by who) (take i ws) (w ∷ drop (suc i) ws))
    ∙ append_assoc (map (turn_by who) (take i ws)) (turn_by who w ∷ map (turn_by who) (drop (suc i) ws)) rest

-- one of the edges is refused
pub stops_in : {F : Type 0} (leads : Wish → Option Aim → Type 0) (node : Node → Type 0) (lost : Wish → F → Type 0) (unread : Id → F → Type 0) (folders : List (List ℕ)) (who : Place) (ws : List Wish) (i : ℕ) (w : Wish) (q r : Queue) (f : WalkFault F)
    → i < length ws → w ≡ get_or ws i w → TookAll leads node (map (turn_by who) (take i ws)) q r → EdgeRefused leads node lost unread folders r.nodes.items (turn_by who w) f → StopsIn leads node lost unread folders (map (turn_by who) ws) q f
stops_in leads node lost unread folders who ws i w q r f h is a refused = record {
  front = map (turn_by who) (take i ws);
  edge = turn_by who w;
  rest = map (turn_by who) (drop (suc i) ws);
  there = r;
  is = ap (map (turn_by who)) (split_at ws i w h ∙ ap (λ (x : Wish). take i ws ++ x ∷ drop (suc i) ws) (sym is)) ∙ map-append (turn_by who) (take i ws) (w ∷ drop (suc i) ws);
  took = a;
  why = refused;
}

-- the edges of the packages from a place on: those of the one there, and the others
pub turns_at : (k j : ℕ) (ns : List Node) (n : Node) → k < length ns → n ≡ get_or ns k n → turns_of j (drop k ns) ≡ map (turn_by (at_package j)) n.wishes ++ turns_of (suc j) (drop (suc k) ns)
turns_at k j [] n h is = absurd (omega arith)
turns_at zero j (m ∷ ns) n h is = ap (λ (x : Node). map (turn_by (at_package j)) x.wishes ++ turns_of (suc j) ns) (sym is)
turns_at (suc k) j (m ∷ ns) n h is = turns_at k j ns n (omega arith) is

drop_more : (k : ℕ) (ns added : List Node) → k ≤ length ns → drop k (ns ++ added) ≡ drop k ns ++ added
drop_more zero ns added h = refl
drop_more (suc k) [] added h = absurd (omega arith)
drop_more (suc k) (n ∷ ns) added h = drop_more k ns added (omega arith)

length_drop : (k : ℕ) (ns : List Node) → k ≤ length ns → length ns ≡ k + length (drop k ns)
length_drop zero ns h = omega arith
length_drop (suc k) [] h = absurd (omega arith)
length_drop (suc k) (n ∷ ns) h = omega (arith, length_drop k ns (omega arith))

-- The edges of one package more are taken.
pub walk_at : (leads : Wish → Option Aim → Type 0) (node : Node → Type 0) (s : State) (k : ℕ) (n : Node) (q r : Queue) → k < length q.nodes.items → n ≡ get_or q.nodes.items k n
    → Walk leads node (at (turns_of k (drop k q.nodes.items)) q) s → TookAll leads node (map (turn_by (at_package k)) n.wishes) q r → Walk leads node (at (turns_of (k + 1) (drop (k + 1) r.nodes.items)) r) s
walk_at leads node s k n q r h is w a =
    let ns = q.nodes.items in
    let rest = turns_of (suc k) (drop (suc k) ns) in
    let now : turns_of k (drop k ns) ≡ map (turn_by (at_package k)) n.wishes ++ rest = turns_at k k ns n h is in
    let long : length ns ≡ suc k + length (drop (suc k) ns) = length_drop (suc k) ns (omega arith) in
    let next : rest ++ turns_of (length ns) a.added ≡ turns_of (suc k) (drop (suc k) r.nodes.items) =
    sym (turns_more (suc k) (length ns) (drop (suc k) ns) a.added long)
    ∙ ap (turns_of (suc k)) (sym (drop_more (suc k) ns a.added (omega arith)) ∙ ap (drop (suc k)) (sym a.grows)) in
    let one : Walk leads node (at (rest ++ turns_of (length ns) a.added) r) (at (turns_of k (drop k ns)) q) = subst (λ (l : List Turn). Walk leads node (at (rest ++ turns_of (length ns) a.added) r) (at l q)) (sym now) (a.walks rest) in
    let all = walk_on leads node (at (turns_of k (drop k ns)) q) (at (rest ++ turns_of (length ns) a.added) r) s w one in
    subst (λ (j : ℕ). Walk leads node (at (turns_of j (drop j r.nodes.items)) r) s) (sym (add-one k)) (subst (λ (l : List Turn). Walk leads node (at l r) s) next all)

-- One of its edges is refused.
pub stops_at : {F : Type 0} (leads : Wish → Option Aim → Type 0) (node : Node → Type 0) (lost : Wish → F → Type 0) (unread : Id → F → Type 0) (folders : List (List ℕ)) (s : State) (k : ℕ) (n : Node) (q : Queue) (f : WalkFault F) → k < length q.nodes.items → n ≡ get_or q.nodes.items k n
    → Walk leads node (at (turns_of k (drop k q.nodes.items)) q) s → StopsIn leads node lost unread folders (map (turn_by (at_package k)) n.wishes) q f → StopsSomewhere leads node lost unread folders s f
stops_at leads node lost unread folders s k n q f h is w a =
    let ns = q.nodes.items in
    let rest = turns_of (suc k) (drop (suc k) ns) in
    let now : turns_of k (drop k ns) ≡ a.front ++ (a.edge ∷ (a.rest ++ rest)) =
    turns_at k k ns n h is ∙ ap (λ (l : List Turn). l ++ rest) a.is ∙ append_assoc a.front (a.edge ∷ a.rest) rest in
    let one : Walk leads node (at ((a.edge ∷ (a.rest ++ rest)) ++ turns_of (length ns) a.took.added) a.there) (at (turns_of k (drop k ns)) q) =
    subst (λ (l : List Turn). Walk leads node (at ((a.edge ∷ (a.rest ++ rest)) ++ turns_of (length ns) a.took.added) a.there) (at l q)) (sym now) (a.took.walks (a.edge ∷ (a.rest ++ rest))) in
    record {
      end = at ((a.edge ∷ (a.rest ++ rest)) ++ turns_of (length ns) a.took.added) a.there;
      stopped = record {
        walk = walk_on leads node (at (turns_of k (drop k ns)) q) (at ((a.edge ∷ (a.rest ++ rest)) ++ turns_of (length ns) a.took.added) a.there) s w one;
        turn = a.edge;
        rest = (a.rest ++ rest) ++ turns_of (length ns) a.took.added;
        next = refl;
        why = a.why;
      };
    }

-- All packages' edges are taken.
pub walked : (leads : Wish → Option Aim → Type 0) (node : Node → Type 0) (s : State) (k : ℕ) (q : Queue) → length q.nodes.items ≤ k → Walk leads node (at (turns_of k (drop k q.nodes.items)) q) s → IsWalked leads node s (at [] q)
walked leads node s k q past w = record {
  walk = subst (λ (l : List Node). Walk leads node (at (turns_of k l) q) s) (none k q.nodes.items past) w;
  none = refl;
}
  where
    none : (k : ℕ) (ns : List Node) → length ns ≤ k → drop k ns ≡ []
    none zero [] h = refl
    none zero (n ∷ ns) h = absurd (omega arith)
    none (suc k) [] h = refl
    none (suc k) (n ∷ ns) h = none k ns (omega arith)

moves_from : {F : Type 0} (leads leads' : Wish → Option Aim → Type 0) (node node' : Node → Type 0) (lost lost' : Wish → F → Type 0) (unread unread' : Id → F → Type 0) (s t : State)
    → Keeps leads leads' node node' lost lost' unread unread' → Moves leads' node' s t → Moves leads node s t
moves_from leads leads' node node' lost lost' unread unread' s t k m = record {
  turn = m.turn;
  rest = m.rest;
  next = m.next;
  to = m.to;
  added = m.added;
  takes = record { aim = m.takes.aim; aims = k.aims m.turn.wish m.takes.aim m.takes.aims; lands = lands_from node node' k.nodes s.met m.takes.aim m.to m.added m.takes.lands };
  is = m.is;
}

pub walk_from : {F : Type 0} (leads leads' : Wish → Option Aim → Type 0) (node node' : Node → Type 0) (lost lost' : Wish → F → Type 0) (unread unread' : Id → F → Type 0) (t s : State)
    → Keeps leads leads' node node' lost lost' unread unread' → Walk leads' node' t s → Walk leads node t s
walk_from leads leads' node node' lost lost' unread unread' t _ k (ends s e) = ends s e
walk_from leads leads' node node' lost lost' unread unread' t _ k (goes s m v w) =
    goes s m (moves_from leads leads' node node' lost lost' unread unread' s m k v) (walk_from leads leads' node node' lost lost' unread unread' t m k w)

pub took_all_from : {F : Type 0} (leads leads' : Wish → Option Aim → Type 0) (node node' : Node → Type 0) (lost lost' : Wish → F → Type 0) (unread unread' : Id → F → Type 0) (edges : List Turn) (q r : Queue)
    → Keeps leads leads' node node' lost lost' unread unread' → TookAll leads' node' edges q r → TookAll leads node edges q r
took_all_from leads leads' node node' lost lost' unread unread' edges q r k a = record {
  added = a.added;
  grows = a.grows;
  walks = λ rest. walk_from leads leads' node node' lost lost' unread unread' (at (rest ++ turns_of (length q.nodes.items) a.added) r) (at (edges ++ rest) q) k (a.walks rest);
}

pub stops_in_from : {F : Type 0} (leads leads' : Wish → Option Aim → Type 0) (node node' : Node → Type 0) (lost lost' : Wish → F → Type 0) (unread unread' : Id → F → Type 0) (folders : List (List ℕ)) (edges : List Turn) (q : Queue) (f : WalkFault F)
    → Keeps leads leads' node node' lost lost' unread unread' → StopsIn leads' node' lost' unread' folders edges q f → StopsIn leads node lost unread folders edges q f
stops_in_from leads leads' node node' lost lost' unread unread' folders edges q f k a = record {
  front = a.front;
  edge = a.edge;
  rest = a.rest;
  there = a.there;
  is = a.is;
  took = took_all_from leads leads' node node' lost lost' unread unread' a.front q a.there k a.took;
  why = refused_from leads leads' node node' lost lost' unread unread' folders a.there.nodes.items a.edge f k a.why;
}

pub stops : {F : Type 0} (leads : Wish → Option Aim → Type 0) (node : Node → Type 0) (lost : Wish → F → Type 0) (unread : Id → F → Type 0) (folders : List (List ℕ)) (s : State) (f : WalkFault F) → StopsSomewhere leads node lost unread folders s f → Stops leads node lost unread folders s f
stops leads node lost unread folders s (Ways e f) h = h
stops leads node lost unread folders s (Packages n) h = h
stops leads node lost unread folders s Memory h = tt
