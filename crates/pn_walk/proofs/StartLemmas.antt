-- Edges of projects.
use Rattle.std.proofs.Common.{◌≡◌, ◌<◌, ℕ, zero, suc, ◌+◌, List, [], ◌∷◌, ◌++◌, Option, length, map, take, drop, get_or, refl, sym, ap, ◌∙◌, subst, arith, add-one, append_assoc, length-append}
use Rattle.std.proofs.lemmas.List.{append-nil}
use Rattle.pn_walk.specs.Wants.{Id, Wish, Node, Aim, at_project}
use Rattle.pn_walk.specs.Walks.{Turn, Link, State, turn_by, turns_of, start, Walk}
use Rattle.pn_walk.specs.Starts.{turns_from}
use Rattle.pn_walk.specs.declared.state.Queue.{Queue}
use Rattle.pn_walk.specs.declared.state.Taken.{Taken}
use Rattle.pn_walk.specs.declared.fault.WalkFault.{WalkFault}
use Rattle.pn_walk.specs.Calls.{at, link_of, TookAll, StopsIn, StopsSomewhere, Stops}
use Rattle.pn_walk.proofs.GraphLemmas.{turns_more}
use Rattle.pn_walk.specs.Keeps.{Keeps}
use Rattle.pn_walk.specs.declared.fault.WalkFault.TheVariants.{Ways, Packages, Memory}
use Rattle.pn_walk.proofs.TookLemmas.{walk_on, refused_from}
use Rattle.pn_walk.proofs.TookAllLemmas.{walk_from}

-- the edges up to a project, its own, and those after it
pub starts_split : (j k : ℕ) (ps : List (List Wish)) (ws : List Wish) → k < length ps → ws ≡ get_or ps k ws → turns_from j ps ≡ turns_from j (take k ps) ++ (map (turn_by (at_project (j + k))) ws ++ turns_from (suc (j + k)) (drop (suc k) ps))
starts_split j k [] ws h is = absurd (omega arith)
starts_split j zero (p ∷ ps) ws h is =
    let z : j + 0 ≡ j = omega arith in
    rw z (ap (λ (l : List Wish). map (turn_by (at_project j)) l ++ turns_from (suc j) ps) (sym is))
starts_split j (suc k) (p ∷ ps) ws h is =
    let z : suc j + k ≡ j + suc k = omega arith in
    let rest : turns_from (suc j) ps ≡ turns_from (suc j) (take k ps) ++ (map (turn_by (at_project (suc j + k))) ws ++ turns_from (suc (suc j + k)) (drop (suc k) ps)) = starts_split (suc j) k ps ws (omega arith) is in
    ap (λ (l : List Turn). map (turn_by (at_project j)) p ++ l) (rest ∙ ap (λ (n : ℕ). turns_from (suc j) (take k ps) ++ (map (turn_by (at_project n)) ws ++ turns_from (suc n) (drop (suc k) ps))) z)
    ∙ sym (append_assoc (map (turn_by (at_project j)) p) (turns_from (suc j) (take k ps)) (map (turn_by (at_project (j + suc k))) ws ++ turns_from (suc (j + suc k)) (drop (suc k) ps)))

pub starts_more : (j k : ℕ) (ps : List (List Wish)) (ws : List Wish) → k < length ps → ws ≡ get_or ps k ws → turns_from j (take (k + 1) ps) ≡ turns_from j (take k ps) ++ map (turn_by (at_project (j + k))) ws
starts_more j k ps ws h is = ap (λ (n : ℕ). turns_from j (take n ps)) (add-one k) ∙ more j k ps ws h is where
  more : (j k : ℕ) (ps : List (List Wish)) (ws : List Wish) → k < length ps → ws ≡ get_or ps k ws → turns_from j (take (suc k) ps) ≡ turns_from j (take k ps) ++ map (turn_by (at_project (j + k))) ws
  more j k [] ws h is = absurd (omega arith)
  more j zero (p ∷ ps) ws h is =
      let z : j + 0 ≡ j = omega arith in
      rw z (append-nil (map (turn_by (at_project j)) p) ∙ ap (map (turn_by (at_project j))) (sym is))
  more j (suc k) (p ∷ ps) ws h is =
      let z : suc j + k ≡ j + suc k = omega arith in
      ap (λ (l : List Turn). map (turn_by (at_project j)) p ++ l) (more (suc j) k ps ws (omega arith) is ∙ ap (λ (n : ℕ). turns_from (suc j) (take k ps) ++ map (turn_by (at_project n)) ws) z)
      ∙ sym (append_assoc (map (turn_by (at_project j)) p) (turns_from (suc j) (take k ps)) (map (turn_by (at_project (j + suc k))) ws))

-- further edges
pub took_on : (leads : Wish → Option Aim → Type 0) (node : Node → Type 0) (xs ys : List Turn) (q r s : Queue) → TookAll leads node xs q r → TookAll leads node ys r s → TookAll leads node (xs ++ ys) q s
took_on leads node xs ys q r s a b = record {
  added = a.added ++ b.added;
  grows = b.grows ∙ ap (λ (l : List Node). l ++ b.added) a.grows ∙ append_assoc q.nodes.items a.added b.added;
  walks = λ rest.
      let T = turns_of (length q.nodes.items) a.added in
      let U = turns_of (length r.nodes.items) b.added in
      let long : length r.nodes.items ≡ length q.nodes.items + length a.added = ap length a.grows ∙ length-append q.nodes.items a.added in
      let all : (rest ++ T) ++ U ≡ rest ++ turns_of (length q.nodes.items) (a.added ++ b.added) =
      append_assoc rest T U ∙ ap (λ (l : List Turn). rest ++ l) (sym (turns_more (length q.nodes.items) (length r.nodes.items) a.added b.added long)) in
      let first : Walk leads node (at (ys ++ (rest ++ T)) r) (at (xs ++ (ys ++ rest)) q) =
      subst (λ (l : List Turn). Walk leads node (at l r) (at (xs ++ (ys ++ rest)) q)) (append_assoc ys rest T) (a.walks (ys ++ rest)) in
      let both = walk_on leads node (at (ys ++ (rest ++ T)) r) (at ((rest ++ T) ++ U) s) (at (xs ++ (ys ++ rest)) q) first (b.walks (rest ++ T)) in
      subst (λ (l : List Turn). Walk leads node (at l s) (at ((xs ++ ys) ++ rest) q)) all
      (subst (λ (l : List Turn). Walk leads node (at ((rest ++ T) ++ U) s) (at l q)) (sym (append_assoc xs ys rest)) both);
}

pub stops_on : {F : Type 0} (leads : Wish → Option Aim → Type 0) (node : Node → Type 0) (lost : Wish → F → Type 0) (unread : Id → F → Type 0) (folders : List (List ℕ)) (xs ys zs all : List Turn) (q r : Queue) (f : WalkFault F)
    → all ≡ xs ++ (ys ++ zs) → TookAll leads node xs q r → StopsIn leads node lost unread folders ys r f → StopsIn leads node lost unread folders all q f
stops_on leads node lost unread folders xs ys zs all q r f is a b = record {
  front = xs ++ b.front;
  edge = b.edge;
  rest = b.rest ++ zs;
  there = b.there;
  is = is ∙ ap (λ (l : List Turn). xs ++ (l ++ zs)) b.is ∙ ap (λ (l : List Turn). xs ++ l) (append_assoc b.front (b.edge ∷ b.rest) zs) ∙ sym (append_assoc xs b.front (b.edge ∷ (b.rest ++ zs)));
  took = took_on leads node xs b.front q r b.there a b.took;
  why = b.why;
}

abbrev state : List Turn → List Node → List Link → State
state todo met links = record { todo = todo; met = met; links = links }

pub at_start : (own : List Turn) (q : Queue) → q.nodes.items ≡ [] → q.links.items ≡ [] → at own q ≡ start own
at_start own q n l = ap (λ (x : List Node). state own x (map link_of q.links.items)) n ∙ ap (λ (x : List Taken). state own [] (map link_of x)) l

-- from nothing
pub first_walk : (leads : Wish → Option Aim → Type 0) (node : Node → Type 0) (own : List Turn) (q r : Queue) → q.nodes.items ≡ [] → q.links.items ≡ [] → TookAll leads node own q r → Walk leads node (at (turns_of 0 r.nodes.items) r) (start own)
first_walk leads node own q r no_nodes no_links a =
    let grows : a.added ≡ r.nodes.items = sym (a.grows ∙ ap (λ (l : List Node). l ++ a.added) no_nodes) in
    let from : at (own ++ []) q ≡ start own = ap (λ (l : List Turn). at l q) (append-nil own) ∙ at_start own q no_nodes no_links in
    let to : at ([] ++ turns_of (length q.nodes.items) a.added) r ≡ at (turns_of 0 r.nodes.items) r = ap (λ (n : ℕ). at (turns_of n a.added) r) (ap length no_nodes) ∙ ap (λ (l : List Node). at (turns_of 0 l) r) grows in
    subst (λ (x : State). Walk leads node (at (turns_of 0 r.nodes.items) r) x) from (subst (λ (x : State). Walk leads node x (at (own ++ []) q)) to (a.walks []))

-- the same from the first project on
pub split_first : (k : ℕ) (ps : List (List Wish)) (ws : List Wish) → k < length ps → ws ≡ get_or ps k ws → turns_from 0 ps ≡ turns_from 0 (take k ps) ++ (map (turn_by (at_project k)) ws ++ turns_from (suc k) (drop (suc k) ps))
split_first k ps ws h is =
    let z : 0 + k ≡ k = omega arith in
    starts_split 0 k ps ws h is ∙ ap (λ (n : ℕ). turns_from 0 (take k ps) ++ (map (turn_by (at_project n)) ws ++ turns_from (suc n) (drop (suc k) ps))) z

pub more_first : (k : ℕ) (ps : List (List Wish)) (ws : List Wish) → k < length ps → ws ≡ get_or ps k ws → turns_from 0 (take (k + 1) ps) ≡ turns_from 0 (take k ps) ++ map (turn_by (at_project k)) ws
more_first k ps ws h is =
    let z : 0 + k ≡ k = omega arith in
    starts_more 0 k ps ws h is ∙ ap (λ (n : ℕ). turns_from 0 (take k ps) ++ map (turn_by (at_project n)) ws) z

-- All edges are taken, or one is refused, after those of the projects.
pub stops_first : {F : Type 0} (leads : Wish → Option Aim → Type 0) (node : Node → Type 0) (lost : Wish → F → Type 0) (unread : Id → F → Type 0) (folders : List (List ℕ)) (own : List Turn) (q : Queue) (f : WalkFault F) → q.nodes.items ≡ [] → q.links.items ≡ [] → StopsIn leads node lost unread folders own q f → StopsSomewhere leads node lost unread folders (start own) f
stops_first leads node lost unread folders own q f no_nodes no_links a =
    let T = turns_of (length q.nodes.items) a.took.added in
    let from : at (a.front ++ a.edge ∷ a.rest) q ≡ start own = ap (λ (l : List Turn). at l q) (sym a.is) ∙ at_start own q no_nodes no_links in
    record {
      end = at ((a.edge ∷ a.rest) ++ T) a.there;
      stopped = record {
        walk = subst (λ (x : State). Walk leads node (at ((a.edge ∷ a.rest) ++ T) a.there) x) from (a.took.walks (a.edge ∷ a.rest));
        turn = a.edge;
        rest = a.rest ++ T;
        next = refl;
        why = a.why;
      };
    }

-- a stop after a walk
stopped_later : {F : Type 0} (leads leads' : Wish → Option Aim → Type 0) (node node' : Node → Type 0) (lost lost' : Wish → F → Type 0) (unread unread' : Id → F → Type 0) (folders : List (List ℕ)) (m s : State) (f : WalkFault F)
    → Keeps leads leads' node node' lost lost' unread unread' → Walk leads node m s → StopsSomewhere leads' node' lost' unread' folders m f → StopsSomewhere leads node lost unread folders s f
stopped_later leads leads' node node' lost lost' unread unread' folders m s f k w a = record {
  end = a.end;
  stopped = record {
    walk = walk_on leads node m a.end s w (walk_from leads leads' node node' lost lost' unread unread' a.end m k a.stopped.walk);
    turn = a.stopped.turn;
    rest = a.stopped.rest;
    next = a.stopped.next;
    why = refused_from leads leads' node node' lost lost' unread unread' folders a.end.met a.stopped.turn f k a.stopped.why;
  };
}

pub stops_later : {F : Type 0} (leads leads' : Wish → Option Aim → Type 0) (node node' : Node → Type 0) (lost lost' : Wish → F → Type 0) (unread unread' : Id → F → Type 0) (folders : List (List ℕ)) (m s : State) (f : WalkFault F)
    → Keeps leads leads' node node' lost lost' unread unread' → Walk leads node m s → Stops leads' node' lost' unread' folders m f → Stops leads node lost unread folders s f
stops_later leads leads' node node' lost lost' unread unread' folders m s (Ways e x) k w a = stopped_later leads leads' node node' lost lost' unread unread' folders m s (Ways e x) k w a
stops_later leads leads' node node' lost lost' unread unread' folders m s (Packages n) k w a = stopped_later leads leads' node node' lost lost' unread unread' folders m s (Packages n) k w a
stops_later leads leads' node node' lost lost' unread unread' folders m s Memory k w a = tt
