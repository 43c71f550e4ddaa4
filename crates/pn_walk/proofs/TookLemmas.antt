-- Edges that are taken.
use Rattle.std.proofs.Common.{◌≡◌, ◌<◌, ℕ, List, [], ◌∷◌, ◌++◌, Option, Some, None, length, map, refl, sym, ap, ◌∙◌, subst, inl, inr}
use Rattle.std.proofs.lemmas.List.{append-nil}
use Rattle.pn_text.specs.declared.limits.TheConstants.{PACKAGE_LIMIT}
use Rattle.pn_walk.specs.Wants.{Id, Wish, Node, Aim, to_project, to_package, Place, at_package}
use Rattle.pn_walk.specs.Walks.{Turn, Link, State, turn_by, turns_of, place_of, Lands, LandsAt, Moves, Walk, ends, goes}
use Rattle.pn_walk.specs.Keeps.{Keeps}
use Rattle.pn_walk.specs.declared.state.Queue.{Queue}
use Rattle.pn_walk.specs.declared.fault.WalkFault.{WalkFault}
use Rattle.pn_walk.specs.declared.fault.WalkFault.TheVariants.{Ways, Packages, Memory}
use Rattle.pn_text.specs.declared.ids.Edge.{Edge}
use Rattle.pn_walk.specs.Edges.{asker, IsEdgeOf, AskedFrom, NamesEdge, IsNamed}
use Rattle.pn_walk.specs.Calls.{link_of, Met, Took, EdgeRefused, IsTooMany, OnWays}

pub met_before : (node : Node → Type 0) (i : Id) (q : Queue) (k : ℕ) → Some k ≡ place_of i q.nodes.items → Met node i (at_package k) q q
met_before node i q k is = record {
  added = [];
  grows = sym (append-nil q.nodes.items);
  links = refl;
  lands = subst (λ (o : Option ℕ). LandsAt node q.nodes.items i o (Some (at_package k)) []) is (record { at = refl; only = refl });
}

pub met_now : (node : Node → Type 0) (i : Id) (n : Node) (q r : Queue) (to : Place) → None ≡ place_of i q.nodes.items → node n → n.id ≡ i → length q.nodes.items < PACKAGE_LIMIT
    → to ≡ at_package (length q.nodes.items) → r.nodes.items ≡ q.nodes.items ++ n ∷ [] → r.links.items ≡ q.links.items → Met node i to q r
met_now node i n q r to is found here room place grows links = record {
  added = n ∷ [];
  grows = grows;
  links = links;
  lands = subst (λ (o : Option ℕ). LandsAt node q.nodes.items i o (Some to) (n ∷ [])) is (record { new = n; is = found; here = here; room = room; at = ap Some place; only = refl });
}

pub too_many : {F : Type 0} (leads : Wish → Option Aim → Type 0) (node : Node → Type 0) (lost : Wish → F → Type 0) (unread : Id → F → Type 0) (folders : List (List ℕ)) (met : List Node) (e : Turn) (i : Id) (n : Node) (f : WalkFault F)
    → leads e.wish (Some (to_package i)) → None ≡ place_of i met → node n → n.id ≡ i → IsTooMany met f → EdgeRefused leads node lost unread folders met e f
too_many leads node lost unread folders met e i n (Ways x f) aims fresh is here h = absurd h
too_many leads node lost unread folders met e i n (Packages c) aims fresh is here h = (h.0, record { id = i; aims = aims; fresh = sym fresh; why = record { found = n; is = is; here = here; full = h.1 } })
too_many leads node lost unread folders met e i n Memory aims fresh is here h = tt

edge_of : {F : Type 0} (folders : List (List ℕ)) (met : List Node) (who : Place) (text : List ℕ) (w : Wish) (f g : F) (x : Edge) → asker folders met who ≡ Some text → NamesEdge text w f x g → IsEdgeOf folders met (turn_by who w) x
edge_of folders met who text w f g x asks n = record { from = asks ∙ ap Some (sym n.from); alias = n.alias; specifier = n.specifier }

-- an edge that is refused for what its wish meets
pub refused_lost : {F : Type 0} (leads : Wish → Option Aim → Type 0) (node : Node → Type 0) (lost : Wish → F → Type 0) (unread : Id → F → Type 0) (met : List Node) (who : Place) (text : List ℕ) (w : Wish) (f : F) (r : WalkFault F)
    → lost w f → IsNamed text w f r → AskedFrom text met who (λ folders. EdgeRefused leads node lost unread folders met (turn_by who w) r)
refused_lost leads node lost unread met who text w f (Ways x g) h n = λ folders asks. (edge_of folders met who text w f g x asks n, inl (subst (lost w) (sym n.why) h))
refused_lost leads node lost unread met who text w f (Packages c) h n = absurd n
refused_lost leads node lost unread met who text w f Memory h n = λ folders asks. tt

-- or for its package
pub refused_unread : {F : Type 0} (leads : Wish → Option Aim → Type 0) (node : Node → Type 0) (lost : Wish → F → Type 0) (unread : Id → F → Type 0) (met : List Node) (who : Place) (text : List ℕ) (w : Wish) (i : Id) (f : F) (r : WalkFault F)
    → leads w (Some (to_package i)) → None ≡ place_of i met → unread i f → IsNamed text w f r → AskedFrom text met who (λ folders. EdgeRefused leads node lost unread folders met (turn_by who w) r)
refused_unread leads node lost unread met who text w i f (Ways x g) aims fresh h n = λ folders asks. (edge_of folders met who text w f g x asks n, inr (record { id = i; aims = aims; fresh = sym fresh; why = subst (unread i) (sym n.why) h }))
refused_unread leads node lost unread met who text w i f (Packages c) aims fresh h n = absurd n
refused_unread leads node lost unread met who text w i f Memory aims fresh h n = λ folders asks. tt

-- what a refusal says of the calls before it stays where it is named
pub on_named : {F : Type 0} (P : F → Type 0) (text : List ℕ) (w : Wish) (f : F) (r : WalkFault F) → P f → IsNamed text w f r → OnWays P r
on_named P text w f (Ways x g) h n = subst P (sym n.why) h
on_named P text w f (Packages c) h n = absurd n
on_named P text w f Memory h n = tt

abbrev state : List Turn → List Node → List Link → State
state todo met links = record { todo = todo; met = met; links = links }

-- the edge to a package that was met
pub took_package : (leads : Wish → Option Aim → Type 0) (node : Node → Type 0) (who : Place) (w : Wish) (i : Id) (to : Place) (q r s : Queue) → leads w (Some (to_package i)) → Met node i to q r
    → s.nodes.items ≡ r.nodes.items → map link_of s.links.items ≡ map link_of r.links.items ++ record { turn = turn_by who w; to = Some to } ∷ [] → Took leads node (turn_by who w) q s
took_package leads node who w i to q r s aims m nodes links = record {
  added = m.added;
  grows = nodes ∙ m.grows;
  moves = λ rest. record {
    turn = turn_by who w;
    rest = rest;
    next = refl;
    to = Some to;
    added = m.added;
    takes = record { aim = Some (to_package i); aims = aims; lands = m.lands };
    is = ap (λ (l : List Node). state (rest ++ turns_of (length q.nodes.items) m.added) l (map link_of s.links.items)) (nodes ∙ m.grows)
        ∙ ap (state (rest ++ turns_of (length q.nodes.items) m.added) (q.nodes.items ++ m.added)) (links ∙ ap (λ l. map link_of l ++ record { turn = turn_by who w; to = Some to } ∷ []) m.links);
  };
}

-- an edge that leads to no package
pub took_other : (leads : Wish → Option Aim → Type 0) (node : Node → Type 0) (who : Place) (w : Wish) (aim : Option Aim) (to : Option Place) (q s : Queue) → leads w aim → Lands node q.nodes.items aim to []
    → s.nodes.items ≡ q.nodes.items → map link_of s.links.items ≡ map link_of q.links.items ++ record { turn = turn_by who w; to = to } ∷ [] → Took leads node (turn_by who w) q s
took_other leads node who w aim to q s aims lands nodes links = record {
  added = [];
  grows = nodes ∙ sym (append-nil q.nodes.items);
  moves = λ rest. record {
    turn = turn_by who w;
    rest = rest;
    next = refl;
    to = to;
    added = [];
    takes = record { aim = aim; aims = aims; lands = lands };
    is = ap (λ (l : List Node). state (rest ++ []) l (map link_of s.links.items)) (nodes ∙ sym (append-nil q.nodes.items)) ∙ ap (state (rest ++ []) (q.nodes.items ++ [])) links;
  };
}

lands_at_from : (node node' : Node → Type 0) → ((n : Node) → node' n → node n) → (met : List Node) (i : Id) (o : Option ℕ) (to : Option Place) (added : List Node) → LandsAt node' met i o to added → LandsAt node met i o to added
lands_at_from node node' f met i (Some k) to added h = h
lands_at_from node node' f met i None to added h = record { new = h.new; is = f h.new h.is; here = h.here; room = h.room; at = h.at; only = h.only }

pub lands_from : (node node' : Node → Type 0) → ((n : Node) → node' n → node n) → (met : List Node) (aim : Option Aim) (to : Option Place) (added : List Node) → Lands node' met aim to added → Lands node met aim to added
lands_from node node' f met None to added h = h
lands_from node node' f met (Some (to_project q)) to added h = h
lands_from node node' f met (Some (to_package i)) to added h = lands_at_from node node' f met i (place_of i met) to added h

-- what was taken after a call
pub took_from : {F : Type 0} (leads leads' : Wish → Option Aim → Type 0) (node node' : Node → Type 0) (lost lost' : Wish → F → Type 0) (unread unread' : Id → F → Type 0) (e : Turn) (q s : Queue)
    → Keeps leads leads' node node' lost lost' unread unread' → Took leads' node' e q s → Took leads node e q s
took_from leads leads' node node' lost lost' unread unread' e q s k t = record {
  added = t.added;
  grows = t.grows;
  moves = λ rest. let m = t.moves rest in record {
    turn = m.turn;
    rest = m.rest;
    next = m.next;
    to = m.to;
    added = m.added;
    takes = record { aim = m.takes.aim; aims = k.aims m.turn.wish m.takes.aim m.takes.aims; lands = lands_from node node' k.nodes q.nodes.items m.takes.aim m.to m.added m.takes.lands };
    is = m.is;
  };
}

pub refused_from : {F : Type 0} (leads leads' : Wish → Option Aim → Type 0) (node node' : Node → Type 0) (lost lost' : Wish → F → Type 0) (unread unread' : Id → F → Type 0) (folders : List (List ℕ)) (met : List Node) (e : Turn) (f : WalkFault F)
    → Keeps leads leads' node node' lost lost' unread unread' → EdgeRefused leads' node' lost' unread' folders met e f → EdgeRefused leads node lost unread folders met e f
refused_from leads leads' node node' lost lost' unread unread' folders met e (Ways x f) k h = (
  h.0,
  elim (h.1) [
    | inl l ↦ inl (k.losses e.wish f l)
    | inr n ↦ inr (record { id = n.id; aims = k.aims e.wish (Some (to_package n.id)) n.aims; fresh = n.fresh; why = k.faults n.id f n.why })
  ],
)
refused_from leads leads' node node' lost lost' unread unread' folders met e (Packages n) k h =
    let x = h.1 in
    let y = x.why in
    (h.0, record { id = x.id; aims = k.aims e.wish (Some (to_package x.id)) x.aims; fresh = x.fresh; why = record { found = y.found; is = k.nodes y.found y.is; here = y.here; full = y.full } })
refused_from leads leads' node node' lost lost' unread unread' folders met e Memory k h = tt

pub keeps_on : {F : Type 0} (l1 l2 l3 : Wish → Option Aim → Type 0) (n1 n2 n3 : Node → Type 0) (o1 o2 o3 : Wish → F → Type 0) (u1 u2 u3 : Id → F → Type 0)
    → Keeps l1 l2 n1 n2 o1 o2 u1 u2 → Keeps l2 l3 n2 n3 o2 o3 u2 u3 → Keeps l1 l3 n1 n3 o1 o3 u1 u3
keeps_on l1 l2 l3 n1 n2 n3 o1 o2 o3 u1 u2 u3 a b = record {
  aims = λ w x h. a.aims w x (b.aims w x h);
  still = λ w x h. b.still w x (a.still w x h);
  nodes = λ n h. a.nodes n (b.nodes n h);
  losses = λ w f h. a.losses w f (b.losses w f h);
  faults = λ i f h. a.faults i f (b.faults i f h);
}

pub keeps_same : {F : Type 0} (l : Wish → Option Aim → Type 0) (n : Node → Type 0) (o : Wish → F → Type 0) (u : Id → F → Type 0) → Keeps l l n n o o u u
keeps_same l n o u = record { aims = λ w x h. h; still = λ w x h. h; nodes = λ n h. h; losses = λ w f h. h; faults = λ i f h. h }

-- a step after a walk
pub walk_more : (leads : Wish → Option Aim → Type 0) (node : Node → Type 0) (m t s : State) → Walk leads node m s → Moves leads node m t → Walk leads node t s
walk_more leads node m t _ (ends s e) v = goes s t (subst (λ (x : State). Moves leads node x t) (sym e) v) (ends t refl)
walk_more leads node m t _ (goes s n u w) v = goes s n u (walk_more leads node m t n w v)

pub walk_on : (leads : Wish → Option Aim → Type 0) (node : Node → Type 0) (m t s : State) → Walk leads node m s → Walk leads node t m → Walk leads node t s
walk_on leads node m t _ (ends s e) v = subst (Walk leads node t) (sym e) v
walk_on leads node m t _ (goes s n u w) v = goes s n u (walk_on leads node m t n w v)

pub on_ways : {F : Type 0} (P Q : F → Type 0) (f : WalkFault F) → ((x : F) → P x → Q x) → OnWays P f → OnWays Q f
on_ways P Q (Ways e x) h k = h x k
on_ways P Q (Packages n) h k = tt
on_ways P Q Memory h k = tt
