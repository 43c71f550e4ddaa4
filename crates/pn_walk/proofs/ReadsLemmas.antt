-- Wishes that are followed, and packages that are read, by calls one after the other.
use Rattle.std.proofs.Common.{◌≡◌, ℕ, List, [], ◌∷◌, ◌++◌, Option, Some, None, map, refl, sym, ap, ◌∙◌, subst, append_assoc, inl, inr, length}
use Rattle.std.specs.List.{Contains}
use Rattle.std.proofs.lemmas.List.{map-append, append-nil, append_cancel_left}
use Rattle.std.proofs.lemmas.List.Elements.{Contains-append_left, Contains-append_right, Contains-append_cases}
use Rattle.pn_text.proofs.Members.{none_in, in_one, here, there, from_map, to_map}
use Rattle.pn_walk.specs.Wants.{Id, Wish, Node, Aim, Place, to_package}
use Rattle.pn_walk.specs.Walks.{Turn, Link, State, Walk, ends, turn_by, turns_of, place_of, LandsAt, IsWalked, start}
use Rattle.pn_walk.specs.Graphs.{id_of, turn_of, IsDistinct, IsWanted}
use Rattle.pn_walk.specs.Keeps.{Keeps}
use Rattle.pn_walk.specs.declared.state.Queue.{Queue}
use Rattle.pn_walk.specs.Calls.{at, link_of, Met, TookAll}
use Rattle.pn_walk.specs.Reads.{wish_of, AreNew, HasRead, MayRead, none, new, ReadsFor, MayBegin, waits, begins, ReadsOnce}
use Rattle.pn_walk.proofs.GraphLemmas.{not_there, Fits, fits_start, fits_walk, asked_all, asked_next}
use Rattle.pn_walk.proofs.TookLemmas.{walk_on}
use Rattle.pn_walk.proofs.TookAllLemmas.{walk_from}
use Rattle.pn_walk.proofs.StartLemmas.{at_start}

new_none : (met : List Node) → AreNew met []
new_none met = record { once = tt; unmet = λ i c d. none_in i c }

new_one : (met : List Node) (i : Id) → place_of i met ≡ None → AreNew met (i ∷ [])
new_one met i fresh = record {
  once = (none_in i, tt);
  unmet = λ j c d. not_there i met fresh (subst (Contains (map id_of met)) (sym (in_one i j c)) d);
}

pub distinct_on : (xs ys : List Id) → IsDistinct xs → IsDistinct ys → ((i : Id) → Contains xs i → Contains ys i → ⊥) → IsDistinct (xs ++ ys)
distinct_on [] ys h k apart = k
distinct_on (x ∷ xs) ys h k apart = (
  λ c. elim (Contains-append_cases xs ys x c) [
    | inl i ↦ h.0 i
    | inr j ↦ apart x (here x xs) j
  ],
  distinct_on xs ys h.1 k (λ i c d. apart i (there x xs i c) d),
)

new_on : (met added : List Node) (js : List Id) → AreNew met (map id_of added) → AreNew (met ++ added) js → AreNew met (map id_of added ++ js)
new_on met added js h k =
    let ids = map id_of added in
    let both : (i : Id) → Contains (map id_of met ++ ids) i → Contains (map id_of (met ++ added)) i = λ i c. subst (λ (l : List Id). Contains l i) (sym (map-append id_of met added)) c in
    record {
      once = distinct_on ids js h.once k.once (λ i c d. k.unmet i d (both i (Contains-append_right (map id_of met) ids i c)));
      unmet = λ i c d. elim (Contains-append_cases ids js i c) [
        | inl e ↦ h.unmet i e d
        | inr e ↦ k.unmet i e (both i (Contains-append_left (map id_of met) ids i d))
      ];
    }

-- Nothing happens.
pub read_none : (reads : List Wish → List Id → Type 0) (s : State) → reads [] [] → HasRead reads s s
read_none reads s read = record { taken = []; takes = sym (append-nil s.links); added = []; grows = sym (append-nil s.met); read = read; fresh = new_none s.met }

-- One edge leads to no package.
pub read_link : (reads : List Wish → List Id → Type 0) (who : Place) (w : Wish) (to : Option Place) (q s : Queue) → s.nodes.items ≡ q.nodes.items → map link_of s.links.items ≡ map link_of q.links.items ++ record { turn = turn_by who w; to = to } ∷ []
    → reads (w ∷ []) [] → HasRead reads (at [] q) (at [] s)
read_link reads who w to q s nodes links read = record {
  taken = record { turn = turn_by who w; to = to } ∷ [];
  takes = links;
  added = [];
  grows = nodes ∙ sym (append-nil q.nodes.items);
  read = read;
  fresh = new_none q.nodes.items;
}

-- One package is met.
pub read_one : (reads : List Id → Type 0) (q s : Queue) (i : Id) (n : Node) → None ≡ place_of i q.nodes.items → n.id ≡ i → s.nodes.items ≡ q.nodes.items ++ n ∷ [] → s.links.items ≡ q.links.items → reads (i ∷ []) → HasRead (λ ws is. reads is) (at [] q) (at [] s)
read_one reads q s i n fresh here grows links read = record {
  taken = [];
  takes = ap (map link_of) links ∙ sym (append-nil (map link_of q.links.items));
  added = n ∷ [];
  grows = grows;
  read = subst (λ (x : Id). reads (x ∷ [])) (sym here) read;
  fresh = subst (λ (x : Id). AreNew q.nodes.items (x ∷ [])) (sym here) (new_one q.nodes.items i (sym fresh));
}

-- Its edge is taken.
pub read_linked : (reads : List Id → Type 0) (who : Place) (w : Wish) (to : Option Place) (q r s : Queue) → HasRead (λ ws is. reads is) (at [] q) (at [] r) → r.links.items ≡ q.links.items → s.nodes.items ≡ r.nodes.items
    → map link_of s.links.items ≡ map link_of r.links.items ++ record { turn = turn_by who w; to = to } ∷ [] → HasRead (λ ws is. (ws ≡ w ∷ []) × reads is) (at [] q) (at [] s)
read_linked reads who w to q r s h same nodes links = record {
  taken = record { turn = turn_by who w; to = to } ∷ [];
  takes = links ∙ ap (λ l. map link_of l ++ record { turn = turn_by who w; to = to } ∷ []) same;
  added = h.added;
  grows = nodes ∙ h.grows;
  read = (refl, h.read);
  fresh = h.fresh;
}

-- The wish is followed before.
pub read_followed : (whole : List Wish → List Id → Type 0) (reads : List Id → Type 0) (w : Wish) (s t : State) → ((is : List Id) → reads is → whole (w ∷ []) is) → HasRead (λ ws is. (ws ≡ w ∷ []) × reads is) s t → HasRead whole s t
read_followed whole reads w s t on h = record {
  taken = h.taken;
  takes = h.takes;
  added = h.added;
  grows = h.grows;
  read = subst (λ (ws : List Wish). whole ws (map id_of h.added)) (sym h.read.0) (on (map id_of h.added) h.read.1);
  fresh = h.fresh;
}

-- where later calls are after others
pub read_on : (first later whole : List Wish → List Id → Type 0) (a b c : State) → ((ws vs : List Wish) (is js : List Id) → first ws is → later vs js → whole (ws ++ vs) (is ++ js)) → HasRead first a b → HasRead later b c → HasRead whole a c
read_on first later whole a b c on h k = record {
  taken = h.taken ++ k.taken;
  takes = k.takes ∙ ap (λ (l : List Link). l ++ k.taken) h.takes ∙ append_assoc a.links h.taken k.taken;
  added = h.added ++ k.added;
  grows = k.grows ∙ ap (λ (l : List Node). l ++ k.added) h.grows ∙ append_assoc a.met h.added k.added;
  read = subst (λ (ws : List Wish). whole ws (map id_of (h.added ++ k.added))) (sym (map-append wish_of h.taken k.taken))
      (subst (whole (map wish_of h.taken ++ map wish_of k.taken)) (sym (map-append id_of h.added k.added)) (on (map wish_of h.taken) (map wish_of k.taken) (map id_of h.added) (map id_of k.added) h.read k.read));
  fresh = subst (AreNew a.met) (sym (map-append id_of h.added k.added)) (new_on a.met h.added (map id_of k.added) h.fresh (subst (λ (l : List Node). AreNew l (map id_of k.added)) h.grows k.fresh));
}

-- whatever waits
read_at : (reads : List Wish → List Id → Type 0) (xs ys : List Turn) (q r : Queue) → HasRead reads (at [] q) (at [] r) → HasRead reads (at xs q) (at ys r)
read_at reads xs ys q r h = record { taken = h.taken; takes = h.takes; added = h.added; grows = h.grows; read = h.read; fresh = h.fresh }

may_read_from : {F : Type 0} (leads leads' : Wish → Option Aim → Type 0) (node node' : Node → Type 0) (lost lost' : Wish → F → Type 0) (unread unread' : Id → F → Type 0) (met : List Node) (w : Wish) (ids : List Id)
    → Keeps leads leads' node node' lost lost' unread unread' → MayRead leads' met w ids → MayRead leads met w ids
may_read_from leads leads' node node' lost lost' unread unread' met w _ k none = none
may_read_from leads leads' node node' lost lost' unread unread' met w _ k (new i aims fresh) = new i (k.aims w (Some (to_package i)) aims) fresh

may_begin_from : {F : Type 0} (leads leads' : Wish → Option Aim → Type 0) (node node' : Node → Type 0) (lost lost' : Wish → F → Type 0) (unread unread' : Id → F → Type 0) (t : State) (ws : List Wish) (ids : List Id)
    → Keeps leads leads' node node' lost lost' unread unread' → MayBegin leads' t ws ids → MayBegin leads t ws ids
may_begin_from leads leads' node node' lost lost' unread unread' t _ _ k waits = waits
may_begin_from leads leads' node node' lost lost' unread unread' t _ _ k (begins e rest ids next few) = begins e rest ids next (may_read_from leads leads' node node' lost lost' unread unread' t.met e.wish ids k few)

-- An edge isn't taken.
pub for_none : (leads : Wish → Option Aim → Type 0) (reads : List Id → Type 0) (met : List Node) (w : Wish) → reads [] → ReadsFor leads reads met w
for_none leads reads met w read = record { ids = []; few = none; read = read }

pub for_one : (leads : Wish → Option Aim → Type 0) (reads : List Id → Type 0) (met : List Node) (w : Wish) (i : Id) → leads w (Some (to_package i)) → None ≡ place_of i met → reads (i ∷ []) → ReadsFor leads reads met w
for_one leads reads met w i aims fresh read = record { ids = i ∷ []; few = new i aims (sym fresh); read = read }

-- The package was met, but its edge isn't taken.
met_read : (leads : Wish → Option Aim → Type 0) (node : Node → Type 0) (w : Wish) (i : Id) (o : Option ℕ) (to : Place) (met added : List Node) → place_of i met ≡ o → leads w (Some (to_package i)) → LandsAt node met i o (Some to) added → MayRead leads met w (map id_of added)
met_read leads node w i (Some k) to met added is aims h = subst (λ (l : List Node). MayRead leads met w (map id_of l)) (sym h.only) none
met_read leads node w i None to met added is aims h = subst (λ (l : List Node). MayRead leads met w (map id_of l)) (sym h.only) (subst (λ (x : Id). MayRead leads met w (x ∷ [])) (sym h.here) (new i aims is))

pub for_met : (leads : Wish → Option Aim → Type 0) (node : Node → Type 0) (reads stops : List Id → Type 0) (w : Wish) (i : Id) (to : Place) (q r : Queue) → ((is : List Id) → reads is → stops is) → leads w (Some (to_package i)) → Met node i to q r
    → HasRead (λ ws is. reads is) (at [] q) (at [] r) → ReadsFor leads stops q.nodes.items w
for_met leads node reads stops w i to q r may aims m h =
    let same : h.added ≡ m.added = append_cancel_left q.nodes.items h.added m.added (sym h.grows ∙ m.grows) in
    record {
      ids = map id_of h.added;
      few = subst (λ (l : List Node). MayRead leads q.nodes.items w (map id_of l)) (sym same) (met_read leads node w i (place_of i q.nodes.items) to q.nodes.items m.added refl aims m.lands);
      read = may (map id_of h.added) h.read;
    }

pub for_from : {F : Type 0} (leads leads' : Wish → Option Aim → Type 0) (node node' : Node → Type 0) (lost lost' : Wish → F → Type 0) (unread unread' : Id → F → Type 0) (reads whole : List Id → Type 0) (met : List Node) (w : Wish)
    → Keeps leads leads' node node' lost lost' unread unread' → ((is : List Id) → reads is → whole is) → ReadsFor leads' reads met w → ReadsFor leads whole met w
for_from leads leads' node node' lost lost' unread unread' reads whole met w k on h = record { ids = h.ids; few = may_read_from leads leads' node node' lost lost' unread unread' met w h.ids k h.few; read = on h.ids h.read }

-- a walk that stops at the first edge that waits
pub once_first : (leads : Wish → Option Aim → Type 0) (node : Node → Type 0) (reads : List Wish → List Id → Type 0) (e : Turn) (rest : List Turn) (q : Queue) → ReadsFor leads (reads (e.wish ∷ [])) q.nodes.items e.wish → ReadsOnce leads node reads (at (e ∷ rest) q)
once_first leads node reads e rest q h =
    let s = at (e ∷ rest) q in
    record {
      end = s;
      walk = ends s refl;
      wishes = e.wish ∷ [];
      ids = h.ids;
      begun = begins e rest h.ids refl h.few;
      before = read_none (λ ws is. reads (ws ++ e.wish ∷ []) (is ++ h.ids)) s h.read;
    }

-- or between two edges
pub once_until : (leads : Wish → Option Aim → Type 0) (node : Node → Type 0) (reads stops : List Wish → List Id → Type 0) (xs ys : List Turn) (q r : Queue) → ((ws : List Wish) (is : List Id) → reads ws is → stops ws is)
    → Walk leads node (at ys r) (at xs q) → HasRead reads (at [] q) (at [] r) → ReadsOnce leads node stops (at xs q)
once_until leads node reads stops xs ys q r may w h = record {
  end = at ys r;
  walk = w;
  wishes = [];
  ids = [];
  begun = waits;
  before = record {
    taken = h.taken;
    takes = h.takes;
    added = h.added;
    grows = h.grows;
    read = subst (λ (l : List Wish). stops l (map id_of h.added ++ [])) (sym (append-nil (map wish_of h.taken))) (subst (stops (map wish_of h.taken)) (sym (append-nil (map id_of h.added))) (may (map wish_of h.taken) (map id_of h.added) h.read));
    fresh = h.fresh;
  };
}

-- a walk that stops after other edges
pub once_on : {F : Type 0} (leads leads' : Wish → Option Aim → Type 0) (node node' : Node → Type 0) (lost lost' : Wish → F → Type 0) (unread unread' : Id → F → Type 0) (first later whole : List Wish → List Id → Type 0) (xs ys : List Turn) (q r : Queue)
    → Keeps leads leads' node node' lost lost' unread unread' → ((ws vs : List Wish) (is js : List Id) → first ws is → later vs js → whole (ws ++ vs) (is ++ js))
    → Walk leads node (at ys r) (at xs q) → HasRead first (at [] q) (at [] r) → ReadsOnce leads' node' later (at ys r) → ReadsOnce leads node whole (at xs q)
once_on leads leads' node node' lost lost' unread unread' first later whole xs ys q r k on w h u =
    let all : (ws vs : List Wish) (is js : List Id) → first ws is → later (vs ++ u.wishes) (js ++ u.ids) → whole ((ws ++ vs) ++ u.wishes) ((is ++ js) ++ u.ids) =
    λ ws vs is js a b. subst (λ (l : List Wish). whole l ((is ++ js) ++ u.ids)) (sym (append_assoc ws vs u.wishes)) (subst (whole (ws ++ (vs ++ u.wishes))) (sym (append_assoc is js u.ids)) (on ws (vs ++ u.wishes) is (js ++ u.ids) a b)) in
    record {
      end = u.end;
      walk = walk_on leads node (at ys r) u.end (at xs q) w (walk_from leads leads' node node' lost lost' unread unread' u.end (at ys r) k u.walk);
      wishes = u.wishes;
      ids = u.ids;
      begun = may_begin_from leads leads' node node' lost lost' unread unread' u.end u.wishes u.ids k u.begun;
      before = read_on first (λ vs js. later (vs ++ u.wishes) (js ++ u.ids)) (λ vs js. whole (vs ++ u.wishes) (js ++ u.ids)) (at xs q) (at ys r) u.end all (read_at first xs ys q r h) u.before;
    }

-- It stops among these edges, after others.
pub once_in : {F : Type 0} (leads leads' : Wish → Option Aim → Type 0) (node node' : Node → Type 0) (lost lost' : Wish → F → Type 0) (unread unread' : Id → F → Type 0) (first later whole : List Wish → List Id → Type 0) (xs ys rest all : List Turn) (q r : Queue)
    → Keeps leads leads' node node' lost lost' unread unread' → ((ws vs : List Wish) (is js : List Id) → first ws is → later vs js → whole (ws ++ vs) (is ++ js))
    → all ≡ xs ++ (ys ++ rest) → TookAll leads node xs q r → HasRead first (at [] q) (at [] r) → ((more : List Turn) → ReadsOnce leads' node' later (at (ys ++ more) r)) → ReadsOnce leads node whole (at all q)
once_in leads leads' node node' lost lost' unread unread' first later whole xs ys rest all q r k on is a h u =
    let more = turns_of (length q.nodes.items) a.added in
    let to : (ys ++ rest) ++ more ≡ ys ++ (rest ++ more) = append_assoc ys rest more in
    let walk : Walk leads node (at (ys ++ (rest ++ more)) r) (at all q) =
    subst (λ (l : List Turn). Walk leads node (at (ys ++ (rest ++ more)) r) (at l q)) (sym is) (subst (λ (l : List Turn). Walk leads node (at l r) (at (xs ++ (ys ++ rest)) q)) to (a.walks (ys ++ rest))) in
    once_on leads leads' node node' lost lost' unread unread' first later whole all (ys ++ (rest ++ more)) q r k on walk h (u (rest ++ more))

-- from nothing
pub read_first : (reads : List Wish → List Id → Type 0) (q : Queue) (t : State) → q.nodes.items ≡ [] → q.links.items ≡ [] → HasRead reads (at [] q) t → HasRead reads (start []) t
read_first reads q t nodes links h = subst (λ (s : State). HasRead reads s t) (at_start [] q nodes links) h

pub once_start : (leads : Wish → Option Aim → Type 0) (node : Node → Type 0) (reads : List Wish → List Id → Type 0) (own : List Turn) (q : Queue) → q.nodes.items ≡ [] → q.links.items ≡ [] → ReadsOnce leads node reads (at own q) → ReadsOnce leads node reads (start own)
once_start leads node reads own q nodes links h = subst (ReadsOnce leads node reads) (at_start own q nodes links) h

-- No package is read twice where a walk stops.
begun_new : (leads : Wish → Option Aim → Type 0) (t : State) (ws : List Wish) (ids : List Id) → MayBegin leads t ws ids → AreNew t.met ids
begun_new leads t _ _ waits = new_none t.met
begun_new leads t _ _ (begins e rest ids next few) = few_new e.wish ids few where
  few_new : (w : Wish) (is : List Id) → MayRead leads t.met w is → AreNew t.met is
  few_new w _ none = new_none t.met
  few_new w _ (new i aims fresh) = new_one t.met i fresh

pub once_new : (leads : Wish → Option Aim → Type 0) (node : Node → Type 0) (reads : List Wish → List Id → Type 0) (s : State) (h : ReadsOnce leads node reads s) → AreNew s.met (map id_of h.before.added ++ h.ids)
once_new leads node reads s h = new_on s.met h.before.added h.ids h.before.fresh (subst (λ (l : List Node). AreNew l h.ids) h.before.grows (begun_new leads h.end h.wishes h.ids h.begun))

-- The wishes that are followed are asked for.
taken_wanted : (leads : Wish → Option Aim → Type 0) (node : Node → Type 0) (own : List Turn) (s : State) → Fits leads node own s → (w : Wish) → Contains (map wish_of s.links) w → IsWanted leads node own w
taken_wanted leads node own s h w c =
    let l = from_map wish_of s.links w c in
    record { edge = turn_of l.0; is = l.2; asked = asked_all leads node own s (turn_of l.0) h (Contains-append_left (map turn_of s.links) s.todo (turn_of l.0) (to_map turn_of s.links l.0 l.1)) }

next_wanted : (leads : Wish → Option Aim → Type 0) (node : Node → Type 0) (own : List Turn) (t : State) (ws : List Wish) (ids : List Id) → Fits leads node own t → MayBegin leads t ws ids → (w : Wish) → Contains ws w → IsWanted leads node own w
next_wanted leads node own t _ _ h waits w c = absurd (none_in w c)
next_wanted leads node own t _ _ h (begins e rest ids next few) w c = record { edge = e; is = in_one e.wish w c; asked = asked_next leads node own t e rest h next }

pub walked_wanted : (leads : Wish → Option Aim → Type 0) (node : Node → Type 0) (own : List Turn) (t : State) → IsWalked leads node (start own) t → (w : Wish) → Contains (map wish_of t.links) w → IsWanted leads node own w
walked_wanted leads node own t h = taken_wanted leads node own t (fits_walk leads node own t (start own) h.walk (fits_start leads node own))

pub once_wanted : (leads : Wish → Option Aim → Type 0) (node : Node → Type 0) (reads : List Wish → List Id → Type 0) (own : List Turn) (h : ReadsOnce leads node reads (start own)) → (w : Wish) → Contains (map wish_of h.before.taken ++ h.wishes) w → IsWanted leads node own w
once_wanted leads node reads own h w c =
    let fit : Fits leads node own h.end = fits_walk leads node own h.end (start own) h.walk (fits_start leads node own) in
    elim (Contains-append_cases (map wish_of h.before.taken) h.wishes w c) [
      | inl i ↦ taken_wanted leads node own h.end fit w (subst (λ (l : List Link). Contains (map wish_of l) w) (sym h.before.takes) i)
      | inr j ↦ next_wanted leads node own h.end h.wishes h.ids fit h.begun w j
    ]
