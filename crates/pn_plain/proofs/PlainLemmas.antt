-- The plain graph is settled by the inputs.
use Rattle.std.proofs.Common.{◌≡◌, ℕ, ◌∷◌, suc, Bool, List, ◌++◌, Option, Some, refl, sym, ap, ◌∙◌, subst, map}
use Rattle.std.specs.Prelude.{Result, Ok, Err}
use Rattle.pn_walk.specs.declared.wish.Wish.{Wish}
use Rattle.pn_walk.specs.declared.node.Node.{Node}
use Rattle.pn_manifest.specs.declared.peers.Peer.{Peer}
use Rattle.pn_walk.specs.declared.wish.Place.TheVariants.{Project as at_project}
use Rattle.pn_walk.specs.Wants.{Id}
use Rattle.pn_walk.specs.Walks.{Turn, State, turn_by, start, Walk, IsWalked, IsStopped}
use Rattle.pn_walk.specs.Graphs.{IsGraph, IsAsked}
use Rattle.pn_walk.proofs.SettledLemmas.{one_end, stopped_stuck, same_walk, not_both, same_refusal}
use Rattle.pn_walk.proofs.GraphLemmas.{graph, refused_edge}
use Rattle.pn_published.specs.Shelves.{Shelf}
use Rattle.pn_plain.specs.Aims.{Leads}
use Rattle.pn_plain.specs.Causes.{Cause, Shown, Refused}
use Rattle.pn_manifest.specs.Said.{Said}
use Rattle.pn_plain.specs.Seen.{Owner, a_project, a_package, Hook, Rules, one_map, dependency_names, dropped, counted, wishes_of, IsSeen}
use Rattle.pn_plain.specs.Plains.{Project, Inputs, given_by, IsNode, AreStarts, no_more, one_more, IsPlain, IsUnplain}
use Rattle.pn_plain.specs.PlainLaws.{PlainLaw}
use Rattle.pn_plain.specs.Told.{Told, IsToldShelf, IsGap, IsToldManifest, IsUnread, IsOverridden, IsToldNode}
use Rattle.pn_plain.proofs.AimLemmas.{settled, apart}

-- overrides make one thing of a manifest
abbrev pub AreRules : Rules → Type 0
AreRules rules = (m a b : Said) → rules m a → rules m b → a ≡ b

-- a manifest is seen in one way
pub one_seen : (h : Hook) (r : Rules) → AreRules r → (o : Owner) (m a b : Said) → IsSeen h r o m a → IsSeen h r o m b → a ≡ b
one_seen h r one o m a b x y =
    x.is ∙ ap (λ (s : Said). dropped (dependency_names (one_map o (h o m))) s) (one (one_map o (h o m)) x.overridden y.overridden x.by_rules y.by_rules) ∙ sym y.is

pub one_start : (h : Hook) (r : Rules) → AreRules r → (auto : Bool) (k : ℕ) (ps : List Project) (a b : List Turn) → AreStarts h r auto k ps a → AreStarts h r auto k ps b → a ≡ b
one_start h r one auto _ _ _ _ (no_more k) (no_more j) = refl
one_start h r one auto _ _ _ _ (one_more k p ps f rest s more) (one_more j q qs g others t further) =
    ap (λ (m : Said). map (turn_by (at_project k)) (wishes_of (counted auto m)) ++ rest) (one_seen h r one a_project p.said f g s t)
    ∙ ap (λ (l : List Turn). map (turn_by (at_project k)) (wishes_of (counted auto g)) ++ l) (one_start h r one auto (suc k) ps rest others more further)

-- Where all edges are taken, packages and edges are those of the graph.
pub plain_graph : {F : Type 0} (P : List ℕ → Shelf → Type 0) (U : List ℕ → F → Type 0) (M : Id → Said → Type 0) (R : Id → F → Type 0) (h : Hook) (r : Rules) → Shown P U (IsNode M h r) R → (i : Inputs) (t : State)
    → (p : IsPlain P M h r i t) → IsGraph (Leads P (given_by i)) (IsNode M h r) p.own t.met t.links
plain_graph P U M R h r s i t p = graph (Leads P (given_by i)) (IsNode M h r) (settled P U (IsNode M h r) R s (given_by i)) p.own t p.walked

-- Inputs have one plain graph.
pub same_plain : {F : Type 0} (P : List ℕ → Shelf → Type 0) (U : List ℕ → F → Type 0) (M : Id → Said → Type 0) (R : Id → F → Type 0) (h : Hook) (r : Rules) → AreRules r → Shown P U (IsNode M h r) R → (i : Inputs) (t u : State)
    → IsPlain P M h r i t → IsPlain P M h r i u → t ≡ u
same_plain P U M R h r one s i t u a b =
    let leads = Leads P (given_by i) in
    let own : a.own ≡ b.own = one_start h r one i.auto_peers 0 i.projects a.own b.own a.starts b.starts in
    same_walk leads (IsNode M h r) (settled P U (IsNode M h r) R s (given_by i)) (start b.own) t u (subst (λ (l : List Turn). IsWalked leads (IsNode M h r) (start l) t) own a.walked) b.walked

-- A plain graph has no refusal.
pub plain_or_not : {F : Type 0} (P : List ℕ → Shelf → Type 0) (U : List ℕ → F → Type 0) (M : Id → Said → Type 0) (R : Id → F → Type 0) (h : Hook) (r : Rules) → AreRules r → Shown P U (IsNode M h r) R → (i : Inputs) (t u : State) (f : Cause F)
    → IsPlain P M h r i t → IsUnplain P U M R h r i u f → ⊥
plain_or_not {F} P U M R h r one s i t u f a b =
    let g = given_by i in
    let refused : List Node → Turn → Cause F → Type 0 = λ met e c. Refused P U (IsNode M h r) R g met e c in
    let own : b.own ≡ a.own = one_start h r one i.auto_peers 0 i.projects b.own a.own b.starts a.starts in
    not_both (Leads P g) (IsNode M h r) refused (settled P U (IsNode M h r) R s g) (apart P U (IsNode M h r) R s g) (start a.own) t u f a.walked
    (subst (λ (l : List Turn). IsStopped (Leads P g) (IsNode M h r) refused (start l) u f) own b.stopped)

-- Inputs have one refusal.
pub one_refusal : {F : Type 0} (P : List ℕ → Shelf → Type 0) (U : List ℕ → F → Type 0) (M : Id → Said → Type 0) (R : Id → F → Type 0) (h : Hook) (r : Rules) → AreRules r → Shown P U (IsNode M h r) R → (i : Inputs) (t u : State) (f c : Cause F)
    → IsUnplain P U M R h r i t f → IsUnplain P U M R h r i u c → f ≡ c
one_refusal {F} P U M R h r one s i t u f c a b =
    let g = given_by i in
    let refused : List Node → Turn → Cause F → Type 0 = λ met e x. Refused P U (IsNode M h r) R g met e x in
    let own : a.own ≡ b.own = one_start h r one i.auto_peers 0 i.projects a.own b.own a.starts b.starts in
    same_refusal (Leads P g) (IsNode M h r) refused (settled P U (IsNode M h r) R s g) (apart P U (IsNode M h r) R s g) (start b.own) t u f c
    (subst (λ (l : List Turn). IsStopped (Leads P g) (IsNode M h r) refused (start l) t f) own a.stopped) b.stopped

-- The state before the refusal is settled too, and so is the edge.
pub one_stop : {F : Type 0} (P : List ℕ → Shelf → Type 0) (U : List ℕ → F → Type 0) (M : Id → Said → Type 0) (R : Id → F → Type 0) (h : Hook) (r : Rules) → AreRules r → Shown P U (IsNode M h r) R → (i : Inputs) (t u : State) (f c : Cause F)
    → IsUnplain P U M R h r i t f → IsUnplain P U M R h r i u c → t ≡ u
one_stop {F} P U M R h r one s i t u f c a b =
    let g = given_by i in
    let refused : List Node → Turn → Cause F → Type 0 = λ met e x. Refused P U (IsNode M h r) R g met e x in
    let own : a.own ≡ b.own = one_start h r one i.auto_peers 0 i.projects a.own b.own a.starts b.starts in
    one_end (Leads P g) (IsNode M h r) (settled P U (IsNode M h r) R s g) t u (start b.own)
    (subst (λ (l : List Turn). Walk (Leads P g) (IsNode M h r) t (start l)) own a.stopped.walk) b.stopped.walk
    (stopped_stuck (Leads P g) (IsNode M h r) refused (apart P U (IsNode M h r) R s g) (start a.own) t f a.stopped)
    (stopped_stuck (Leads P g) (IsNode M h r) refused (apart P U (IsNode M h r) R s g) (start b.own) u c b.stopped)

first_is : (x y : List Turn) (a b : Turn) (front back : List Turn) → x ≡ y → x ≡ a ∷ front → y ≡ b ∷ back → a ≡ b
first_is x y a b front back e i j = cc

pub one_edge : {F : Type 0} (P : List ℕ → Shelf → Type 0) (U : List ℕ → F → Type 0) (M : Id → Said → Type 0) (R : Id → F → Type 0) (h : Hook) (r : Rules) → AreRules r → Shown P U (IsNode M h r) R → (i : Inputs) (t u : State) (f c : Cause F)
    → (a : IsUnplain P U M R h r i t f) → (b : IsUnplain P U M R h r i u c) → a.stopped.turn ≡ b.stopped.turn
one_edge P U M R h r one s i t u f c a b =
    first_is t.todo u.todo a.stopped.turn b.stopped.turn a.stopped.rest b.stopped.rest (ap (λ (x : State). x.todo) (one_stop P U M R h r one s i t u f c a b)) a.stopped.next b.stopped.next

-- An edge that is refused is asked for.
pub refused_asked : {F : Type 0} (P : List ℕ → Shelf → Type 0) (U : List ℕ → F → Type 0) (M : Id → Said → Type 0) (R : Id → F → Type 0) (h : Hook) (r : Rules) (i : Inputs) (t : State) (f : Cause F)
    → (p : IsUnplain P U M R h r i t f) → IsAsked (Leads P (given_by i)) (IsNode M h r) p.own p.stopped.turn
refused_asked {F} P U M R h r i t f p =
    refused_edge (Leads P (given_by i)) (IsNode M h r) (λ met e c. Refused P U (IsNode M h r) R (given_by i) met e c) p.own t f p.stopped

-- An id is that of one package where it has one manifest.
pub one_node : (M : Id → Said → Type 0) (h : Hook) (r : Rules) → AreRules r → ((i : Id) (a b : Said) → M i a → M i b → a ≡ b) → (m n : Node) → IsNode M h r m → IsNode M h r n → m.id ≡ n.id → m ≡ n
one_node M h r rules one m n a b same =
    let said : a.said ≡ b.said = one n.id a.said b.said (subst (λ (i : Id). M i a.said) same a.says) b.says in
    let face : a.face ≡ b.face = one_seen h r rules a_package b.said a.face b.face (subst (λ (x : Said). IsSeen h r a_package x a.face) said a.seen) b.seen in
    ap (λ (i : Id). node i m.wishes m.peers) same
    ∙ ap (λ (w : List Wish). node n.id w m.peers) (a.wishes ∙ ap wishes_of face ∙ sym b.wishes)
    ∙ ap (λ (p : List Peer). node n.id n.wishes p) (a.peers ∙ ap (λ (x : Said). x.peers) face ∙ sym b.peers)
  where
    node : Id → List Wish → List Peer → Node
    node i w p = record { id = i; wishes = w; peers = p }

ok_once : {A E : Type 0} (r : Result A E) (a b : A) → r ≡ Ok a → r ≡ Ok b → a ≡ b
ok_once r a b x y = cc

err_once : {A E : Type 0} (r : Result A E) (a b : E) → r ≡ Err a → r ≡ Err b → a ≡ b
err_once r a b x y = cc

not_both_ways : {A E : Type 0} (r : Result A E) (a : A) (e : E) → r ≡ Ok a → r ≡ Err e → ⊥
not_both_ways r a e x y = cc

some_once : {A : Type 0} (o : Option A) (a b : A) → o ≡ Some a → o ≡ Some b → a ≡ b
some_once o a b x y = cc

pub told_rules : (t : Told) → AreRules (IsOverridden t)
told_rules t m a b x y = some_once (t.overridden m) a b x y

told_shown : (t : Told) → Shown (IsToldShelf t) (IsGap t) (IsToldNode t) (IsUnread t)
told_shown t = record {
  one_shelf = λ n p q a b. ok_once (t.shelf n) p q a b;
  one_gap = λ n x y a b. err_once (t.shelf n) x y a b;
  no_gap = λ n p x a b. not_both_ways (t.shelf n) p x a b;
  one_node = λ m n a b same. one_node (IsToldManifest t) t.hook (IsOverridden t) (told_rules t) (λ i x y c d. ok_once (t.manifest i) x y c d) m n a b same;
  one_fault = λ i x y a b. err_once (t.manifest i) x y a b;
  no_fault = λ m x a b. not_both_ways (t.manifest m.id) a.said x a.says b;
}

pub plain_law : (t : Told) → PlainLaw t
plain_law t = record {
  graph = λ i s p. plain_graph (IsToldShelf t) (IsGap t) (IsToldManifest t) (IsUnread t) t.hook (IsOverridden t) (told_shown t) i s p;
  same = λ i s u a b. same_plain (IsToldShelf t) (IsGap t) (IsToldManifest t) (IsUnread t) t.hook (IsOverridden t) (told_rules t) (told_shown t) i s u a b;
  one_stop = λ i s u f c a b. one_stop (IsToldShelf t) (IsGap t) (IsToldManifest t) (IsUnread t) t.hook (IsOverridden t) (told_rules t) (told_shown t) i s u f c a b;
  one_edge = λ i s u f c a b. one_edge (IsToldShelf t) (IsGap t) (IsToldManifest t) (IsUnread t) t.hook (IsOverridden t) (told_rules t) (told_shown t) i s u f c a b;
  one_cause = λ i s u f c a b. one_refusal (IsToldShelf t) (IsGap t) (IsToldManifest t) (IsUnread t) t.hook (IsOverridden t) (told_rules t) (told_shown t) i s u f c a b;
  asked = λ i s f p. refused_asked (IsToldShelf t) (IsGap t) (IsToldManifest t) (IsUnread t) t.hook (IsOverridden t) i s f p;
  passed = λ i s u f a b. plain_or_not (IsToldShelf t) (IsGap t) (IsToldManifest t) (IsUnread t) t.hook (IsOverridden t) (told_rules t) (told_shown t) i s u f a b;
}
