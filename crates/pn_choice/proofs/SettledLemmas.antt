-- A tree settles the plain graph of what projects ask for, or one refusal.
use Rattle.std.proofs.Common.{◌≡◌, ℕ, Bool, true, List, Option, Some, sym, ap, ◌∙◌, subst}
use Rattle.std.proofs.Math.Bool.{Bool-set}
use Rattle.pn_text.specs.declared.ids.Edge.{Edge}
use Rattle.pn_text.specs.declared.index.ProjIx.{ProjIx}
use Rattle.pn_fs.specs.Tree.{Tree}
use Rattle.pn_graph.specs.Graphs.{is_graph}
use Rattle.pn_graph.specs.declared.links.Project.{Project}
use Rattle.pn_graph.specs.declared.links.Package.{Package}
use Rattle.pn_graph.specs.declared.plain.Plain.{Plain}
use Rattle.pn_walk.specs.Edges.{asker}
use Rattle.pn_walk.specs.Graphs.{IsGraph}
use Rattle.pn_walk.specs.Walks.{State, Turn}
use Rattle.pn_shape.specs.Shapes.{IsShape}
use Rattle.pn_shape.proofs.ShapeLawLemmas.{shape as shape_law}
use Rattle.pn_plain.specs.Causes.{Cause, unsupported, unbuilt, registry, no_version, packages}
use Rattle.pn_plain.specs.Plains.{Inputs}
use Rattle.pn_plain.specs.Seen.{no_hook, no_rules}
use Rattle.pn_plain.proofs.PlainLemmas.{plain_graph, same_plain, plain_or_not, one_refusal, one_stop, one_edge}
use Rattle.pn_choice.specs.Graphs.{IsPlainOf, IsGraphOf, folders_of}
use Rattle.pn_choice.specs.Refusals.{Stops, StopsAt, Unplain}
use Rattle.pn_choice.specs.Shows.{Publishes, Unpublished, Manifests, Unread, LeadsIn, IsNodeOf}
use Rattle.pn_choice.specs.declared.fault.RegistryLack.{RegistryLack}
use Rattle.pn_choice.specs.declared.fault.ChoiceFault.{ChoiceFault}
use Rattle.pn_choice.specs.declared.fault.ChoiceFault.TheVariants.{Unsupported, Unbuilt, NoVersion, Registry, Packages, Fault, Memory}
use Rattle.pn_choice.proofs.ShownLemmas.{rules, shown}

-- The walk ends in one state.
pub one_state : (t : Tree) (i : Inputs) (s u : State) → IsPlainOf (Some t) i s → IsPlainOf (Some t) i u → s ≡ u
one_state t i s u a b = same_plain (Publishes (Some t)) (Unpublished (Some t)) (Manifests (Some t)) (Unread (Some t)) no_hook no_rules rules (shown t) i s u a b

-- The packages and edges are those that the projects' wishes lead to.
pub graph : (t : Tree) (i : Inputs) (s : State) → (p : IsPlainOf (Some t) i s) → IsGraph (LeadsIn (Some t) i) (IsNodeOf (Some t)) p.own s.met s.links
graph t i s p = plain_graph (Publishes (Some t)) (Unpublished (Some t)) (Manifests (Some t)) (Unread (Some t)) no_hook no_rules (shown t) i s p

some_once : (o : Option (List ℕ)) (a b : List ℕ) → o ≡ Some a → o ≡ Some b → a ≡ b
some_once o a b x y = cc

one_cause : (t : Tree) (i : Inputs) (c d : Cause RegistryLack) → Stops (Some t) i c → Stops (Some t) i d → c ≡ d
one_cause t i c d a b = one_refusal (Publishes (Some t)) (Unpublished (Some t)) (Manifests (Some t)) (Unread (Some t)) no_hook no_rules rules (shown t) i a.state b.state c d a.unplain b.unplain

edge_with : List ℕ → List ℕ → List ℕ → Edge
edge_with from alias specifier = record { from = from; alias = alias; specifier = specifier }

same_edge : (t : Tree) (i : Inputs) (c d : Cause RegistryLack) (e f : Edge) → StopsAt (Some t) i c e → StopsAt (Some t) i d f → e ≡ f
unfolding edge_with
same_edge t i c d e f a b =
    let P = Publishes (Some t) in
    let U = Unpublished (Some t) in
    let M = Manifests (Some t) in
    let R = Unread (Some t) in
    let state : a.state ≡ b.state = one_stop P U M R no_hook no_rules rules (shown t) i a.state b.state c d a.unplain b.unplain in
    let turn : a.unplain.stopped.turn ≡ b.unplain.stopped.turn = one_edge P U M R no_hook no_rules rules (shown t) i a.state b.state c d a.unplain b.unplain in
    let there : asker (folders_of i) b.state.met b.unplain.stopped.turn.who ≡ Some e.from =
    subst (λ (x : State). asker (folders_of i) x.met b.unplain.stopped.turn.who ≡ Some e.from) state
    (subst (λ (x : Turn). asker (folders_of i) a.state.met x.who ≡ Some e.from) turn a.edge.from) in
    ap (λ (x : List ℕ). edge_with x e.alias e.specifier) (some_once _ e.from f.from there b.edge.from)
    ∙ ap (λ (x : List ℕ). edge_with f.from x e.specifier) (a.edge.alias ∙ ap (λ (x : Turn). x.wish.alias) turn ∙ sym b.edge.alias)
    ∙ ap (λ (x : List ℕ). edge_with f.from f.alias x) (a.edge.specifier ∙ ap (λ (x : Turn). x.wish.specifier) turn ∙ sym b.edge.specifier)

cause_in : ChoiceFault → Cause RegistryLack
cause_in (Unsupported e) = unsupported
cause_in (Unbuilt e) = unbuilt
cause_in (NoVersion e) = no_version
cause_in (Registry lack) = registry lack
cause_in (Packages n) = packages n
cause_in Fault = unsupported
cause_in Memory = unsupported

at_edge : (t : Tree) (i : Inputs) (c : Cause RegistryLack) (e : Edge) → StopsAt (Some t) i c e → Stops (Some t) i c
at_edge t i c e h = record { state = h.state; unplain = h.unplain }

stops : (t : Tree) (i : Inputs) (f : ChoiceFault) → Unplain i (Some t) f → Stops (Some t) i (cause_in f)
unfolding cause_in
stops t i (Unsupported e) h = at_edge t i unsupported e h
stops t i (Unbuilt e) h = at_edge t i unbuilt e h
stops t i (NoVersion e) h = at_edge t i no_version e h
stops t i (Registry lack) h = h
stops t i (Packages n) h = h
stops t i Fault h = absurd h
stops t i Memory h = absurd h

one_lack : (x y : RegistryLack) → registry x ≡ registry y → x ≡ y
one_lack x y e = cc

abbrev counted : ℕ → Cause RegistryLack
counted n = packages n

one_count : (m n : ℕ) → counted m ≡ counted n → m ≡ n
one_count m n e = cc

by_cause : (t : Tree) (i : Inputs) (f g : ChoiceFault) → cause_in f ≡ cause_in g → Unplain i (Some t) f → Unplain i (Some t) g → f ≡ g
unfolding cause_in
by_cause t i (Unsupported e) (Unsupported x) c h k = ap Unsupported (same_edge t i unsupported unsupported e x h k)
by_cause t i (Unbuilt e) (Unbuilt x) c h k = ap Unbuilt (same_edge t i unbuilt unbuilt e x h k)
by_cause t i (NoVersion e) (NoVersion x) c h k = ap NoVersion (same_edge t i no_version no_version e x h k)
by_cause t i (Registry x) (Registry y) c h k = ap Registry (one_lack x y c)
by_cause t i (Packages m) (Packages n) c h k = ap Packages (one_count m n c)
by_cause t i Fault g c h k = absurd h
by_cause t i Memory g c h k = absurd h
by_cause t i f Fault c h k = absurd k
by_cause t i f Memory c h k = absurd k
by_cause t i f g c h k = cc

-- There is one refusal.
pub cause : (t : Tree) (i : Inputs) (f g : ChoiceFault) → Unplain i (Some t) f → Unplain i (Some t) g → f ≡ g
cause t i f g h k = by_cause t i f g (one_cause t i (cause_in f) (cause_in g) (stops t i f h) (stops t i g k)) h k

-- Where there is a graph, there is no refusal.
pub passed : (t : Tree) (i : Inputs) (root : ProjIx) (p : Plain) (f : ChoiceFault) → IsGraphOf (Some t) i root p → Unplain i (Some t) f → ⊥
passed t i root p f h k =
    let s = stops t i f k in
    plain_or_not (Publishes (Some t)) (Unpublished (Some t)) (Manifests (Some t)) (Unread (Some t)) no_hook no_rules rules (shown t) i h.state s.state (cause_in f) h.walked s.unplain

bools_once : (a b : Bool) (x y : a ≡ b) → x ≡ y
bools_once a b x y = Bool-set a b x y

-- what a graph is, but for its invariant
abbrev Bare : Type 0
Bare = ProjIx × List Project × List Package

abbrev is_right : Bare → Bool
is_right b = is_graph b.0 b.1 b.2

plain_of : (b : Bare) → is_right b ≡ true → Plain
plain_of b x = record { root = b.0; projects = b.1; packages = b.2; right = x }

one_plain : (a b : Bare) (x : is_right a ≡ true) (y : is_right b ≡ true) → a ≡ b → plain_of a x ≡ plain_of b y
one_plain a b x y e = subst (λ (c : Bare). (z : is_right c ≡ true) → plain_of a x ≡ plain_of c z) e (λ z. ap (plain_of a) (bools_once (is_right a) true x z)) y

-- There is one graph.
pub same : (t : Tree) (i : Inputs) (root : ProjIx) (p q : Plain) → IsGraphOf (Some t) i root p → IsGraphOf (Some t) i root q → p ≡ q
unfolding plain_of
same t i root p q a b =
    let state : b.state ≡ a.state = one_state t i b.state a.state b.walked a.walked in
    let shape : IsShape (folders_of i) a.state q.projects q.packages = subst (λ (s : State). IsShape (folders_of i) s q.projects q.packages) state b.shape in
    let projects : p.projects ≡ q.projects = shape_law.one_projects (folders_of i) a.state p.projects q.projects p.packages q.packages a.shape shape in
    let packages : p.packages ≡ q.packages = shape_law.one_packages (folders_of i) a.state p.projects q.projects p.packages q.packages a.shape shape in
    let roots : p.root ≡ q.root = a.root_is ∙ sym b.root_is in
    let parts : (p.root, p.projects, p.packages) ≡ (q.root, q.projects, q.packages) = λ j. (roots j, projects j, packages j) in
    one_plain (p.root, p.projects, p.packages) (q.root, q.projects, q.packages) p.right q.right parts
