-- The plain graph of a registry in the words of wishes.
use Rattle.std.proofs.Common.{◌≡◌, ◌≤◌, ℕ, suc, List, Bool, Option, Some, sym, ap, ◌∙◌, subst, length, map, inl, inr}
use Rattle.std.specs.List.{All, Contains}
use Rattle.std.proofs.lemmas.List.Elements.{All-nil, All-append, All-map, All-contains, All-contains_itself, All-weaker}
use Rattle.pn_text.specs.declared.index.ProjIx.{ProjIx}
use Rattle.pn_text.specs.declared.limits.TheConstants.{ID_LIMIT}
use Rattle.pn_text.proofs.Members.{none_in, in_cons, here, there}
use Rattle.pn_fs.specs.Tree.{Tree, folder}
use Rattle.pn_registry.specs.Places.{package_folder}
use Rattle.pn_graph.specs.declared.links.Package.{Package}
use Rattle.pn_graph.specs.declared.plain.Plain.{Plain}
use Rattle.pn_walk.specs.Walks.{Turn, Link, turn_by, start, IsOfProject}
use Rattle.pn_walk.specs.WalkLaws.{AreSettled}
use Rattle.pn_walk.specs.declared.node.Node.{Node}
use Rattle.pn_walk.specs.declared.wish.Place.TheVariants.{Project as at_project}
use Rattle.pn_walk.specs.declared.wish.Wish.{Wish}
use Rattle.pn_walk.proofs.GraphLemmas.{fits_start, fits_walk}
use Rattle.pn_plain.specs.Plains.{Project, Inputs, given_by, AreStarts, no_more, one_more}
use Rattle.pn_plain.specs.Seen.{no_hook, no_rules, wishes_of, counted}
use Rattle.pn_plain.proofs.AimLemmas.{settled}
use Rattle.pn_plain.proofs.PlainLemmas.{one_start}
use Rattle.pn_shape.specs.Shapes.{ArePackagesFrom, all_met, next}
use Rattle.pn_shape.specs.Words.{IsInWords}
use Rattle.pn_shape.proofs.WordsLemmas.{words as shape_words}
use Rattle.pn_choice.specs.Graphs.{IsGraphOf, folders_of}
use Rattle.pn_choice.specs.Shows.{Publishes, Unpublished, Unread, LeadsIn, IsNodeOf}
use Rattle.pn_choice.specs.Words.{WordsLaw, FoldersLaw, ShortLaw}
use Rattle.pn_choice.proofs.SettledLemmas.{graph}
use Rattle.pn_choice.proofs.ShownLemmas.{rules, shown}

-- what projects ask for is asked by projects
of_projects : (auto : Bool) (k : ℕ) (ps : List Project) (own : List Turn) → AreStarts no_hook no_rules auto k ps own → All (λ (e : Turn). IsOfProject e.who) own
of_projects auto _ _ _ (no_more k) = All-nil (λ (e : Turn). IsOfProject e.who)
of_projects auto _ _ _ (one_more k p ps face rest seen more) =
    All-append (λ (e : Turn). IsOfProject e.who) (map (turn_by (at_project k)) (wishes_of (counted auto face))) rest
    (All-map (λ (e : Turn). IsOfProject e.who) (turn_by (at_project k)) (wishes_of (counted auto face)) (All-weaker (Contains (wishes_of (counted auto face))) (λ (w : Wish). Unit {0}) (λ w c. tt) (wishes_of (counted auto face)) (All-contains_itself (wishes_of (counted auto face)))))
    (of_projects auto (suc k) ps rest more)

pub words : WordsLaw
words t i root p g =
    let leads = LeadsIn (Some t) i in
    let node = IsNodeOf (Some t) in
    let one : AreSettled leads node = settled (Publishes (Some t)) (Unpublished (Some t)) node (Unread (Some t)) (shown t) (given_by i) in
    record {
      one = one.one_aim;
      all = λ own starts.
          let same : g.walked.own ≡ own = one_start no_hook no_rules rules i.auto_peers 0 i.projects g.walked.own own g.walked.starts starts in
          subst (λ (l : List Turn). IsInWords leads node l p.projects p.packages) same
          (shape_words leads node one g.walked.own (folders_of i) g.state p.projects p.packages (of_projects i.auto_peers 0 i.projects g.walked.own g.walked.starts) (graph t i g.state g.walked) g.shape);
    }

-- a package is that of a node that was met
node_of : (links : List Link) (k : ℕ) (ns : List Node) (ps : List Package) → ArePackagesFrom links k ns ps → (q : Package) → Contains ps q → (n : Node) × Contains ns n × (q.id ≡ n.id)
node_of links _ _ _ (all_met k) q c = absurd (none_in q c)
node_of links _ _ _ (next k n ns p ps is more) q c = elim (in_cons p ps q c) [
  | inl e ↦ (n, here n ns, ap (λ (x : Package). x.id) (sym e) ∙ is.id)
  | inr d ↦ let r = node_of links (suc k) ns ps more q d in (r.0, there n ns r.0 r.1, r.2)
]

-- a package of the graph is one of the registry
record IsKnownNode (r : Option Tree) (q : Package) : Type 0 where
  node : Node
  is : IsNodeOf r node
  same : q.id ≡ node.id

known : (r : Option Tree) (i : Inputs) (root : ProjIx) (p : Plain) → IsGraphOf r i root p → (q : Package) → Contains p.packages q → IsKnownNode r q
known r i root p g q c =
    let leads = LeadsIn r i in
    let node = IsNodeOf r in
    let n = node_of g.state.links 0 g.state.met p.packages g.shape.packages_are q c in
    let fits = fits_walk leads node g.walked.own g.state (start g.walked.own) g.walked.walked.walk (fits_start leads node g.walked.own) in
    record { node = n.0; is = All-contains node g.state.met n.0 fits.nodes n.1; same = n.2 }

pub short : ShortLaw
short r i root p g q c =
    let n = known r i root p g q c in
    subst (λ (x : List ℕ). length x ≤ ID_LIMIT) (sym n.same) n.is.says.built.short

pub folders : FoldersLaw
folders t i root p tree g q c =
    let n = known (Some t) i root p g q c in
    subst (λ (x : List ℕ). t (package_folder x) ≡ Some folder) (sym n.same) (tree.parents _ (package_folder n.node.id) _ n.is.says.has.text.is)
