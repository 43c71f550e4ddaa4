-- The shape of a walk's end, made of lists of dependencies.
use Rattle.std.proofs.Common.{◌≡◌, ℕ, suc, List, [], ◌∷◌, ◌++◌, length, map, refl, sym, ap, ◌∙◌, subst, arith, append_assoc}
use Rattle.std.proofs.lemmas.List.{append-nil}
use Rattle.pn_manifest.specs.declared.peers.Peer.{Peer as SaidPeer}
use Rattle.pn_manifest.specs.Said.{peer_names as said_names}
use Rattle.pn_graph.specs.Graphs.{peer_names}
use Rattle.pn_graph.specs.declared.links.Dep.{Dep}
use Rattle.pn_graph.specs.declared.links.Package.{Package}
use Rattle.pn_graph.specs.declared.links.Project.{Project}
use Rattle.pn_graph.specs.declared.peer.Peer.{Peer}
use Rattle.pn_walk.specs.declared.node.Node.{Node}
use Rattle.pn_walk.specs.declared.wish.Place.TheVariants.{Project as at_project, Package as at_package}
use Rattle.pn_walk.specs.Walks.{Link, State}
use Rattle.pn_walk.specs.Graphs.{id_of}
use Rattle.pn_shape.specs.Shapes.{deps_by, projects_from, IsPeerOf, ArePeersOf, no_more, one_more, ArePackagesFrom, all_met, next, IsShape}
use Rattle.pn_shape.specs.declared.lists.DepLists.{DepLists}
use Rattle.pn_shape.specs.DepLists.{AreDepsFrom, HasDeps, projects_with, IsPackageWith, ArePackagesWith, all_with, next_with}

-- projects with their lists are those of the walk
pub projects_are : (q : ℕ) (folders : List (List ℕ)) (links : List Link) (lists : List (List Dep)) → length folders ≡ length lists → AreDepsFrom at_project q links lists → projects_with folders lists ≡ projects_from q folders links
projects_are q [] links lists long h = refl
projects_are q (f ∷ fs) links [] long h = absurd (omega (arith, long))
projects_are q (f ∷ fs) links (ds ∷ rest) long h =
    ap (λ (l : List Dep). record { folder = f; deps = l; autos = [] } ∷ projects_with fs rest) h.0
    ∙ ap (λ (l : List Project). record { folder = f; deps = deps_by (at_project q) links; autos = [] } ∷ l) (projects_are (suc q) fs links rest (omega (arith, long)) h.1)

-- and so are packages
pub packages_are : (k : ℕ) (links : List Link) (ns : List Node) (lists : List (List Dep)) (ps : List Package) → AreDepsFrom at_package k links lists → ArePackagesWith ns lists ps → ArePackagesFrom links k ns ps
packages_are k links _ _ _ h all_with = all_met k
packages_are k links _ _ _ h (next_with n ns ds rest p ps is more) = next k n ns p ps (record { id = is.id; deps = is.has ∙ h.0; peers = is.peers }) (packages_are (suc k) links ns rest ps h.1 more)

-- one package more
pub package_next : (all_nodes nodes left : List Node) (all_lists lists rest : List (List Dep)) (n : Node) (ds : List Dep) (p : Package) (before after : List Package) → nodes ≡ n ∷ left → lists ≡ ds ∷ rest → IsPackageWith ds n p → after ≡ before ++ p ∷ []
    → ((more : List Package) → ArePackagesWith nodes lists more → ArePackagesWith all_nodes all_lists (before ++ more)) → (more : List Package) → ArePackagesWith left rest more → ArePackagesWith all_nodes all_lists (after ++ more)
package_next all_nodes nodes left all_lists lists rest n ds p before after node list is grows so_far more h =
    subst (ArePackagesWith all_nodes all_lists) (sym (append_assoc before (p ∷ []) more) ∙ ap (λ (l : List Package). l ++ more) (sym grows))
    (so_far (p ∷ more)
    (subst (λ (l : List Node). ArePackagesWith l lists (p ∷ more)) (sym node) (subst (λ (l : List (List Dep)). ArePackagesWith (n ∷ left) l (p ∷ more)) (sym list) (next_with n left ds rest p more is h))))

pub none_left : {X : Type 0} (xs : List X) → length xs ≡ 0 → xs ≡ []
none_left [] h = refl
none_left (x ∷ xs) h = absurd (omega (arith, h))

-- and no more
pub packages_end : (all_nodes nodes : List Node) (all_lists lists : List (List Dep)) (ps : List Package) → nodes ≡ [] → length nodes ≡ length lists
    → ((more : List Package) → ArePackagesWith nodes lists more → ArePackagesWith all_nodes all_lists (ps ++ more)) → ArePackagesWith all_nodes all_lists ps
packages_end all_nodes nodes all_lists lists ps none long so_far =
    let empty : lists ≡ [] = none_left lists (sym (ap length (sym none) ∙ long)) in
    subst (ArePackagesWith all_nodes all_lists) (append-nil ps)
    (so_far [] (subst (λ (l : List Node). ArePackagesWith l lists []) (sym none) (subst (λ (l : List (List Dep)). ArePackagesWith [] l []) (sym empty) all_with)))

pub tails_long : {A B : Type 0} (xs xs' : List A) (x : A) (ys ys' : List B) (y : B) → xs ≡ x ∷ xs' → ys ≡ y ∷ ys' → length xs ≡ length ys → length xs' ≡ length ys'
tails_long xs xs' x ys ys' y a b h = less (length xs') (length ys') (sym (ap length a) ∙ h ∙ ap length b) where
  less : (n m : ℕ) → suc n ≡ suc m → n ≡ m
  less n m e = omega (arith, e)

-- one peer more
pub peer_more : (ss : List SaidPeer) (ps : List Peer) (s : SaidPeer) (p : Peer) → ArePeersOf ss ps → IsPeerOf s p → ArePeersOf (ss ++ s ∷ []) (ps ++ p ∷ [])
peer_more _ _ s p no_more is = one_more s [] p [] is no_more
peer_more _ _ s p (one_more t ts q qs first rest) is = one_more t (ts ++ s ∷ []) q (qs ++ p ∷ []) first (peer_more ts qs s p rest is)

pub projects_long : (q : ℕ) (folders : List (List ℕ)) (links : List Link) → length (projects_from q folders links) ≡ length folders
projects_long q [] links = refl
projects_long q (f ∷ fs) links = ap suc (projects_long (suc q) fs links)

pub folders_are : (q : ℕ) (folders : List (List ℕ)) (links : List Link) → map (λ (p : Project). p.folder) (projects_from q folders links) ≡ folders
folders_are q [] links = refl
folders_are q (f ∷ fs) links = ap (λ (l : List (List ℕ)). f ∷ l) (folders_are (suc q) fs links)

pub packages_long : (links : List Link) (k : ℕ) (ns : List Node) (ps : List Package) → ArePackagesFrom links k ns ps → length ps ≡ length ns
packages_long links _ _ _ (all_met k) = refl
packages_long links _ _ _ (next k n ns p ps is rest) = ap suc (packages_long links (suc k) ns ps rest)

pub ids_are : (links : List Link) (k : ℕ) (ns : List Node) (ps : List Package) → ArePackagesFrom links k ns ps → map (λ (p : Package). p.id) ps ≡ map id_of ns
ids_are links _ _ _ (all_met k) = refl
ids_are links _ _ _ (next k n ns p ps is rest) =
    ap (λ (i : List ℕ). i ∷ map (λ (x : Package). x.id) ps) is.id ∙ ap (λ (l : List (List ℕ)). n.id ∷ l) (ids_are links (suc k) ns ps rest)

pub names_are : (ss : List SaidPeer) (ps : List Peer) → ArePeersOf ss ps → peer_names ps ≡ said_names ss
names_are _ _ no_more = refl
names_are _ _ (one_more s ss p ps is rest) = ap (λ (i : List ℕ). i ∷ peer_names ps) is.name ∙ ap (λ (l : List (List ℕ)). s.name ∷ l) (names_are ss ps rest)

-- The shape, from the lists of dependencies.
pub shape_of : (folders : List (List ℕ)) (t : State) (lists : DepLists) (ps : List Project) (ks : List Package) (n m : ℕ) → HasDeps n m t.links lists → length folders ≡ n → ps ≡ projects_with folders lists.projects.items → ArePackagesWith t.met lists.packages.items ks
    → IsShape folders t ps ks
shape_of folders t lists ps ks n m has long projects packages = record {
  projects_are = projects ∙ projects_are 0 folders t.links lists.projects.items (long ∙ sym has.projects_have.long) has.projects_have.each;
  packages_are = packages_are 0 t.links t.met lists.packages.items ks has.packages_have.each packages;
}
