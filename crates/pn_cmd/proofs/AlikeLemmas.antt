-- Of one start a run ends alike.
use Rattle.std.proofs.Common.{◌≡◌, ◌∷◌, ◌⊎◌, List, map, length, arith, refl, sym, ap, ◌∙◌, subst, Option, Some, None, inl, inr, true, false}
use Rattle.std.specs.List.{Contains}
use Rattle.std.proofs.lemmas.List.{length-map}
use Rattle.pn_text.specs.Path.{Path}
use Rattle.pn_fs.specs.Tree.{Entry, file, Tree, IsTree}
use Rattle.pn_fs.specs.Seen.{Taken}
use Rattle.pn_fs.specs.Takes.{told_more}
use Rattle.pn_manifest.specs.Fields.{said}
use Rattle.pn_manifest.specs.Said.{Said}
use Rattle.pn_digest.specs.declared.planned.Planned.{Planned}
use Rattle.pn_digest.specs.declared.planned.Planned.TheVariants.{Folder, Bytes, Stored, Link}
use Rattle.pn_storecore.specs.Seen.{Seen as StoreSeen}
use Rattle.pn_scan.specs.Managed.{Managed, is_managed, is_above}
use Rattle.pn_repair.specs.Stands.{StandsAs}
use Rattle.pn_clear.specs.Items.{Item}
use Rattle.pn_reconcile.specs.Plans.{IsReconciled, Reconciled}
use Rattle.pn_tree.specs.Trees.{Layout}
use Rattle.pn_tree.specs.Laws.{AreEntries}
use Rattle.pn_tree.specs.Refusals.{LayoutRefused}
use Rattle.pn_tree.specs.declared.fault.LayoutFault.TheVariants.{TooLong as FaultLong}
use Rattle.pn_fetch.specs.Listings.{AreListingsOf}
use Rattle.pn_text.proofs.Bools.{true_false}
use Rattle.pn_choice.proofs.SettledLemmas.{same as same_graph}
use Rattle.pn_layout.specs.Layout.{layout_of, IsClosed}
use Rattle.pn_package.specs.Sound.{contents}
use Rattle.pn_layout.proofs.AlikeLemmas.{one_long as one_length}
use Rattle.pn_layout.proofs.CauseLemmas.{same as same_layout}
use Rattle.pn_collect.specs.Outline.{direct_of}
use Rattle.pn_collect.specs.Packages.{ArePackages}
use Rattle.pn_collect.proofs.SameLemmas.{same as same_packages}
use Rattle.pn_status.specs.declared.status.Which.TheVariants.{Path as PathLength, Numbers}
use Rattle.pn_status.specs.declared.status.IntegrityWhy.TheVariants.{Stored as of_store}
use Rattle.pn_status.specs.declared.status.Status.{Status}
use Rattle.pn_status.specs.declared.status.Status.TheVariants.{Done, Memory, Integrity, Limit, DigestClash, ProjectFault, StoreFault, RegistryFault, SinkFault}
use Rattle.pn_cmd.specs.World.{World, Inputs, Shown, shown, trees_of, with_store}
use Rattle.pn_cmd.specs.Points.{Refuses, IsFree, then}
use Rattle.pn_cmd.specs.Names.{package_name, lock_name, modules_path}
use Rattle.pn_cmd.specs.Known.{Space, Declared, Project, Graph, Sources, Fetched, Build, space_of, project_of}
use Rattle.pn_cmd.specs.Spaces.{workspace}
use Rattle.pn_cmd.specs.Stores.{store}
use Rattle.pn_workspace.proofs.AnswerLemmas.{answer as space_answer}
use Rattle.pn_cmd.specs.Words.{words}
use Rattle.pn_cmd.specs.Standing.{standing}
use Rattle.pn_cmd.specs.Scans.{managed_of, scanned}
use Rattle.pn_cmd.specs.Manifests.{Declares, manifest}
use Rattle.pn_cmd.specs.Graph.{graph, inputs_of, root}
use Rattle.pn_cmd.specs.Packages.{listed}
use Rattle.pn_cmd.specs.Plans.{planned, IsPlanned, layout_at}
use Rattle.pn_cmd.specs.Chain.{words_at, workspace_at, manifest_at, store_at, lock_at, graph_at, scanned_at, listed_at, fetched_at, planned_at, tree, goal, from_store, from_manifest, gathered, prepared, install}
use Rattle.pn_cmd.specs.Reports.{report_of}
use Rattle.pn_cmd.specs.Endings.{Ends, refused, unprepared, stopped, unreported, done, Stops, Unreported, Unwritten, IsDone}
use Rattle.pn_cmd.specs.Laws.{AreTold, IsLike, AreAlike, IsOwn, Starts, EndAlike, SettledLaw}
use Rattle.pn_cmd.proofs.CauseLemmas.{cause_in}
use Rattle.pn_cmd.proofs.FoundLemmas.{same_manifest}
use Rattle.pn_cmd.proofs.OrderLemmas.{fetched_free, order_law}
use Rattle.pn_cmd.proofs.OnceLemmas.{told, words_once, space_once, store_once, stands_once, scanned_once, manifest_once, graph_once, listed_once}
use Rattle.pn_cmd.proofs.ListingLemmas.{one_listing}
use Rattle.pn_cmd.proofs.PassedLemmas.{has_passed}
use Rattle.pn_cmd.proofs.WrittenLemmas.{planned_at as planned_in, rooted}
use Rattle.pn_cmd.proofs.SettledLemmas.{IsSettled, own_free, then_settled, step_settled, plain_settled}

are_told : (t r : Tree) → AreTold (told t r)
are_told t r = record { tree = t; project = refl; packages = r; registry = refl }

-- the same packages, with their files
record OneSource (r : Tree) (k j : Sources) : Type 0 where
  graph : k.graph ≡ j.graph
  first : ArePackages (Some r) k.graph.plain k.packages
  second : ArePackages (Some r) k.graph.plain j.packages

-- the same packages, with the same listings
record OneFetched (r : Tree) (k j : Fetched) : Type 0 where
  sources : OneSource r k.sources j.sources
  first : AreListingsOf (Some r) k.sources.packages k.listings
  second : AreListingsOf (Some r) j.sources.packages j.listings

abbrev OneBuild : Tree → Build → Build → Type 0
OneBuild r b c = OneFetched r b.fetched c.fetched

abbrev Same : {X : Type 0} → X → X → Type 0
Same x z = x ≡ z

abbrev Any : Unit {0} → Unit {0} → Type 0
Any x z = Unit {0}

words_settled : (t r : Tree) → IsSettled (told t r) Same Same words_at
words_settled t r =
    step_settled (told t r) Same Any Same Same (λ (i : Inputs). i.words) (λ i u. i.place) words
    (plain_settled (told t r) Any words (λ x y v f g. tt) (λ x y s f c. order_law.words x (told t r) y s (are_told t r) f c) (λ x s v c d o u. words_once x (told t r) s v c d))
    (λ i j e. ap (λ (i : Inputs). i.words) e) (λ i j u v e f g h. ap (λ (i : Inputs). i.place) e)

standing_settled : (t r : Tree) → IsSettled (told t r) Same Any standing
standing_settled t r =
    plain_settled (told t r) Any standing (λ x y v f g. tt) (λ x y s f c. order_law.standing x (told t r) y s (are_told t r) f c) (λ x s v c d o u. stands_once x (told t r) s v c d o u)

workspace_settled : (t r : Tree) → IsSettled (told t r) Same Same workspace_at
workspace_settled t r =
    step_settled (told t r) Same Same Same Same (λ p. p) (λ p w. space_of p w) workspace
    (plain_settled (told t r) Same workspace (λ p v w f g. space_answer.value t p v w f.found g.found) (λ x y s f c. order_law.workspace x (told t r) y s (are_told t r) f c) (λ x s v c d o u. space_once t r x s v c d o u))
    (λ p q e. e) (λ p q v w e f g h. λ i. space_of (e i) (h i))

one_manifest : (t : Tree) (p : Path) (own other : Said) → Declares (Some t) p own → Declares (Some t) p other → own ≡ other
one_manifest t p own other f g = f.says ∙ ap said (same_manifest (t p) f.value g.value f.manifest.read g.manifest.read) ∙ sym g.says

manifest_settled : (t r : Tree) → IsSettled (told t r) Same Same manifest_at
manifest_settled t r =
    step_settled (told t r) Same Same Same Same (λ (k : Space). package_name ∷ k.place) (λ k own. record { space = k; said = own }) manifest
    (plain_settled (told t r) Same manifest (λ x y v f g. one_manifest t x y v f g) (λ x y s f c. order_law.manifest x (told t r) y s (are_told t r) f c) (λ x s v c d o u. manifest_once t r x s v c d o u))
    (λ k j e. ap (λ (k : Space). package_name ∷ k.place) e) (λ k j own other e f g h. λ i. record { space = e i; said = h i })

store_settled : (t r : Tree) → IsSettled (told t r) Same Same store_at
store_settled t r =
    step_settled (told t r) Same Any Same Same (λ (k : Declared). k.space) (λ k u. project_of k.space.place k.said) store
    (plain_settled (told t r) Any store (λ x y v f g. tt) (λ x y s f c. order_law.store x (told t r) y s (are_told t r) f c) (λ x s v c d o u. store_once x (told t r) s v c d))
    (λ k j e. ap (λ (k : Declared). k.space) e) (λ k j u v e f g h. ap (λ (k : Declared). project_of k.space.place k.said) e)

lock_settled : (t r : Tree) → IsSettled (told t r) Same Same lock_at
lock_settled t r = step_settled (told t r) Same Any Same Same (λ (k : Project). lock_name ∷ k.place) (λ k u. k) standing (standing_settled t r) (λ k j e. ap (λ (k : Project). lock_name ∷ k.place) e) (λ k j u v e f g h. e)

graph_settled : (t r : Tree) → IsSettled (told t r) Same Same graph_at
graph_settled t r =
    step_settled (told t r) Same Same Same Same (λ (k : Project). k.said) (λ k plain. record { project = k; plain = plain }) graph
    (plain_settled (told t r) Same graph (λ m p q f g. same_graph r (inputs_of m) root p q f g) (λ x y s f c. order_law.graph x (told t r) y s (are_told t r) f c) (λ x s v c d o u. graph_once t r x s v c d o u))
    (λ k j e. ap (λ (k : Project). k.said) e) (λ k j p q e f g h. λ i. record { project = e i; plain = h i })

scan_settled : (t r : Tree) → IsTree t → IsSettled (told t r) Same Any scanned
scan_settled t r tree =
    plain_settled (told t r) Any scanned (λ x y v f g. tt) (λ x y s f c. order_law.scanned x (told t r) y s (are_told t r) f c) (λ x s v c d o u. scanned_once t r x s v tree c d o u)

scanned_settled : (t r : Tree) → IsTree t → IsSettled (told t r) Same Same scanned_at
scanned_settled t r tree = step_settled (told t r) Same Any Same Same (λ (k : Graph). modules_path k.project.place) (λ k u. k) scanned (scan_settled t r tree) (λ k j e. ap (λ (k : Graph). modules_path k.project.place) e) (λ k j u v e f g h. e)

listed_settled : (t r : Tree) → IsTree r → IsSettled (told t r) Same (OneSource r) listed_at
listed_settled t r shape = record {
  finds = λ k j x z e f g. subst (λ (m : Sources). OneSource r m z) (sym f.is) (subst (OneSource r (record { graph = k; packages = f.value })) (sym g.is) (record {
    graph = e;
    first = f.found;
    second = subst (λ (m : Graph). ArePackages (Some r) m.plain g.value) (sym e) g.found;
  }));
  apart = λ k j x s e f c. order_law.listed k (told t r) f.value s (are_told t r) f.found (subst (λ (m : Graph). listed.Cause m (told t r) s) (sym e) c);
  other = λ k j x s e c f. order_law.listed k (told t r) f.value s (are_told t r) (subst (λ (m : Graph). ArePackages (Some r) m.plain f.value) (sym e) f.found) c;
  cause = λ k j s v e c d o u. listed_once t r k.plain s v shape c (subst (λ (m : Graph). listed.Cause m (told t r) v) (sym e) d) o u;
}

one_list : (r : Tree) (k j : Sources) → OneSource r k j → map contents k.packages ≡ map contents j.packages
one_list r k j e = same_packages r k.graph.plain k.packages j.packages e.first e.second

-- the same packages have one layout, but for the order in which they came to be known
one_layout : (r : Tree) (k j : Fetched) → OneFetched r k j → layout_at j ≡ layout_at k
one_layout r k j e =
    let top = modules_path k.sources.graph.project.place in
    let direct = direct_of k.sources.graph.plain in
    ap (λ (m : Graph). layout_of (modules_path m.project.place) (direct_of m.plain) j.sources.packages j.listings) (sym e.sources.graph)
    ∙ ap (layout_of top direct j.sources.packages) (sym (one_listing r k.sources.packages j.sources.packages k.listings j.listings (one_list r k.sources j.sources e.sources) e.first e.second))
    ∙ sym (same_layout top direct k.sources.packages j.sources.packages k.listings (one_list r k.sources j.sources e.sources))

planned_apart : (t r : Tree) (k j : Fetched) (plan : List Item) (s : Status) → OneFetched r k j → IsPlanned k plan → planned.Cause j (told t r) s → IsFree s
planned_apart t r k j plan (Limit PathLength n) e f c =
    let l : LayoutRefused (layout_at k) (FaultLong n) = subst (λ (l : Layout). LayoutRefused l (FaultLong n)) (one_layout r k j e) c in
    absurd (omega (arith, f.fits l.path l.what l.planned, l.size_is, l.long))
planned_apart t r k j plan s e f c = absurd c

planned_once : (t r : Tree) (k j : Fetched) (s v : Status) → OneFetched r k j → planned.Cause k (told t r) s → planned.Cause j (told t r) v → s ≡ v
planned_once t r k j (Limit PathLength n) (Limit PathLength m) e c d = ap (Limit PathLength) (one_length (layout_at k) n m c (subst (λ (l : Layout). LayoutRefused l (FaultLong m)) (one_layout r k j e) d))
planned_once t r k j (Limit PathLength n) v e c d = absurd d
planned_once t r k j s v e c d = absurd c

turned : (r : Tree) (k j : Sources) → OneSource r k j → OneSource r j k
turned r k j e = record {
  graph = sym e.graph;
  first = subst (λ (m : Graph). ArePackages (Some r) m.plain j.packages) e.graph e.second;
  second = subst (λ (m : Graph). ArePackages (Some r) m.plain k.packages) e.graph e.first;
}

turned_fetch : (r : Tree) (k j : Fetched) → OneFetched r k j → OneFetched r j k
turned_fetch r k j e = record { sources = turned r k.sources j.sources e.sources; first = e.second; second = e.first }

planned_settled : (t r : Tree) → IsSettled (told t r) (OneFetched r) (OneBuild r) planned_at
planned_settled t r = record {
  finds = λ k j x z e f g. subst (λ (m : Build). OneBuild r m z) (sym f.is) (subst (OneBuild r (record { fetched = k; plan = f.value })) (sym g.is) e);
  apart = λ k j x s e f c. planned_apart t r k j f.value s e f.found c;
  other = λ k j x s e c f. planned_apart t r j k f.value s (turned_fetch r k j e) f.found c;
  cause = λ k j s v e c d o u. planned_once t r k j s v e c d;
}

fetched_settled : (t r : Tree) → IsSettled (told t r) (OneSource r) (OneFetched r) fetched_at
fetched_settled t r = record {
  finds = λ k j x z e f g. subst (λ (m : Fetched). OneFetched r m z) (sym f.is) (subst (OneFetched r (record { sources = k; listings = f.value })) (sym g.is) (record { sources = e; first = f.found; second = g.found }));
  apart = λ k j x s e f c. fetched_free j.packages (told t r) s (are_told t r) c;
  other = λ k j x s e c f. fetched_free k.packages (told t r) s (are_told t r) c;
  cause = λ k j s v e c d o u. own_free s o (fetched_free k.packages (told t r) s (are_told t r) c);
}

install_settled : (t r : Tree) → IsTree t → IsTree r → IsSettled (told t r) Same (OneBuild r) install
install_settled t r tree_t shape =
    let w = told t r in
    let one = OneSource r in
    let trees = then_settled w Same Same one scanned_at listed_at (scanned_settled t r tree_t) (listed_settled t r shape) in
    let graph = then_settled w Same Same one graph_at tree (graph_settled t r) trees in
    let goals = then_settled w Same Same one lock_at (then graph_at tree) (lock_settled t r) graph in
    let stores = then_settled w Same Same one store_at goal (store_settled t r) goals in
    let project = then_settled w Same Same one manifest_at from_store (manifest_settled t r) stores in
    let root = then_settled w Same Same one workspace_at from_manifest (workspace_settled t r) project in
    let all = then_settled w Same Same one words_at (then workspace_at from_manifest) (words_settled t r) root in
    let ready = then_settled w one (OneFetched r) (OneBuild r) fetched_at planned_at (fetched_settled t r) (planned_settled t r) in
    then_settled w Same one (OneBuild r) gathered prepared all ready

shown_is : (t r : Tree) (old : World) → Starts t r old → shown old ≡ told t r
shown_is t r old at = λ i. record { trees = record { project = at.project i; registry = at.registry i } }

-- A run that ends of itself is refused before anything is written, or done.
abbrev Ended : Tree → Tree → Inputs → World → World → Status → Type 0
Ended t r i old new s = (install.Cause i (told t r) s × Unwritten old new) ⊎ ((s ≡ Done) × ((b : Build) × (mid : StoreSeen) × IsDone i b mid old new))

no_memory : {C : Type 0} (s : Status) → IsOwn s → s ≡ Memory → C
no_memory s o e = absurd (subst IsOwn e o)

no_stop : {C : Type 0} (plan : List Item) (old new : World) (s : Status) → IsOwn s → Refuses (Stops plan) old new s → C
no_stop plan old new Memory o h = absurd o
no_stop plan old new ProjectFault o h = absurd o
no_stop plan old new StoreFault o h = absurd o
no_stop plan old new (Integrity (of_store at found)) o h = absurd o
no_stop plan old new (DigestClash at) o h = absurd o
no_stop plan old new (Limit Numbers n) o h = absurd o
no_stop plan old new RegistryFault o h = absurd o
no_stop plan old new SinkFault o h = absurd o
no_stop plan old new s o h = absurd h

no_report : {C : Type 0} (old new : World) (s : Status) → IsOwn s → Refuses Unreported old new s → C
no_report old new Memory o h = absurd o
no_report old new ProjectFault o h = absurd o
no_report old new StoreFault o h = absurd o
no_report old new (Integrity (of_store at found)) o h = absurd o
no_report old new (DigestClash at) o h = absurd o
no_report old new (Limit Numbers n) o h = absurd o
no_report old new RegistryFault o h = absurd o
no_report old new SinkFault o h = absurd o
no_report old new s o h = absurd h

ended : (t r : Tree) (i : Inputs) (old new : World) (s : Status) → Starts t r old → Ends i old new s → IsOwn s → Ended t r i old new s
ended t r i old new _ at (refused s c u) o = elim (cause_in (gathered.Cause i) old new s c) [
  | inl e ↦ no_memory s o e
  | inr h ↦ inl (subst (λ w. install.Cause i w s) (shown_is t r old at) (inl h), u.unwritten)
]
ended t r i old new _ at (unprepared s k f c u) o = elim (cause_in (prepared.Cause k) old new s c) [
  | inl e ↦ no_memory s o e
  | inr h ↦ inl (subst (λ w. install.Cause i w s) (shown_is t r old at) (inr (k, f, h)), u.unwritten)
]
ended t r i old new _ at (stopped s b mid f c h) o = no_stop b.plan (with_store old mid) new s o c
ended t r i old new _ at (unreported s b mid f c w h) o = no_report old new s o c
ended t r i old new _ at (done b mid d) o = inr (refl, (b, mid, d))

-- what stands as is planned is like what stands so elsewhere
like : (w : Planned) (a b : Option Entry) → StandsAs w a → StandsAs w b → IsLike a b
like Folder a b h k = inl (h ∙ sym k)
like (Bytes text) a b h k = inl (h ∙ sym k)
like (Stored d) a b h k = inr (h.0, k.0, h.1, k.1, h.2 ∙ sym k.2)
like (Link text) a b h k = inl (h ∙ sym k)

something : (w : Planned) → StandsAs w None → ⊥
something Folder h = cc h
something (Bytes text) h = cc h
something (Stored d) h = let none : None ≡ Some (file h.0) = h.1 in cc none
something (Link text) h = cc h

-- the same is planned
abbrev SamePlans : List Item → List Item → Type 0
SamePlans p q = (e : Item) → Contains p e → Contains q e

-- two trees with one plan, and elsewhere as the same tree
like_at : (t u v : Tree) (top : Path) (p q : List Item) → SamePlans p q → SamePlans q p → IsClosed top p → IsClosed top q → IsReconciled (managed_of top) p t u → IsReconciled (managed_of top) q t v → (x : Path) → IsLike (u x) (v x)
like_at t u v top p q pq qp cp cq a b x = elim (is_managed (managed_of top) x) as (λ m. is_managed (managed_of top) x ≡ m → IsLike (u x) (v x)) [
  | true ↦ λ inside. elim (u x) as (λ o. u x ≡ o → IsLike o (v x)) [
    | Some e ↦ λ is.
        let w = planned_in u top x p e a.has inside is in
        like w.0 (Some e) (v x) (subst (StandsAs w.0) is (a.has.planned (x, w.0) w.1)) (b.has.planned (x, w.0) (pq (x, w.0) w.1))
    | None ↦ λ is. elim (v x) as (λ o. v x ≡ o → IsLike None o) [
      | Some e ↦ λ has.
          let w = planned_in v top x q e b.has inside has in
          absurd (something w.0 (subst (StandsAs w.0) is (a.has.planned (x, w.0) (qp (x, w.0) w.1))))
      | None ↦ λ has. inl refl
    ] refl
  ] refl
  | false ↦ λ outside. elim (is_above (managed_of top) x) as (λ m. is_above (managed_of top) x ≡ m → IsLike (u x) (v x)) [
    | true ↦ λ up. inl (a.above x up ∙ sym (b.above x up))
    | false ↦ λ off. inl (kept p u cp a outside off ∙ sym (kept q v cq b outside off))
  ] refl
] refl
  where
    kept : (plan : List Item) (z : Tree) → IsClosed top plan → IsReconciled (managed_of top) plan t z → is_managed (managed_of top) x ≡ false → is_above (managed_of top) x ≡ false → z x ≡ t x
    kept plan z closed h outside off = elim (h.others x) [
      | inl same ↦ same
      | inr may ↦ elim may [
        | inl planned ↦ absurd (true_false (is_managed (managed_of top) x) ((rooted top plan closed).within (x, planned.0) planned.1) outside)
        | inr other ↦ elim other [ inl inside ↦ absurd (true_false (is_managed (managed_of top) x) inside.0 outside) | inr up ↦ absurd (true_false (is_above (managed_of top) x) up.0 off) ]
      ]
    ]

same_plans : (l : Layout) (p q : List Item) → AreEntries l p → AreEntries l q → SamePlans p q
same_plans l p q a b e c = (b e.0 e.1).1 ((a e.0 e.1).0 c)

reconciled_told : (managed : List Managed) (plan : List Item) (t : Tree) (old new : Option Tree) → old ≡ Some t → Reconciled managed plan old new → (u : Tree) × (new ≡ Some u) × IsReconciled managed plan t u
reconciled_told managed plan t old new is h = subst (λ (o : Option Tree). Reconciled managed plan o new) is h

-- two runs that are done
both_done : (i : Inputs) (t r : Tree) (old new other now : World) (s v : Status) → Starts t r old → Starts t r other → s ≡ Done → v ≡ Done → (a b : Build) (mid midway : StoreSeen) → IsDone i a mid old new → IsDone i b midway other now → OneBuild r a b → EndAlike old new other now s v
both_done i t r old new other now s v st ot es ev a b mid midway da db one =
    let top = modules_path i.place in
    let managed = managed_of top in
    let p = a.fetched.sources.packages in
    let q = b.fetched.sources.packages in
    let same : map contents p ≡ map contents q = one_list r a.fetched.sources b.fetched.sources one.sources in
    let lengths : length p ≡ length q = sym (length-map p contents) ∙ ap length same ∙ length-map q contents in
    let ia = reconciled_told managed a.plan t old.project.tree new.project.tree st.project da.written.plan in
    let ib = reconciled_told managed b.plan t other.project.tree now.project.tree ot.project db.written.plan in
    let pa = has_passed i (trees_of old) a da.passed in
    let pb = has_passed i (trees_of other) b db.passed in
    let ea = pa.planned.entries in
    let eb : AreEntries (layout_at a.fetched) b.plan = subst (λ (l : Layout). AreEntries l b.plan) (one_layout r a.fetched b.fetched one) pb.planned.entries in
    let ca : IsClosed top a.plan = subst (λ (k : Project). IsClosed (modules_path k.place) a.plan) pa.gathered.from pa.planned.closed in
    let cb : IsClosed top b.plan = subst (λ (k : Project). IsClosed (modules_path k.place) b.plan) pb.gathered.from pb.planned.closed in
    let trees : AreAlike (Some ia.0) (Some ib.0) = λ x. like_at t ia.0 ib.0 top a.plan b.plan (same_plans (layout_at a.fetched) a.plan b.plan ea eb) (same_plans (layout_at a.fetched) b.plan a.plan eb ea) ca cb ia.2 ib.2 x in
    record {
      status = es ∙ sym ev;
      tree = subst (λ (o : Option Tree). AreAlike o now.project.tree) (sym ia.1) (subst (AreAlike (Some ia.0)) (sym ib.1) trees);
      out = λ began. da.told.all ∙ (λ j. told_more (began j) (report_of (lengths j))) ∙ sym db.told.all;
    }

alike : (a : Option Tree) → AreAlike a a
alike None = tt
alike (Some u) = λ q. inl refl

found_told : (t r : Tree) (i : Inputs) (old : World) (b : Build) → Starts t r old → install.Finds i (trees_of old) b → install.Finds i (told t r).trees b
found_told t r i old b at f = subst (λ (w : Shown). install.Finds i w.trees b) (shown_is t r old at) f

both_ended : (i : Inputs) (t r : Tree) (old new other now : World) (s v : Status) → IsTree t → IsTree r → Starts t r old → Starts t r other → IsOwn s → IsOwn v → Ended t r i old new s → Ended t r i other now v → EndAlike old new other now s v
both_ended i t r old new other now s v tree_t shape st ot o u (inl a) (inl b) = record {
  status = (install_settled t r tree_t shape).cause i i s v refl a.0 b.0 o u;
  tree = subst (AreAlike new.project.tree) (a.1.project ∙ st.project ∙ sym ot.project ∙ sym b.1.project) (alike new.project.tree);
  out = λ began. ap (λ (x : Taken). x.bytes) a.1.out ∙ began ∙ sym (ap (λ (x : Taken). x.bytes) b.1.out);
}
both_ended i t r old new other now s v tree_t shape st ot o u (inl a) (inr b) = own_free s o ((install_settled t r tree_t shape).other i i b.1.0 s refl a.0 (found_told t r i other b.1.0 ot b.1.2.passed))
both_ended i t r old new other now s v tree_t shape st ot o u (inr a) (inl b) = own_free v u ((install_settled t r tree_t shape).apart i i a.1.0 v refl (found_told t r i old a.1.0 st a.1.2.passed) b.0)
both_ended i t r old new other now s v tree_t shape st ot o u (inr a) (inr b) =
    both_done i t r old new other now s v st ot a.0 b.0 a.1.0 b.1.0 a.1.1 b.1.1 a.1.2 b.1.2 ((install_settled t r tree_t shape).finds i i a.1.0 b.1.0 refl (found_told t r i old a.1.0 st a.1.2.passed) (found_told t r i other b.1.0 ot b.1.2.passed))

pub settled_law : SettledLaw
settled_law i t r old new other now s v tree_t shape st ot e f o u = both_ended i t r old new other now s v tree_t shape st ot o u (ended t r i old new s st e o) (ended t r i other now v ot f u)
