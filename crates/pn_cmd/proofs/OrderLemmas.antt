-- A point that is passed has no cause.
use Rattle.std.proofs.Common.{◌≡◌, ◌∙◌, ℕ, List, ap, sym, subst, arith, Option, Some, None, length}
use Rattle.std.specs.Prelude.{IfSome}
use Rattle.serde_json.specs.Data.{Data}
use Rattle.pn_text.specs.Path.{Path}
use Rattle.pn_fs.specs.Tree.{Tree}
use Rattle.pn_fs.proofs.SeenLemmas.{file_once}
use Rattle.pn_manifest.specs.Text.{IsObjectText}
use Rattle.pn_manifest.specs.Fields.{first_wrong}
use Rattle.pn_choice.specs.Graphs.{IsGraphOf}
use Rattle.pn_choice.specs.Refusals.{Unplain}
use Rattle.pn_choice.proofs.SettledLemmas.{passed as graph_passed}
use Rattle.pn_collect.specs.Packages.{ArePackages}
use Rattle.pn_collect.specs.CollectFaults.{IsFirstRefused}
use Rattle.pn_collect.proofs.Passed.{passed as listed_passed}
use Rattle.pn_manifest.specs.declared.fault.ManifestWhy.TheVariants.{Missing, NotJson, BadField}
use Rattle.pn_status.specs.declared.status.Which.TheVariants.{File, Text, Path as PathLength, Entries, Numbers}
use Rattle.pn_text.proofs.Bools.{true_false}
use Rattle.pn_workspace.specs.Stores.{is_misplaced, store_of}
use Rattle.pn_workspace.specs.declared.fault.WorkspaceWhy.TheVariants.{BadKey}
use Rattle.pn_workspace.specs.declared.search.Workspace.{Workspace}
use Rattle.pn_workspace.proofs.AnswerLemmas.{answer as space_answer}
use Rattle.pn_status.specs.declared.status.FileWhy.TheVariants.{Manifest as of_manifest, Workspace as of_workspace}
use Rattle.pn_status.specs.declared.status.Status.{Status}
use Rattle.pn_status.specs.declared.status.Status.TheVariants.{Usage, Manifest as BadManifest, Foreign, Limit, DigestClash, ProjectFault, StoreFault, RegistryFault, NotYet}
use Rattle.pn_package.specs.declared.packages.Package.{Package}
use Rattle.pn_cmd.specs.World.{Shown}
use Rattle.pn_cmd.specs.Points.{IsFree, Excludes}
use Rattle.pn_cmd.specs.Words.{words}
use Rattle.pn_cmd.specs.Spaces.{IsSpace, NoSpace, unbuilt_space, workspace}
use Rattle.pn_cmd.specs.Standing.{standing}
use Rattle.pn_cmd.specs.Scans.{IsScanned, Unscanned, managed_of, scanned}
use Rattle.pn_cmd.specs.Stores.{projects_of, store}
use Rattle.pn_cmd.specs.Manifests.{NoManifest, IsProjectManifest, manifest, project_later}
use Rattle.pn_cmd.specs.Graph.{graph, inputs_of, root}
use Rattle.pn_cmd.specs.Packages.{listed}
use Rattle.pn_cmd.specs.Fetches.{fetched, Unfetched}
use Rattle.pn_cmd.specs.Plans.{planned}
use Rattle.pn_cmd.specs.Laws.{AreTold, OrderLaw}
use Rattle.pn_cmd.proofs.ScanLemmas.{few_or_many, not_foreign}

none_some : {X : Type 0} (x : X) → None ≡ Some x → ⊥
none_some x h = cc h

words_law : Excludes words AreTold
words_law x w y Usage told ok h = absurd (cc (ok, h))
words_law x w y s told ok h = absurd h

stands_law : Excludes standing AreTold
stands_law p w y (Limit PathLength n) told ok h = absurd (omega (arith, ok.fits, h.0, h.1))
stands_law p w y (NotYet text) told ok h =
    let absent : told.tree p ≡ None = subst (λ (o : Option Tree). IfSome o (λ t. t p ≡ None)) told.project ok.absent in
    absurd (subst (λ (o : Option Tree). IfSome o (λ t. t p ≡ None → ⊥)) told.project h.2 absent)
stands_law p w y ProjectFault told ok h = tt
stands_law p w y s told ok h = absurd h

-- the same where the tree is written out
scanned_in : (t : Tree) (registry : Option Tree) (p : Path) (s : Status) → IsScanned (Some t) p → Unscanned p (record { trees = record { project = Some t; registry = registry } }) s → IsFree s
scanned_in t registry p (Limit PathLength n) ok h = absurd (omega (arith, ok.fits, h.0, h.1))
scanned_in t registry p (Limit Entries n) ok h = absurd (few_or_many t (managed_of p) ok.few h.2)
scanned_in t registry p (Foreign q) ok h = absurd (not_foreign t p q ok.ours h.1)
scanned_in t registry p ProjectFault ok h = tt
scanned_in t registry p s ok h = absurd h

scanned_law : Excludes scanned AreTold
scanned_law p w y s told ok h =
    scanned_in told.tree w.trees.registry p s (subst (λ (o : Option Tree). IsScanned o p) told.project ok)
    (subst (λ (o : Option Tree). Unscanned p (record { trees = record { project = o; registry = w.trees.registry } }) s) told.project h)

space_at : (t : Tree) (registry : Option Tree) (p : Path) (v : Workspace) (s : Status) → IsSpace (Some t) p v → NoSpace p (record { trees = record { project = Some t; registry = registry } }) s → IsFree s
space_at t registry p v ProjectFault ok h = tt
space_at t registry p v (NotYet text) ok h = absurd (none_some text (sym ok.built ∙ ap (unbuilt_space p) (space_answer.value t p v h.1.0 ok.found h.1.1) ∙ h.1.2))
space_at t registry p v s ok h = absurd (space_answer.either t p v h.0 h.2 ok.found h.3)

space_law : Excludes workspace AreTold
space_law p w v s told ok h =
    space_at told.tree w.trees.registry p v s (subst (λ (o : Option Tree). IsSpace o p v) told.project ok)
    (subst (λ (o : Option Tree). NoSpace p (record { trees = record { project = o; registry = w.trees.registry } }) s) told.project h)

store_law : Excludes store AreTold
store_law k w y (Limit PathLength n) told ok h = absurd (omega (arith, ok.fits, h.1))
store_law k w y (BadManifest text (of_workspace (BadKey key))) told ok h = absurd (true_false (is_misplaced k.workspace.root k.place (projects_of k) (store_of k.workspace)) h.2.1 ok.free)
store_law k w y (NotYet text) told ok h = absurd (h.1.2 (h.1.1.is ∙ sym ok.is))
store_law k w y s told ok h = absurd h

pub same_data : (bytes other : List ℕ) (d f : Data) → bytes ≡ other → IsObjectText bytes d → IsObjectText other f → d ≡ f
same_data bytes other d f e h k = cc (h.read, k.read, e)

-- the same where the tree is written out
manifest_at : (t : Tree) (registry : Option Tree) (p : Path) (d : Data) (s : Status) → IsProjectManifest (Some t) p d → NoManifest p (record { trees = record { project = Some t; registry = registry } }) s → IsFree s
manifest_at t registry p d ProjectFault ok h = tt
manifest_at t registry p d (Limit PathLength n) ok h = absurd (omega (arith, ok.fits, h.0, h.1))
manifest_at t registry p d (Limit Text n) ok h =
    let m = ok.read in
    absurd (omega (arith, m.stands.short, ap length (file_once (t p) m.bytes h.2.0 m.stands.is h.2.1), h.2.2, h.1))
manifest_at t registry p d (BadManifest text (of_manifest Missing)) ok h = absurd (h.2 ok.read.bytes ok.read.stands.is)
manifest_at t registry p d (BadManifest text (of_manifest NotJson)) ok h =
    let m = ok.read in
    absurd (h.2.2 d (subst (λ b. IsObjectText b d) (file_once (t p) m.bytes h.2.0 m.stands.is h.2.1.is) m.text))
manifest_at t registry p d (BadManifest text (of_manifest (BadField f k))) ok h =
    let m = ok.read in
    let one = same_data m.bytes h.2.0 d h.2.1 (file_once (t p) m.bytes h.2.0 m.stands.is h.2.2.is) m.text h.2.3 in
    let clash : first_wrong h.2.1 ≡ None = subst (λ e. first_wrong e ≡ None) one m.right in
    absurd (cc (clash, h.2.4))
manifest_at t registry p d (NotYet key) ok h =
    let m = ok.read in
    let n = h.1.1 in
    let one = same_data m.bytes n.bytes d h.1.0 (file_once (t p) m.bytes n.bytes m.stands.is n.stands.is) m.text n.text in
    let clash : project_later h.1.0 ≡ None = subst (λ e. project_later e ≡ None) one ok.built in
    absurd (cc (clash, h.1.2))
manifest_at t registry p d s ok h = absurd h

manifest_law : Excludes manifest AreTold
manifest_law p w own s told ok h =
    manifest_at told.tree w.trees.registry p ok.value s (subst (λ (o : Option Tree). IsProjectManifest o p ok.value) told.project ok.manifest)
    (subst (λ (o : Option Tree). NoManifest p (record { trees = record { project = o; registry = w.trees.registry } }) s) told.project h)

graph_law : Excludes graph AreTold
graph_law m w plain RegistryFault told ok h = tt
graph_law m w plain s told ok h =
    absurd (graph_passed told.packages (inputs_of m) root plain h.0 (subst (λ (o : Option Tree). IsGraphOf o (inputs_of m) root plain) told.registry ok) (subst (λ (o : Option Tree). Unplain (inputs_of m) o h.0) told.registry h.2))

listed_law : Excludes listed AreTold
listed_law k w packages RegistryFault told ok h = tt
listed_law k w packages s told ok h =
    absurd (listed_passed told.packages k.plain packages h.0 (subst (λ (o : Option Tree). ArePackages o k.plain packages) told.registry ok) (subst (λ (o : Option Tree). IsFirstRefused k.plain o h.0) told.registry h.2))

-- no refusal of the store is settled by trees that are told
pub fetched_free : (packages : List Package) (w : Shown) (s : Status) → AreTold w → Unfetched packages w s → IsFree s
fetched_free packages w StoreFault told h = tt
fetched_free packages w RegistryFault told h = tt
fetched_free packages w (DigestClash at) told h = tt
fetched_free packages w (Limit Numbers n) told h = tt
fetched_free packages w (Limit File n) told h = absurd (none_some told.packages (sym h.1 ∙ told.registry))
fetched_free packages w s told h = absurd h

fetched_law : Excludes fetched AreTold
fetched_law k w listings s told ok h = fetched_free k.packages w s told h

planned_law : Excludes planned AreTold
planned_law k w plan (Limit PathLength n) told ok h =
    absurd (omega (arith, ok.fits h.path h.what h.planned, h.size_is, h.long))
planned_law k w plan s told ok h = absurd h

pub order_law : OrderLaw
order_law = record { words = words_law; workspace = space_law; standing = stands_law; scanned = scanned_law; manifest = manifest_law; store = store_law; graph = graph_law; listed = listed_law; fetched = fetched_law; planned = planned_law }
