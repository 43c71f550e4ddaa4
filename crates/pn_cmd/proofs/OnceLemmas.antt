-- Of told trees each point refuses for one cause.
use Rattle.std.proofs.Common.{◌≡◌, ◌<◌, ◌≤◌, ◌⊎◌, ◌+◌, ℕ, List, refl, sym, ap, ◌∙◌, subst, arith, Option, Some, None, inl, inr, length}
use Rattle.std.proofs.lemmas.Option.{same_Some}
use Rattle.serde_json.specs.Data.{Data}
use Rattle.pn_text.specs.declared.limits.TheConstants.{ENTRY_LIMIT, PATH_LIMIT, TEXT_LIMIT}
use Rattle.pn_text.specs.Path.{Path, path_text}
use Rattle.pn_fs.specs.Tree.{Entry, Tree, IsTree}
use Rattle.pn_fs.proofs.SeenLemmas.{file_once as same_file}
use Rattle.pn_read.specs.Small.{IsFileOf}
use Rattle.pn_manifest.specs.Text.{IsObjectText}
use Rattle.pn_manifest.specs.Fields.{first_wrong}
use Rattle.pn_manifest.specs.Said.{Said}
use Rattle.pn_graph.specs.declared.plain.Plain.{Plain}
use Rattle.pn_choice.specs.Refusals.{Unplain}
use Rattle.pn_choice.specs.declared.fault.ChoiceFault.{ChoiceFault}
use Rattle.pn_choice.proofs.SettledLemmas.{cause as graph_cause}
use Rattle.pn_collect.specs.CollectFaults.{IsFirstRefused}
use Rattle.pn_collect.specs.declared.fault.CollectFault.{CollectFault}
use Rattle.pn_collect.proofs.CauseLemmas.{cause as listed_cause}
use Rattle.pn_manifest.specs.declared.fault.ManifestWhy.TheVariants.{Missing, NotJson, BadField}
use Rattle.pn_status.specs.declared.status.Which.TheVariants.{Text, Path as PathLength, Entries}
use Rattle.pn_text.proofs.Bools.{true_false}
use Rattle.pn_workspace.specs.Laws.{IsOwn as FaultOwn}
use Rattle.pn_workspace.specs.Stores.{is_misplaced, store_of}
use Rattle.pn_workspace.specs.Workspaces.{IsWorkspace, NoWorkspace}
use Rattle.pn_workspace.specs.declared.fault.WorkspaceFault.{WorkspaceFault}
use Rattle.pn_workspace.specs.declared.fault.WorkspaceWhy.TheVariants.{BadKey}
use Rattle.pn_workspace.specs.declared.search.Workspace.{Workspace}
use Rattle.pn_workspace.proofs.AnswerLemmas.{answer as space_answer}
use Rattle.pn_status.specs.declared.status.FileWhy.TheVariants.{Manifest as of_manifest, Workspace as of_workspace}
use Rattle.pn_status.specs.declared.status.Status.{Status}
use Rattle.pn_status.specs.declared.status.Status.TheVariants.{Usage, Manifest as BadManifest, Foreign, Limit, ProjectFault, RegistryFault, NotYet}
use Rattle.pn_cmd.specs.World.{Shown}
use Rattle.pn_cmd.specs.Words.{AreNoCommand}
use Rattle.pn_cmd.specs.Known.{Space}
use Rattle.pn_cmd.specs.Spaces.{NoSpace, space_status, unbuilt_space}
use Rattle.pn_cmd.specs.Standing.{Stands}
use Rattle.pn_scan.specs.ScanFaults.{IsForeign, HasMany}
use Rattle.pn_cmd.specs.Scans.{Unscanned, managed_of}
use Rattle.pn_cmd.specs.Stores.{NoDefault, projects_of}
use Rattle.pn_workspace.specs.Contents.{IsText}
use Rattle.pn_workspace.proofs.AnswerLemmas.{too_large}
use Rattle.pn_cmd.specs.Manifests.{NoManifest, IsManifest, IsWrong, project_later}
use Rattle.pn_cmd.specs.Graph.{HasNoGraph, choice_status, inputs_of}
use Rattle.pn_cmd.specs.Packages.{Unlisted, collect_status}
use Rattle.pn_cmd.specs.Laws.{IsOwn}
use Rattle.pn_cmd.proofs.OrderLemmas.{same_data}
use Rattle.pn_cmd.proofs.ScanLemmas.{foreign_once, not_foreign}

-- these trees are told
abbrev pub told : Tree → Tree → Shown
told t r = record { trees = record { project = Some t; registry = Some r } }

pub words_once : (words : List (List ℕ)) (w : Shown) (s v : Status) → AreNoCommand words w s → AreNoCommand words w v → s ≡ v
words_once words w Usage Usage h k = refl
words_once words w Usage v h k = absurd k
words_once words w s v h k = absurd h

-- There is no workspace, or one that isn't taken.
abbrev SpaceRefused : Tree → Path → Status → Type 0
SpaceRefused t p s =
    ((fault : WorkspaceFault) × (s ≡ space_status fault) × FaultOwn fault × NoWorkspace (Some t) p fault)
    ⊎ ((text : List ℕ) × (s ≡ NotYet text) × ((space : Workspace) × IsWorkspace t p space × (unbuilt_space p space ≡ Some text)))

space_as : (t r : Tree) (p : Path) (s : Status) → IsOwn s → NoSpace p (told t r) s → SpaceRefused t p s
space_as t r p ProjectFault o h = absurd o
space_as t r p (NotYet text) o h = inr (text, refl, h.1)
space_as t r p s o h = inl h

pub space_once : (t r : Tree) (p : Path) (s v : Status) → NoSpace p (told t r) s → NoSpace p (told t r) v → IsOwn s → IsOwn v → s ≡ v
space_once t r p s v h k o u = one (space_as t r p s o h) (space_as t r p v u k)
  where
    one : SpaceRefused t p s → SpaceRefused t p v → s ≡ v
    one (inl a) (inl b) = a.1 ∙ ap space_status (space_answer.refusal t p a.0 b.0 a.2 b.2 a.3 b.3) ∙ sym b.1
    one (inl a) (inr b) = absurd (space_answer.either t p b.2.0 a.0 a.2 b.2.1 a.3)
    one (inr a) (inl b) = absurd (space_answer.either t p a.2.0 b.0 b.2 a.2.1 b.3)
    one (inr a) (inr b) = a.1 ∙ ap NotYet (same_Some a.0 b.0 (sym a.2.2 ∙ ap (unbuilt_space p) (space_answer.value t p a.2.0 b.2.0 a.2.1 b.2.1) ∙ b.2.2)) ∙ sym b.1

pub store_once : (k : Space) (w : Shown) (s v : Status) → NoDefault k w s → NoDefault k w v → s ≡ v
store_once k w (Limit PathLength n) (Limit PathLength m) h j = ap (Limit PathLength) (h.0 ∙ sym j.0)
store_once k w (Limit PathLength n) (BadManifest text (of_workspace (BadKey key))) h j = absurd (omega (arith, h.1, j.2.0))
store_once k w (Limit PathLength n) (NotYet text) h j = absurd (omega (arith, h.1, j.1.1.fits))
store_once k w (Limit PathLength n) v h j = absurd j
store_once k w (BadManifest text (of_workspace (BadKey key))) (Limit PathLength m) h j = absurd (omega (arith, j.1, h.2.0))
store_once k w (BadManifest text (of_workspace (BadKey key))) (BadManifest other (of_workspace (BadKey also))) h j =
    let path : text ≡ other = h.0 ∙ sym j.0 in
    let name : key ≡ also = h.1 ∙ sym j.1 in
    λ i. BadManifest (path i) (of_workspace (BadKey (name i)))
store_once k w (BadManifest text (of_workspace (BadKey key))) (NotYet other) h j = absurd (true_false (is_misplaced k.workspace.root k.place (projects_of k) (store_of k.workspace)) h.2.1 j.1.1.free)
store_once k w (BadManifest text (of_workspace (BadKey key))) v h j = absurd j
store_once k w (NotYet text) (Limit PathLength m) h j = absurd (omega (arith, j.1, h.1.1.fits))
store_once k w (NotYet text) (BadManifest other (of_workspace (BadKey also))) h j = absurd (true_false (is_misplaced k.workspace.root k.place (projects_of k) (store_of k.workspace)) j.2.1 h.1.1.free)
store_once k w (NotYet text) (NotYet other) h j = ap NotYet (h.0 ∙ sym j.0)
store_once k w (NotYet text) v h j = absurd j
store_once k w s v h j = absurd h

-- the path is too long, or it has a text that is told
stands_as : (p : Path) (w : Shown) (s : Status) → IsOwn s → Stands p w s → ((PATH_LIMIT < length (path_text p)) × (s ≡ Limit PathLength (length (path_text p)))) ⊎ ((length (path_text p) ≤ PATH_LIMIT) × (s ≡ NotYet (path_text p)))
stands_as p w (Limit PathLength n) o h = inl (omega (arith, h.0, h.1), ap (Limit PathLength) h.0)
stands_as p w (NotYet text) o h = inr (subst (λ (l : List ℕ). length l ≤ PATH_LIMIT) h.0 h.1, ap NotYet h.0)
stands_as p w ProjectFault o h = absurd o
stands_as p w s o h = absurd h

pub stands_once : (p : Path) (w : Shown) (s v : Status) → Stands p w s → Stands p w v → IsOwn s → IsOwn v → s ≡ v
stands_once p w s v h k o u = one (stands_as p w s o h) (stands_as p w v u k)
  where
    one : ((PATH_LIMIT < length (path_text p)) × (s ≡ Limit PathLength (length (path_text p)))) ⊎ ((length (path_text p) ≤ PATH_LIMIT) × (s ≡ NotYet (path_text p)))
        → ((PATH_LIMIT < length (path_text p)) × (v ≡ Limit PathLength (length (path_text p)))) ⊎ ((length (path_text p) ≤ PATH_LIMIT) × (v ≡ NotYet (path_text p))) → s ≡ v
    one (inl a) (inl b) = a.1 ∙ sym b.1
    one (inl a) (inr b) = absurd (omega (arith, a.0, b.0))
    one (inr a) (inl b) = absurd (omega (arith, a.0, b.0))
    one (inr a) (inr b) = a.1 ∙ sym b.1

-- The path is too long, the folder isn't the installer's, or too much stands below it.
abbrev ScanCause : Tree → Path → Status → Type 0
ScanCause t p s =
    ((PATH_LIMIT < length (path_text p)) × (s ≡ Limit PathLength (length (path_text p))))
    ⊎ ((length (path_text p) ≤ PATH_LIMIT) × (((q : Path) × (s ≡ Foreign q) × IsForeign t (managed_of p) q) ⊎ ((s ≡ Limit Entries (ENTRY_LIMIT + 1)) × HasMany t (managed_of p))))

scan_as : (t r : Tree) (p : Path) (s : Status) → IsOwn s → Unscanned p (told t r) s → ScanCause t p s
scan_as t r p (Limit PathLength n) o h = inl (omega (arith, h.0, h.1), ap (Limit PathLength) h.0)
scan_as t r p (Limit Entries n) o h = inr (h.0, inr (ap (Limit Entries) h.1, h.2))
scan_as t r p (Foreign q) o h = inr (h.0, inl (q, refl, h.1))
scan_as t r p ProjectFault o h = absurd o
scan_as t r p s o h = absurd h

pub scanned_once : (t r : Tree) (p : Path) (s v : Status) → IsTree t → Unscanned p (told t r) s → Unscanned p (told t r) v → IsOwn s → IsOwn v → s ≡ v
scanned_once t r p s v tree h k o u = one (scan_as t r p s o h) (scan_as t r p v u k)
  where
    one : ScanCause t p s → ScanCause t p v → s ≡ v
    one (inl a) (inl b) = a.1 ∙ sym b.1
    one (inl a) (inr b) = absurd (omega (arith, a.0, b.0))
    one (inr a) (inl b) = absurd (omega (arith, a.0, b.0))
    one (inr (x, inl a)) (inr (y, inl b)) = a.1 ∙ ap Foreign (foreign_once t tree p a.0 b.0 a.2 b.2) ∙ sym b.1
    one (inr (x, inl a)) (inr (y, inr b)) = absurd (not_foreign t p a.0 b.1.ours a.2)
    one (inr (x, inr a)) (inr (y, inl b)) = absurd (not_foreign t p b.0 a.1.ours b.2)
    one (inr (x, inr a)) (inr (y, inr b)) = a.0 ∙ sym b.0

-- why a file that is told is refused as a manifest
abbrev FileRefused : Path → Option Entry → Status → Type 0
FileRefused p e (Limit Text n) = (TEXT_LIMIT < n) × IsFileOf n e
FileRefused p e (BadManifest text (of_manifest why)) = (text ≡ path_text p) × IsWrong e why
FileRefused p e (NotYet key) = (d : Data) × IsManifest e d × (project_later d ≡ Some key)
FileRefused p e s = ⊥

one_value : (e : Option Entry) (a b : List ℕ) (d f : Data) → IsText e a → IsText e b → IsObjectText a d → IsObjectText b f → d ≡ f
one_value e a b d f h k m n = same_data a b d f (same_file e a b h.is k.is) m n

no_value : (e : Option Entry) (a b : List ℕ) (d : Data) → IsText e a → IsText e b → ((f : Data) → IsObjectText a f → ⊥) → IsObjectText b d → ⊥
no_value e a b d h k none m = none d (subst (λ l. IsObjectText l d) (same_file e b a k.is h.is) m)

apart : {X : Type 0} (x : X) → Some x ≡ None → ⊥
apart x h = cc h

file_once : (p : Path) (e : Option Entry) (s v : Status) → FileRefused p e s → FileRefused p e v → s ≡ v
file_once p e (Limit Text n) (Limit Text m) h k = ap (Limit Text) (h.1.2 ∙ ap length (same_file e h.1.0 k.1.0 h.1.1 k.1.1) ∙ sym k.1.2)
file_once p e (Limit Text n) (BadManifest u (of_manifest Missing)) h k = absurd (k.1 h.1.0 h.1.1)
file_once p e (Limit Text n) (BadManifest u (of_manifest NotJson)) h k = absurd (too_large e n k.1.0 h.0 h.1 k.1.1)
file_once p e (Limit Text n) (BadManifest u (of_manifest (BadField f g))) h k = absurd (too_large e n k.1.0 h.0 h.1 k.1.2)
file_once p e (Limit Text n) (NotYet key) h k = absurd (too_large e n k.1.bytes h.0 h.1 k.1.stands)
file_once p e (Limit Text n) v h k = absurd k
file_once p e (BadManifest t (of_manifest Missing)) (Limit Text n) h k = absurd (h.1 k.1.0 k.1.1)
file_once p e (BadManifest t (of_manifest Missing)) (BadManifest u (of_manifest Missing)) h k = ap (λ (l : List ℕ). BadManifest l (of_manifest Missing)) (h.0 ∙ sym k.0)
file_once p e (BadManifest t (of_manifest Missing)) (BadManifest u (of_manifest NotJson)) h k = absurd (h.1 k.1.0 k.1.1.is)
file_once p e (BadManifest t (of_manifest Missing)) (BadManifest u (of_manifest (BadField f g))) h k = absurd (h.1 k.1.0 k.1.2.is)
file_once p e (BadManifest t (of_manifest Missing)) (NotYet key) h k = absurd (h.1 k.1.bytes k.1.stands.is)
file_once p e (BadManifest t (of_manifest Missing)) v h k = absurd k
file_once p e (BadManifest t (of_manifest NotJson)) (Limit Text n) h k = absurd (too_large e n h.1.0 k.0 k.1 h.1.1)
file_once p e (BadManifest t (of_manifest NotJson)) (BadManifest u (of_manifest Missing)) h k = absurd (k.1 h.1.0 h.1.1.is)
file_once p e (BadManifest t (of_manifest NotJson)) (BadManifest u (of_manifest NotJson)) h k = ap (λ (l : List ℕ). BadManifest l (of_manifest NotJson)) (h.0 ∙ sym k.0)
file_once p e (BadManifest t (of_manifest NotJson)) (BadManifest u (of_manifest (BadField f g))) h k = absurd (no_value e h.1.0 k.1.0 k.1.1 h.1.1 k.1.2 h.1.2 k.1.3)
file_once p e (BadManifest t (of_manifest NotJson)) (NotYet key) h k = absurd (no_value e h.1.0 k.1.bytes k.0 h.1.1 k.1.stands h.1.2 k.1.text)
file_once p e (BadManifest t (of_manifest NotJson)) v h k = absurd k
file_once p e (BadManifest t (of_manifest (BadField a b))) (Limit Text n) h k = absurd (too_large e n h.1.0 k.0 k.1 h.1.2)
file_once p e (BadManifest t (of_manifest (BadField a b))) (BadManifest u (of_manifest Missing)) h k = absurd (k.1 h.1.0 h.1.2.is)
file_once p e (BadManifest t (of_manifest (BadField a b))) (BadManifest u (of_manifest NotJson)) h k = absurd (no_value e k.1.0 h.1.0 h.1.1 k.1.1 h.1.2 k.1.2 h.1.3)
file_once p e (BadManifest t (of_manifest (BadField a b))) (BadManifest u (of_manifest (BadField f g))) h k =
    let one = one_value e h.1.0 k.1.0 h.1.1 k.1.1 h.1.2 k.1.2 h.1.3 k.1.3 in
    let spot : (a, b) ≡ (f, g) = same_Some (a, b) (f, g) (sym h.1.4 ∙ ap first_wrong one ∙ k.1.4) in
    let text : t ≡ u = h.0 ∙ sym k.0 in
    λ i. BadManifest (text i) (of_manifest (BadField (spot i).0 (spot i).1))
file_once p e (BadManifest t (of_manifest (BadField a b))) (NotYet key) h k =
    let one = one_value e h.1.0 k.1.bytes h.1.1 k.0 h.1.2 k.1.stands h.1.3 k.1.text in
    absurd (apart (a, b) (sym h.1.4 ∙ ap first_wrong one ∙ k.1.right))
file_once p e (BadManifest t (of_manifest (BadField a b))) v h k = absurd k
file_once p e (NotYet key) (Limit Text n) h k = absurd (too_large e n h.1.bytes k.0 k.1 h.1.stands)
file_once p e (NotYet key) (BadManifest u (of_manifest Missing)) h k = absurd (k.1 h.1.bytes h.1.stands.is)
file_once p e (NotYet key) (BadManifest u (of_manifest NotJson)) h k = absurd (no_value e k.1.0 h.1.bytes h.0 k.1.1 h.1.stands k.1.2 h.1.text)
file_once p e (NotYet key) (BadManifest u (of_manifest (BadField f g))) h k =
    let one = one_value e h.1.bytes k.1.0 h.0 k.1.1 h.1.stands k.1.2 h.1.text k.1.3 in
    absurd (apart (f, g) (sym k.1.4 ∙ ap first_wrong (sym one) ∙ h.1.right))
file_once p e (NotYet key) (NotYet other) h k =
    let one = one_value e h.1.bytes k.1.bytes h.0 k.0 h.1.stands k.1.stands h.1.text k.1.text in
    ap NotYet (same_Some key other (sym h.2 ∙ ap project_later one ∙ k.2))
file_once p e (NotYet key) v h k = absurd k
file_once p e s v h k = absurd h

manifest_as : (t r : Tree) (p : Path) (s : Status) → IsOwn s → NoManifest p (told t r) s → ((PATH_LIMIT < length (path_text p)) × (s ≡ Limit PathLength (length (path_text p)))) ⊎ ((length (path_text p) ≤ PATH_LIMIT) × FileRefused p (t p) s)
manifest_as t r p (Limit PathLength n) o h = inl (omega (arith, h.0, h.1), ap (Limit PathLength) h.0)
manifest_as t r p (Limit Text n) o h = inr (h.0, (h.1, h.2))
manifest_as t r p (BadManifest text (of_manifest why)) o h = inr (h.0, (h.1, h.2))
manifest_as t r p (NotYet key) o h = inr h
manifest_as t r p ProjectFault o h = absurd o
manifest_as t r p s o h = absurd h

pub manifest_once : (t r : Tree) (p : Path) (s v : Status) → NoManifest p (told t r) s → NoManifest p (told t r) v → IsOwn s → IsOwn v → s ≡ v
manifest_once t r p s v h k o u = one (manifest_as t r p s o h) (manifest_as t r p v u k)
  where
    one : ((PATH_LIMIT < length (path_text p)) × (s ≡ Limit PathLength (length (path_text p)))) ⊎ ((length (path_text p) ≤ PATH_LIMIT) × FileRefused p (t p) s)
        → ((PATH_LIMIT < length (path_text p)) × (v ≡ Limit PathLength (length (path_text p)))) ⊎ ((length (path_text p) ≤ PATH_LIMIT) × FileRefused p (t p) v) → s ≡ v
    one (inl a) (inl b) = a.1 ∙ sym b.1
    one (inl a) (inr b) = absurd (omega (arith, a.0, b.0))
    one (inr a) (inl b) = absurd (omega (arith, a.0, b.0))
    one (inr a) (inr b) = file_once p (t p) s v a.1 b.1

graph_shown : (m : Said) (w : Shown) (s : Status) → IsOwn s → HasNoGraph m w s → (fault : ChoiceFault) × (s ≡ choice_status fault) × Unplain (inputs_of m) w.trees.registry fault
graph_shown m w RegistryFault o h = absurd o
graph_shown m w s o h = h

pub graph_once : (t r : Tree) (m : Said) (s v : Status) → HasNoGraph m (told t r) s → HasNoGraph m (told t r) v → IsOwn s → IsOwn v → s ≡ v
graph_once t r m s v h k o u =
    let a = graph_shown m (told t r) s o h in
    let b = graph_shown m (told t r) v u k in
    a.1 ∙ ap choice_status (graph_cause r (inputs_of m) a.0 b.0 a.2 b.2) ∙ sym b.1

list_shown : (plain : Plain) (w : Shown) (s : Status) → IsOwn s → Unlisted plain w s → (fault : CollectFault) × (s ≡ collect_status fault) × IsFirstRefused plain w.trees.registry fault
list_shown plain w RegistryFault o h = absurd o
list_shown plain w s o h = h

pub listed_once : (t r : Tree) (plain : Plain) (s v : Status) → IsTree r → Unlisted plain (told t r) s → Unlisted plain (told t r) v → IsOwn s → IsOwn v → s ≡ v
listed_once t r plain s v tree h k o u =
    let a = list_shown plain (told t r) s o h in
    let b = list_shown plain (told t r) v u k in
    a.1 ∙ ap collect_status (listed_cause r plain a.0 b.0 tree a.2 b.2) ∙ sym b.1
