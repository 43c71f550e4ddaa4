-- What the plain graph gives to the points after it.
use Rattle.std.proofs.Common.{◌≡◌, ◌⊎◌, ℕ, List, [], ◌∷◌, Option, Some, refl, sym, subst, inl, inr}
use Rattle.std.specs.List.Sorted.{IsStrictlySortedBy}
use Rattle.pn_text.specs.declared.index.ProjIx.{ProjIx}
use Rattle.pn_fs.specs.Tree.{Tree, IsTree}
use Rattle.pn_storecore.specs.Seen.{Seen as Stored}
use Rattle.pn_fs.specs.Seen.{Seen, Taken}
use Rattle.pn_manifest.specs.Said.{AreRising, Said}
use Rattle.pn_graph.specs.declared.plain.Plain.{Plain}
use Rattle.pn_plain.specs.Plains.{Inputs}
use Rattle.pn_choice.specs.Graphs.{IsGraphOf}
use Rattle.pn_choice.specs.Refusals.{Unplain}
use Rattle.pn_choice.specs.Refusals.{Refuses as ChoiceRefuses}
use Rattle.pn_choice.specs.declared.fault.ChoiceFault.{ChoiceFault}
use Rattle.pn_choice.specs.declared.fault.ChoiceFault.TheVariants.{Unsupported as FaultUnsupported, Unbuilt as FaultUnbuilt, NoVersion as FaultNoVersion, Registry as FaultRegistry, Packages as FaultPackages, Fault, Memory as NoMemory}
use Rattle.pn_choice.specs.declared.fault.RegistryLack.TheVariants.{BadTags as LackTags, Entries as LackEntries, Wrong as LackManifest, TooLarge as LackText, Unbuilt as LackUnbuilt}
use Rattle.pn_choice.proofs.WordsLemmas.{folders, short}
use Rattle.pn_collect.specs.Packages.{AreShort, FoldersStand}
use Rattle.pn_status.specs.declared.status.Status.{Status}
use Rattle.pn_status.specs.declared.status.Status.TheVariants.{Memory}
use Rattle.pn_cmd.specs.World.{world}
use Rattle.pn_cmd.specs.Points.{Refuses}
use Rattle.pn_cmd.specs.Graph.{HasNoGraph, inputs_of, choice_status}

-- one text rises
pub one_rises : (x : List ℕ) → AreRising (x ∷ [])
unfolding IsStrictlySortedBy
one_rises x = (tt, tt)

-- its packages are folders of the registry
pub graph_stands : (r : Option Tree) (i : Inputs) (root : ProjIx) (p : Plain) → ((t : Tree) → r ≡ Some t → IsTree t) → IsGraphOf r i root p → FoldersStand r p
graph_stands r i root p tree g t told q c = folders t i root p (tree t told) (subst (λ (o : Option Tree). IsGraphOf o i root p) told g) q c

-- and their ids are short
pub graph_short : (r : Option Tree) (i : Inputs) (root : ProjIx) (p : Plain) → IsGraphOf r i root p → AreShort p
graph_short r i root p g q c = short r i root p g q c

of_fault : (m : Said) (project old new : Seen) (store : Stored) (out : Taken) (fault : ChoiceFault) → ChoiceRefuses (λ r f. Unplain (inputs_of m) r f) old new fault → Refuses (HasNoGraph m) (world project old store out) (world project new store out) (choice_status fault)
of_fault m project old new store out (FaultUnsupported e) h = (FaultUnsupported e, refl, h)
of_fault m project old new store out (FaultUnbuilt e) h = (FaultUnbuilt e, refl, h)
of_fault m project old new store out (FaultNoVersion e) h = (FaultNoVersion e, refl, h)
of_fault m project old new store out (FaultRegistry (LackTags n)) h = (FaultRegistry (LackTags n), refl, h)
of_fault m project old new store out (FaultRegistry LackEntries) h = (FaultRegistry LackEntries, refl, h)
of_fault m project old new store out (FaultRegistry (LackManifest i why)) h = (FaultRegistry (LackManifest i why), refl, h)
of_fault m project old new store out (FaultRegistry (LackText i n)) h = (FaultRegistry (LackText i n), refl, h)
of_fault m project old new store out (FaultRegistry (LackUnbuilt text)) h = (FaultRegistry (LackUnbuilt text), refl, h)
of_fault m project old new store out (FaultPackages n) h = (FaultPackages n, refl, h)
of_fault m project old new store out Fault h = (h, tt)
of_fault m project old new store out NoMemory h = tt

-- A refusal of the graph is one of its point.
pub graph_refused : (m : Said) (project old new : Seen) (store : Stored) (out : Taken) (fault : ChoiceFault) (s : Status) → ChoiceRefuses (λ r f. Unplain (inputs_of m) r f) old new fault → (s ≡ choice_status fault) ⊎ (s ≡ Memory)
    → Refuses (HasNoGraph m) (world project old store out) (world project new store out) s
graph_refused m project old new store out fault s h is = elim is [
  | inl e ↦ subst (λ (x : Status). Refuses (HasNoGraph m) (world project old store out) (world project new store out) x) (sym e) (of_fault m project old new store out fault h)
  | inr e ↦ subst (λ (x : Status). Refuses (HasNoGraph m) (world project old store out) (world project new store out) x) (sym e) tt
]
