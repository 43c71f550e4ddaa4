-- The point at which the project's plain graph is found.
use Rattle.std.specs.Prelude.{◌≡◌, ◌+◌, ◌∷◌, [], ◌++◌, ℕ, List, true, false, codes}
use Rattle.pn_text.specs.declared.index.ProjIx.{ProjIx}
use Rattle.pn_text.specs.declared.limits.TheConstants.{ENTRY_LIMIT}
use Rattle.pn_text.specs.Name.{name_path}
use Rattle.pn_text.specs.Path.{Path, path_text}
use Rattle.pn_manifest.specs.Said.{Said}
use Rattle.pn_registry.specs.Places.{manifest_path}
use Rattle.pn_published.specs.Shelves.{tags_path}
use Rattle.pn_graph.specs.declared.plain.Plain.{Plain}
use Rattle.pn_plain.specs.Plains.{Inputs as PlainInputs}
use Rattle.pn_choice.specs.Graphs.{IsGraphOf}
use Rattle.pn_choice.specs.Refusals.{Unplain}
use Rattle.pn_choice.specs.declared.fault.ChoiceFault.{ChoiceFault}
use Rattle.pn_choice.specs.declared.fault.ChoiceFault.TheVariants.{Unsupported as FaultUnsupported, Unbuilt as FaultUnbuilt, NoVersion as FaultNoVersion, Registry as FaultRegistry, Packages as FaultPackages, Fault, Memory as NoMemory}
use Rattle.pn_choice.specs.declared.fault.RegistryLack.{RegistryLack}
use Rattle.pn_choice.specs.declared.fault.RegistryLack.TheVariants.{BadTags as LackTags, Entries as LackEntries, Wrong as LackManifest, TooLarge as LackText, Unbuilt as LackUnbuilt}
use Rattle.pn_status.specs.declared.status.FileWhy.TheVariants.{Manifest as of_manifest, BadTags}
use Rattle.pn_status.specs.declared.status.Which.TheVariants.{Packages, Text, Entries}
use Rattle.pn_status.specs.declared.status.Status.{Status}
use Rattle.pn_status.specs.declared.status.Status.TheVariants.{Memory, Manifest as BadManifest, NoVersion, Unsupported, Limit, RegistryFault, NotYet}
use Rattle.pn_cmd.specs.World.{Shown}
use Rattle.pn_cmd.specs.Points.{Point}

-- a path of the registry, as it is told
abbrev pub registry_text : Path → List ℕ
registry_text p = codes "registry:" ++ path_text p

abbrev pub lack_status : RegistryLack → Status
lack_status (LackTags name) = BadManifest (registry_text (tags_path (name_path name))) BadTags
lack_status LackEntries = Limit Entries (ENTRY_LIMIT + 1)
lack_status (LackManifest id why) = BadManifest (registry_text (manifest_path id)) (of_manifest why)
lack_status (LackText id n) = Limit Text n
lack_status (LackUnbuilt text) = NotYet text

-- the status that tells of a refusal
abbrev pub choice_status : ChoiceFault → Status
choice_status (FaultUnsupported e) = Unsupported e
choice_status (FaultUnbuilt e) = NotYet e.specifier
choice_status (FaultNoVersion e) = NoVersion e
choice_status (FaultRegistry lack) = lack_status lack
choice_status (FaultPackages n) = Limit Packages n
choice_status Fault = RegistryFault
choice_status NoMemory = Memory

-- the first project
abbrev pub root : ProjIx
root = record { 0 = 0 }

-- What the graph is made from besides the registry: one project, nothing that is held, no catalogs, and peers that are
-- installed by themselves.
abbrev pub inputs_of : Said → PlainInputs
inputs_of m = record {
  projects = record { folder = codes "."; said = m } ∷ [];
  held = [];
  catalogs = [];
  spaces = false;
  auto_peers = true;
}

-- why there is no graph: the first edge that has a cause
abbrev pub HasNoGraph : Said → Shown → Status → Type 0
HasNoGraph m w RegistryFault = Unit {0}
HasNoGraph m w s = (fault : ChoiceFault) × (s ≡ choice_status fault) × Unplain (inputs_of m) w.trees.registry fault

abbrev pub graph : Point Said Plain
graph = record { Finds = λ m t p. IsGraphOf t.registry (inputs_of m) root p; Cause = HasNoGraph }
