-- What a registry shows where its tree is told. Of one that isn't told it says what each tree would show.
use Rattle.std.specs.Prelude.{◌≡◌, ◌<◌, ℕ, List, Option, Some, None, IfSome}
use Rattle.serde_json.specs.Data.{Data}
use Rattle.pn_text.specs.declared.limits.TheConstants.{TEXT_LIMIT}
use Rattle.pn_text.specs.Name.{name_path}
use Rattle.pn_fs.specs.Tree.{Tree}
use Rattle.pn_read.specs.Small.{IsFileOf}
use Rattle.pn_manifest.specs.Fields.{said}
use Rattle.pn_manifest.specs.Said.{Said, IsRisingSaid}
use Rattle.pn_registry.specs.Places.{manifest_path}
use Rattle.pn_registry.specs.Package.{IsText, first_wrong_of}
use Rattle.pn_registry.specs.PackageFaults.{WrongFile}
use Rattle.pn_published.specs.Shelves.{Shelf, IsShelf, IsPublished, HasBadTags, HasMany}
use Rattle.pn_walk.specs.Wants.{Id}
use Rattle.pn_walk.specs.declared.wish.Wish.{Wish}
use Rattle.pn_walk.specs.declared.wish.Aim.{Aim}
use Rattle.pn_walk.specs.declared.node.Node.{Node}
use Rattle.pn_walk.specs.Walks.{Turn}
use Rattle.pn_plain.specs.Aims.{Leads}
use Rattle.pn_plain.specs.Plains.{Inputs, given_by, IsNode, AreStarts}
use Rattle.pn_plain.specs.Seen.{no_hook, no_rules}
use Rattle.pn_choice.specs.Built.{IsBuilt, IsUnbuilt}
use Rattle.pn_choice.specs.declared.fault.RegistryLack.{RegistryLack}
use Rattle.pn_choice.specs.declared.fault.RegistryLack.TheVariants.{BadTags, Entries, Wrong, TooLarge, Unbuilt}

-- what is published under a name
abbrev pub Publishes : Option Tree → List ℕ → Shelf → Type 0
Publishes None n shelf = IsShelf shelf
Publishes (Some t) n shelf = IsPublished t n shelf

-- why nothing is
abbrev pub Unpublished : Option Tree → List ℕ → RegistryLack → Type 0
Unpublished r n (BadTags m) = (m ≡ n) × IfSome r (λ t. HasBadTags t (name_path n))
Unpublished r n Entries = IfSome r (λ t. HasMany t (name_path n))
Unpublished r n (Wrong i why) = ⊥
Unpublished r n (TooLarge i k) = ⊥
Unpublished r n (Unbuilt text) = ⊥

-- The manifest of a package says this, with nothing wrong in it.
pub record HasManifest (r : Option Tree) (i : Id) (m : Said) : Type 0 where
  pub value : Data
  pub text : IfSome r (λ t. IsText (t (manifest_path i)) value)
  pub right : first_wrong_of i value ≡ None
  pub says : m ≡ said value
  pub rising : IsRisingSaid m

-- what the manifest of a package says, where all of it is built
pub record Manifests (r : Option Tree) (i : Id) (m : Said) : Type 0 where
  pub has : HasManifest r i m
  pub built : IsBuilt i m

-- why there is no such manifest
abbrev pub Unread : Option Tree → Id → RegistryLack → Type 0
Unread r i (BadTags n) = ⊥
Unread r i Entries = ⊥
Unread r i (Wrong j why) = (j ≡ i) × IfSome r (λ t. WrongFile i (t (manifest_path i)) why)
Unread r i (TooLarge j k) = (j ≡ i) × (TEXT_LIMIT < k) × IfSome r (λ t. IsFileOf k (t (manifest_path i)))
Unread r i (Unbuilt text) = (m : Said) × HasManifest r i m × IsUnbuilt i m text

-- what a wish leads to
abbrev pub LeadsIn : Option Tree → Inputs → Wish → Option Aim → Type 0
LeadsIn r i = Leads (Publishes r) (given_by i)

-- the packages, by what their manifests are seen as
abbrev pub IsNodeOf : Option Tree → Node → Type 0
IsNodeOf r = IsNode (Manifests r) no_hook no_rules

-- what the projects ask for
abbrev pub AreStartsOf : Inputs → List Turn → Type 0
AreStartsOf i = AreStarts no_hook no_rules i.auto_peers 0 i.projects
