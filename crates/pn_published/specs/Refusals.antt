-- Why the versions of a name aren't told.
use Rattle.std.specs.Prelude.{◌≡◌, ℕ, List, Option, None, IfSome}
use Rattle.pn_text.specs.Causes.{Rose}
use Rattle.pn_text.specs.Name.{name_path}
use Rattle.pn_text.specs.Path.{Path}
use Rattle.pn_fs.specs.Seen.{Seen}
use Rattle.pn_fs.specs.Tree.{Tree}
use Rattle.pn_published.specs.Tags.{Said, AreTags, IsBadTags}
use Rattle.pn_published.specs.Shelves.{Shelf, HasMany, HasBadTags, IsPublished, tags_path}
use Rattle.pn_published.specs.declared.fault.PublishedFault.{PublishedFault}
use Rattle.pn_published.specs.declared.fault.PublishedFault.TheVariants.{BadTags, Entries, Fault, Memory}

-- what of the tree is wrong
abbrev pub IsUnpublished : Tree → Path → PublishedFault → Type 0
IsUnpublished t p BadTags = HasBadTags t p
IsUnpublished t p Entries = HasMany t p
IsUnpublished t p Fault = ⊥
IsUnpublished t p Memory = ⊥

abbrev pub VersionsRefused : Path → Seen → Seen → PublishedFault → Type 0
VersionsRefused p old new BadTags = IfSome old.tree (λ t. IsUnpublished t p BadTags)
VersionsRefused p old new Entries = IfSome old.tree (λ t. IsUnpublished t p Entries)
VersionsRefused p old new Fault = Rose old.faults new.faults
VersionsRefused p old new Memory = Unit {0}

-- why the folder's versions aren't read
abbrev pub ListRefused : Path → Seen → Seen → PublishedFault → Type 0
ListRefused p old new BadTags = ⊥
ListRefused p old new Entries = IfSome old.tree (λ t. HasMany t p)
ListRefused p old new Fault = Rose old.faults new.faults
ListRefused p old new Memory = Unit {0}

-- why the file of tags isn't read
abbrev pub TagsRefused : Path → Seen → Seen → PublishedFault → Type 0
TagsRefused p old new BadTags = IfSome old.tree (λ t. IsBadTags (t (tags_path p)))
TagsRefused p old new Entries = ⊥
TagsRefused p old new Fault = Rose old.faults new.faults
TagsRefused p old new Memory = Unit {0}

-- why an entry isn't looked at
abbrev pub CallRefused : Seen → Seen → PublishedFault → Type 0
CallRefused old new BadTags = ⊥
CallRefused old new Entries = ⊥
CallRefused old new Fault = Rose old.faults new.faults
CallRefused old new Memory = Unit {0}

-- why a text says no tags
abbrev pub TextRefused : List ℕ → PublishedFault → Type 0
TextRefused bytes BadTags = (said : List Said) → AreTags bytes said → ⊥
TextRefused bytes Entries = ⊥
TextRefused bytes Fault = ⊥
TextRefused bytes Memory = Unit {0}

abbrev pub NoneSaid : Option (List Said) → PublishedFault → Type 0
NoneSaid o BadTags = o ≡ None
NoneSaid o Entries = ⊥
NoneSaid o Fault = ⊥
NoneSaid o Memory = Unit {0}

-- A tree publishes at most one shelf under a name, there is at most one reason why it doesn't, and never both.
pub record PublishedLaw : Type 0 where
  pub one : (t : Tree) (name : List ℕ) (a b : Shelf) → IsPublished t name a → IsPublished t name b → a ≡ b
  pub why : (t : Tree) (name : List ℕ) (e f : PublishedFault) → IsUnpublished t (name_path name) e → IsUnpublished t (name_path name) f → e ≡ f
  pub never : (t : Tree) (name : List ℕ) (a : Shelf) (e : PublishedFault) → IsPublished t name a → IsUnpublished t (name_path name) e → ⊥
