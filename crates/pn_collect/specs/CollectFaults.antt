-- Why the packages of an install aren't told.
use Rattle.std.specs.Prelude.{◌≡◌, ◌<◌, List, map, true, Option, IfSome, IsPermutation}
use Rattle.std.specs.Cmp.Lexicographic.{slice_cmp}
use Rattle.std.specs.List.Sorted.{IsStrictlySortedBy}
use Rattle.std.specs.Ordering.{nat_cmp}
use Rattle.pn_text.specs.Path.{Path}
use Rattle.pn_text.specs.Name.{holds_modules}
use Rattle.pn_text.specs.Causes.{Rose}
use Rattle.pn_text.specs.First.{FirstFails}
use Rattle.pn_fs.specs.Seen.{Seen}
use Rattle.pn_fs.specs.Tree.{Tree}
use Rattle.pn_graph.specs.declared.plain.Plain.{Plain}
use Rattle.pn_registry.specs.Below.{HasMany}
use Rattle.pn_registry.specs.Files.{file_limit}
use Rattle.pn_registry.specs.FilesFaults.{IsFirstModules, IsFirstLarge, entry_limit}
use Rattle.pn_registry.specs.Places.{package_folder}
use Rattle.pn_package.specs.Links.{Id}
use Rattle.pn_collect.specs.Outline.{HasPassed, node_id}
use Rattle.pn_collect.specs.declared.fault.CollectFault.{CollectFault}
use Rattle.pn_collect.specs.declared.fault.CollectFault.TheVariants.{Modules, TooLarge, Entries, Fault, Memory}

-- why a package has no files
abbrev pub NoFiles : Option Tree → Id → CollectFault → Type 0
NoFiles r id (Modules i path) = (i ≡ id) × (holds_modules path ≡ true) × IfSome r (λ t. IsFirstModules t (package_folder id) path)
NoFiles r id (TooLarge n) = (path : Path) × (file_limit < n) × IfSome r (λ t. IsFirstLarge t (package_folder id) path n)
NoFiles r id Entries = IfSome r (λ t. HasMany t (package_folder id) entry_limit)
NoFiles r id Fault = ⊥
NoFiles r id Memory = ⊥

-- A failed call, no memory, or the cause that the tree shows.
abbrev pub CollectRefuses : (Option Tree → CollectFault → Type 0) → Seen → Seen → CollectFault → Type 0
CollectRefuses Cause old new (Modules i path) = Cause old.tree (Modules i path)
CollectRefuses Cause old new (TooLarge n) = Cause old.tree (TooLarge n)
CollectRefuses Cause old new Entries = Cause old.tree Entries
CollectRefuses Cause old new Fault = Rose old.faults new.faults
CollectRefuses Cause old new Memory = Unit {0}

-- The first package in byte order of ids that has no files; all before it have theirs.
pub record IsFirstRefused (plain : Plain) (r : Option Tree) (fault : CollectFault) : Type 0 where
  pub sorted : List Id
  pub all : IsPermutation (map node_id plain.packages) sorted
  pub rising : IsStrictlySortedBy (slice_cmp nat_cmp) sorted
  pub first : FirstFails (HasPassed r) (NoFiles r) sorted fault

-- the file with a part `node_modules` is told
abbrev pub NamesModules : Id → Path → CollectFault → Type 0
NamesModules id path (Modules i q) = (i ≡ id) × (q ≡ path)
NamesModules id path (TooLarge n) = ⊥
NamesModules id path Entries = ⊥
NamesModules id path Fault = ⊥
NamesModules id path Memory = Unit {0}
