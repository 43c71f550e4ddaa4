-- What a told tree settles of the packages of an install.
use Rattle.std.specs.Prelude.{◌≡◌, List, map, Some}
use Rattle.pn_fs.specs.Tree.{Tree, IsTree}
use Rattle.pn_graph.specs.declared.plain.Plain.{Plain}
use Rattle.pn_package.specs.declared.packages.Package.{Package}
use Rattle.pn_package.specs.Sound.{contents}
use Rattle.pn_collect.specs.CollectFaults.{IsFirstRefused}
use Rattle.pn_collect.specs.Packages.{ArePackages}
use Rattle.pn_collect.specs.declared.fault.CollectFault.{CollectFault}

-- Where the packages have their files, none is refused.
abbrev pub PassedLaw : Type 0
PassedLaw = (t : Tree) (plain : Plain) (packages : List Package) (fault : CollectFault) → ArePackages (Some t) plain packages → IsFirstRefused plain (Some t) fault → ⊥

-- No two causes stand.
abbrev pub CauseLaw : Type 0
CauseLaw = (t : Tree) (plain : Plain) (fault other : CollectFault) → IsTree t → IsFirstRefused plain (Some t) fault → IsFirstRefused plain (Some t) other → fault ≡ other

-- The packages are one list, and so are the files of each.
abbrev pub SameLaw : Type 0
SameLaw = (t : Tree) (plain : Plain) (packages others : List Package) → ArePackages (Some t) plain packages → ArePackages (Some t) plain others → map contents packages ≡ map contents others
