-- The point at which the packages' files are listed.
use Rattle.std.specs.Prelude.{◌≡◌, ◌+◌, List}
use Rattle.pn_text.specs.declared.limits.TheConstants.{ENTRY_LIMIT}
use Rattle.pn_graph.specs.declared.plain.Plain.{Plain}
use Rattle.pn_package.specs.declared.packages.Package.{Package}
use Rattle.pn_collect.specs.CollectFaults.{IsFirstRefused}
use Rattle.pn_collect.specs.Packages.{ArePackages}
use Rattle.pn_collect.specs.declared.fault.CollectFault.{CollectFault}
use Rattle.pn_collect.specs.declared.fault.CollectFault.TheVariants.{Modules, TooLarge, Entries as FaultEntries, Fault, Memory as NoMemory}
use Rattle.pn_status.specs.declared.status.Which.TheVariants.{File, Entries}
use Rattle.pn_status.specs.declared.status.Status.{Status}
use Rattle.pn_status.specs.declared.status.Status.TheVariants.{Memory, Limit, Bundled, RegistryFault}
use Rattle.pn_cmd.specs.World.{Shown}
use Rattle.pn_cmd.specs.Points.{Point}
use Rattle.pn_cmd.specs.Known.{Graph}

-- the status that tells of a refusal
abbrev pub collect_status : CollectFault → Status
collect_status (Modules id path) = Bundled id path
collect_status (TooLarge n) = Limit File n
collect_status FaultEntries = Limit Entries (ENTRY_LIMIT + 1)
collect_status Fault = RegistryFault
collect_status NoMemory = Memory

-- why the packages have no files: the first package in byte order of ids that has a cause
abbrev pub Unlisted : Plain → Shown → Status → Type 0
Unlisted plain w RegistryFault = Unit {0}
Unlisted plain w s = (fault : CollectFault) × (s ≡ collect_status fault) × IsFirstRefused plain w.trees.registry fault

abbrev pub listed : Point Graph (List Package)
listed = record { Finds = λ k t packages. ArePackages t.registry k.plain packages; Cause = λ k. Unlisted k.plain }
