-- The report of an install.
use Rattle.std.specs.Prelude.{ℕ, List, ◌++◌, codes, length}
use Rattle.std.specs.Fmt.{decimal}
use Rattle.pn_text.specs.Causes.{Rose}
use Rattle.pn_fs.specs.Seen.{Taken}
use Rattle.pn_status.specs.Told.{TookAll, TookSome}
use Rattle.pn_package.specs.declared.packages.Package.{Package}
use Rattle.pn_status.specs.declared.status.Status.{Status}
use Rattle.pn_status.specs.declared.status.Status.TheVariants.{Done, Memory, SinkFault}

-- one project, and so many packages with an instance each
abbrev pub report_of : ℕ → List ℕ
report_of n = codes "projects 1\npackages " ++ decimal n ++ codes "\ninstances " ++ decimal n ++ codes "\n"

abbrev pub report : List Package → List ℕ
report packages = report_of (length packages)

-- The report was taken, or it was refused for want of memory or for a fault of the output.
abbrev pub Reported : List ℕ → Taken → Taken → Status → Type 0
Reported text old new Done = TookAll text old new
Reported text old new Memory = TookSome text old new
Reported text old new SinkFault = Rose old.faults new.faults × TookSome text old new
Reported text old new s = ⊥
