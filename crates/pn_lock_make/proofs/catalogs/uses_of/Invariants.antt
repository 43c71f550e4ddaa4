use Rattle.std.proofs.Common.{◌≡◌, ◌++◌, drop}
use Rattle.pn_lock_make.specs.Entries.{package_uses, project_uses, uses_of}
use Rattle.pn_lock_make.proofs.catalogs.uses_of.Given as goal

abbrev pub invariant-loop-project : goal.invariant-loop-project
invariant-loop-project l = l.uses.items ++ project_uses l.plain.packages (drop l.project-index l.project-items) ≡ project_uses l.plain.packages l.plain.projects

abbrev pub invariant-loop-package : goal.invariant-loop-package
invariant-loop-package l = l.uses.items ++ package_uses l.plain.packages (drop l.package-index l.package-items) ≡ uses_of l.plain.projects l.plain.packages
