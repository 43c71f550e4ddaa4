use Rattle.std.proofs.Common.{◌≡◌, drop, map}
use Rattle.std.specs.Prelude.{find}
use Rattle.pn_registry.specs.Listed.{file_of}
use Rattle.pn_registry.specs.FilesFaults.{is_modular}
use Rattle.pn_registry.proofs.contents.refuse_modules.Given as goal

-- what is left decides
abbrev pub invariant-loop-file : goal.invariant-loop-file
invariant-loop-file l = find is_modular (map file_of (drop l.file-index l.files)) ≡ find is_modular (map file_of l.files)
