use Rattle.std.proofs.Common.{◌≡◌, drop, map}
use Rattle.std.specs.Prelude.{find}
use Rattle.pn_registry.specs.Listed.{file_of}
use Rattle.pn_registry.specs.FilesFaults.{is_large}
use Rattle.pn_registry.proofs.contents.refuse_large.Given as goal

-- what is left decides
abbrev pub invariant-loop-file : goal.invariant-loop-file
invariant-loop-file l = find is_large (map file_of (drop l.file-index l.files)) ≡ find is_large (map file_of l.files)
