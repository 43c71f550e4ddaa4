use Rattle.std.proofs.Common.{take}
use Rattle.std.specs.BTreeSet.{contains_text}
use Rattle.pn_digest.specs.Folders.{HasFolders}
use Rattle.pn_digest.proofs.folders.folders.Given as goal

abbrev pub invariant-loop-file : goal.invariant-loop-file
invariant-loop-file l = HasFolders (take l.file-index l.files) (contains_text l.folders)
