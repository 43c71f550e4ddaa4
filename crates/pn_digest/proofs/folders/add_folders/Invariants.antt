use Rattle.std.specs.BTreeSet.{contains_text}
use Rattle.pn_digest.proofs.IsFolderTextLemmas.{AddsFronts}
use Rattle.pn_digest.proofs.folders.add_folders.Given as goal

abbrev pub invariant-loop-i : goal.invariant-loop-i
invariant-loop-i l = AddsFronts (contains_text l.fn.folders) (contains_text l.folders) l.path l.i
