use Rattle.std.proofs.Common.{◌≡◌, ◌∙◌, true, false}
use Rattle.pn_lock.proofs.FolderLemmas.{not_rel}
use Rattle.pn_lock_layout.proofs.folders.below.Goals as goal

pub unreachable-requires-in-Err-BadPart : goal.unreachable-requires-in-Err-BadPart
unreachable-requires-in-Err-BadPart c =
    let no : false ≡ true = not_rel c.args.text.now c.in-Err-BadPart.field-0 c.utf8.text c.in-Err-BadPart.ensures.fault (λ m. cc (m, c.in-Err-BadPart.field-0-is)) ∙ c.requires.rel in cc
