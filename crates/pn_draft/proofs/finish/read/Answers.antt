use Rattle.pn_draft.proofs.BadPartLemmas.{not_unslashed, not_bad}
use Rattle.pn_draft.proofs.finish.read.Goals as goal

pub unreachable-requires : goal.unreachable-requires
unreachable-requires c = not_unslashed _ c.requires.0 _ c.requires.1 c.in-Err-NotAbsolute.ensures.fault c.in-Err-NotAbsolute.field-0-is

pub unreachable-requires-in-Err-BadPart : goal.unreachable-requires-in-Err-BadPart
unreachable-requires-in-Err-BadPart c = not_bad _ c.requires.0 _ _ c.requires.1 c.in-Err-BadPart.ensures.fault c.in-Err-BadPart.field-0-is
