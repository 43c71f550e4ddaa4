use Rattle.std.proofs.Common.{◌∷◌, ◌∙◌, ap}
use Rattle.pn_text.proofs.Paths.{spells_one}
use Rattle.pn_text.proofs.Results.{if_ok}
use Rattle.pn_tree.specs.Relatives.{link_text}
use Rattle.pn_draft.proofs.BadPartLemmas.{not_unslashed, not_bad}
use Rattle.pn_tree.proofs.texts.link_text.Goals as goal

pub unreachable-requires : goal.unreachable-requires
unreachable-requires c = not_unslashed _ (c.requires.0 ∷ c.requires.1) _ c.requires.2 c.in-Err-NotAbsolute.ensures.fault c.in-Err-NotAbsolute.field-0-is

pub unreachable-requires-in-Err-BadPart : goal.unreachable-requires-in-Err-BadPart
unreachable-requires-in-Err-BadPart c = not_bad _ (c.requires.0 ∷ c.requires.1) _ _ c.requires.2 c.in-Err-BadPart.ensures.fault c.in-Err-BadPart.field-0-is

pub returns-in-Ok : goal.returns-in-Ok
returns-in-Ok c = if_ok c.relative.result (λ t h. λ q s. h ∙ ap (λ p. link_text p c.args.to.now) (spells_one c.args.place.now c.in-Ok.place q c.in-Ok.ensures.ok s)) c.relative.ensures
