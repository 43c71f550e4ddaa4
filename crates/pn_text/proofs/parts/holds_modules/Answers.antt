use Rattle.std.proofs.Common.{sym, ap, ◌∙◌}
use Rattle.pn_text.specs.Name.{holds_modules}
use Rattle.pn_text.proofs.Splits.{holds_here, holds_later, behind_slash, none_behind}
use Rattle.pn_text.proofs.parts.holds_modules.Goals as goal

pub returns-then-is_modules : goal.returns-then-is_modules
returns-then-is_modules c =
    sym (sym c.parts.invariant ∙ holds_here _ _ _ c.first_part.ensures.whole c.first_part.ensures.flat c.first_part.ensures.ends (sym c.is_modules.ensures ∙ c.if-is_modules.true))

pub returns-in-empty : goal.returns-in-empty
returns-in-empty c =
    let later = holds_later _ _ _ c.first_part.ensures.whole c.first_part.ensures.flat c.first_part.ensures.ends (sym c.is_modules.ensures ∙ c.if-is_modules.false) in
    sym (sym c.parts.invariant ∙ later ∙ none_behind _ c.in-empty.len_below)

pub parts-preserved : goal.parts-preserved
parts-preserved c =
    let later = holds_later _ _ _ c.first_part.ensures.whole c.first_part.ensures.flat c.first_part.ensures.ends (sym c.is_modules.ensures ∙ c.if-is_modules.false) in
    sym (ap holds_modules (behind_slash _ c.in-len1-up.len_at_least c.first_part.ensures.ends)) ∙ sym later ∙ c.parts.invariant
