use Rattle.std.proofs.Common.{◌∙◌, ap, sym, true, false}
use Rattle.std.specs.Prelude.{option_map}
use Rattle.pn_yaml.specs.Literals.{style_is}
use Rattle.pn_yaml.proofs.Headers.{style_read, style_none}
use Rattle.pn_yaml.proofs.literal.style_of.Goals as goal

pub returns-in_err-folded : goal.returns-in_err-folded
returns-in_err-folded c =
    ap (option_map style_is) c.from_residual.ensures ∙ sym (style_none c.args.text.now c.in_err-folded.ensures.0 c.in_err-folded.ensures.1)

pub returns-then-is_bare : goal.returns-then-is_bare
returns-then-is_bare c = sym (style_read c.args.text.now c.in_ok-folded.rest.now c.in_ok-folded.folded c.chomp_of-ended.result.0 true c.chomp_of-ended.result.1.now
    c.in_ok-folded.ensures c.chomp_of-ended.ensures.ended c.chomp_of-ended.ensures.rest (sym c.is_bare.ensures ∙ c.if-is_bare.true))

pub returns-else-is_bare : goal.returns-else-is_bare
returns-else-is_bare c = sym (style_read c.args.text.now c.in_ok-folded.rest.now c.in_ok-folded.folded c.chomp_of-ended.result.0 false c.chomp_of-ended.result.1.now
    c.in_ok-folded.ensures c.chomp_of-ended.ensures.ended c.chomp_of-ended.ensures.rest (sym c.is_bare.ensures ∙ c.if-is_bare.false))
