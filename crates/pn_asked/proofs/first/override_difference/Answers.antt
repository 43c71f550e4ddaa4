use Rattle.std.proofs.Common.{option_map, ap, sym, ◌∙◌}
use Rattle.std.specs.Prelude.{Some}
use Rattle.pn_asked.specs.declared.difference.Difference.TheVariants as difference
use Rattle.pn_asked.proofs.FindLemmas.{overrides_found}
use Rattle.pn_asked.proofs.first.override_difference.Goals as goal

pub returns-in_ok-of-in-Some : goal.returns-in_ok-of-in-Some
returns-in_ok-of-in-Some c =
    ap (λ t. Some (difference.Override t)) c.in_ok-of-in-Some.ensures
    ∙ ap (option_map difference.Override) (sym (ap (option_map (λ k. k.now)) c.in-Some.is)
    ∙ overrides_found _ _ _ c.args.lock.now.overrides c.overrides-locked.result.now c.overrides-rows.result.now c.args.asked.now.overrides c.lesser.ensures c.first_other.ensures c.first_other-2.ensures c.overrides-locked.ensures.list c.overrides-rows.ensures.list)

pub returns-in-None : goal.returns-in-None
returns-in-None c =
    ap (option_map difference.Override) (sym (ap (option_map (λ k. k.now)) c.in-None.is)
    ∙ overrides_found _ _ _ c.args.lock.now.overrides c.overrides-locked.result.now c.overrides-rows.result.now c.args.asked.now.overrides c.lesser.ensures c.first_other.ensures c.first_other-2.ensures c.overrides-locked.ensures.list c.overrides-rows.ensures.list)
