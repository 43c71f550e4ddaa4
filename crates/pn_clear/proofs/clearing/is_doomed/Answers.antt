use Rattle.std.proofs.Common.{sym, ap, ◌∙◌}
use Rattle.std.specs.Prelude.{not}
use Rattle.pn_clear.specs.Items.{is_unfit}
use Rattle.pn_clear.proofs.RisesLemmas.{found_by_text, none_by_text}
use Rattle.pn_clear.proofs.clearing.is_doomed.Goals as goal

pub returns-in-Some : goal.returns-in-Some
returns-in-Some c =
    let found = found_by_text c.args.plan.now _ c.args.path.now _ c.requires.plan c.in-Some.ensures.0 c.in-Some.ensures.1 c.as_str.ensures.text in
    ap not c.is_fitting.ensures ∙ sym (ap (λ o. is_unfit o c.args.kind) found)

pub returns-in-None : goal.returns-in-None
returns-in-None c = sym (ap (λ o. is_unfit o c.args.kind) (none_by_text c.args.plan.now _ c.args.path.now c.in-None.ensures c.as_str.ensures.text))
