use Rattle.std.proofs.Common.{◌∙◌, ap, sym, subst, option_map, ◌≡◌, true}
use Rattle.semver.specs.Identifiers.{parts_of}
use Rattle.pn_text.specs.Ids.{id_text}
use Rattle.pn_text.specs.Name.{is_name}
use Rattle.pn_text.proofs.IdTexts.{keeps_id}
use Rattle.pn_text.proofs.ids.PkgId.of.Goals as goal

pub invariant_of-result : goal.invariant_of-result
invariant_of-result c =
    keeps_id c.args.name.now _ c.args.version.now _ _ c.in_ok-name.ensures (subst (λ n. is_name n ≡ true) c.as_str.ensures.text c.as_str.ensures.name)
    (c.in_ok-text.ensures ∙ ap (λ n. id_text n c.args.version.now) c.as_str.ensures.text)
    (sym (ap (option_map parts_of) c.in-Some.is) ∙ c.in_ok-parsed.ensures)
