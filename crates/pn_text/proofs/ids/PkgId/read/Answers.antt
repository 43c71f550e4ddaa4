use Rattle.std.proofs.Common.{subst, ◌≡◌, ◌∙◌, ap}
use Rattle.std.specs.Prelude.{IfOk}
use Rattle.pn_text.specs.Name.{is_name}
use Rattle.pn_text.proofs.IdTexts.{read_is}
use Rattle.pn_text.proofs.ids.PkgId.read.Goals as goal

pub returns-in-Ok : goal.returns-in-Ok
returns-in-Ok c =
    subst (λ o. IfOk c.of.result (λ id. id ≡ o)) (read_is c.args.text.now c.in-Ok.name _ (c.in-Ok.ensures.ok ∙ c.around_at.ensures.name) c.around_at.ensures.version (ap is_name c.in-Ok.ensures.ok ∙ c.in-Ok.ensures.accepted)) c.of.ensures
