use Rattle.std.proofs.Common.{subst, sym}
use Rattle.std.specs.Prelude.{IsTrue}
use Rattle.pn_text.specs.Path.{is_part}
use Rattle.pn_text.proofs.IdTexts.{id_part}
use Rattle.pn_text.proofs.ids.PkgId.version_text.Goals as goal

pub returns-clause-part : goal.returns-clause-part
returns-clause-part c = subst (λ v. IsTrue (is_part v)) (sym c.around_at.ensures.version) (id_part c.as_str.result.now c.as_str.ensures.id)
