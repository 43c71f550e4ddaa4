use Rattle.std.proofs.Common.{refl, ap, ◌∙◌, ◌++◌, ◌∷◌, []}
use Rattle.pn_config.proofs.WayLemmas.{named}
use Rattle.pn_config.proofs.folder.Way.put_name.Goals as goal

pub returns : goal.returns
returns c = named c.args.part.now c.args.self.now _ c.if-self-gt0.false refl (c.in_ok-push.ensures.items ∙ ap (λ x. c.args.self.now.parts.items ++ x ∷ []) c.in_ok-of.ensures)
