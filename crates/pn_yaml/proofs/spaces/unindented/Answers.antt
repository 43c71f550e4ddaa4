use Rattle.std.proofs.Common.{◌∙◌, ap, drop}
use Rattle.pn_yaml.proofs.Indentations.{drop_indentation}
use Rattle.pn_yaml.proofs.spaces.unindented.Goals as goal

pub returns : goal.returns
returns c = c.behind_spaces.ensures ∙ ap (λ n. drop n c.args.text.now) c.indentation.ensures ∙ drop_indentation c.args.text.now
