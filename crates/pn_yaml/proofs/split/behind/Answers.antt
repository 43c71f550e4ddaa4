use Rattle.std.proofs.Common.{sym, ◌∙◌}
use Rattle.pn_yaml.proofs.Cutting.{behind_first}
use Rattle.pn_yaml.proofs.split.behind.Goals as goal

pub split_at-requires : goal.split_at-requires
split_at-requires c = behind_first c.args.b c.args.text.now c.utf8.text c.requires (sym c.starts.ensures ∙ c.if-not-starts.false)
