use Rattle.pn_yaml.proofs.Indentations.{spaces_boundary}
use Rattle.pn_yaml.proofs.spaces.behind_spaces.Goals as goal

pub split_at-requires : goal.split_at-requires
split_at-requires c = spaces_boundary c.args.text.now c.args.count c.utf8.text c.requires
