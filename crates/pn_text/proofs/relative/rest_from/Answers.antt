use Rattle.pn_text.proofs.Relatives.{cuts_at}
use Rattle.pn_text.proofs.relative.rest_from.Goals as goal

pub split_at-requires : goal.split_at-requires
split_at-requires c = cuts_at _ _ c.requires.within c.requires.ends
