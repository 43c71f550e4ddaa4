use Rattle.std.proofs.Common.{ap, ◌∙◌}
use Rattle.std.specs.Prelude.{is_some}
use Rattle.pn_text.specs.Ids.{is_id}
use Rattle.pn_deppath.proofs.PathLemmas.{some_is}
use Rattle.pn_deppath.proofs.path.is_id.Goals as goal

pub returns : goal.returns
returns c = c.is_some.ensures ∙ ap is_some c.in_ok-read.ensures ∙ some_is (is_id c.args.text.now) c.args.text.now
