use Rattle.std.proofs.Common.{◌≡◌, true, length, sym, ◌∙◌}
use Rattle.pn_outer.proofs.RangeLemmas.{all_in, peers_all}
use Rattle.pn_outer.proofs.range.are_in_range.Goals as goal

pub returns-clause-dependencies : goal.returns-clause-dependencies
returns-clause-dependencies c = λ e. all_in c.args.instances.now c.args.projects (sym c.all_there.ensures ∙ e)

pub returns-clause-peers : goal.returns-clause-peers
returns-clause-peers c = λ e. peers_all c.args.instances.now c.args.projects (sym c.all_there.ensures ∙ e)
