use Rattle.std.proofs.Common.{◌∙◌, ap}
use Rattle.pn_yaml.specs.Data.{list}
use Rattle.pn_yaml.specs.View.{items_of}
use Rattle.pn_yaml.proofs.NodeViews.{view-List}
use Rattle.pn_lock_print.proofs.MemberLemmas.{names_are}
use Rattle.pn_lock_print.proofs.snapshots.names_node.Goals as goal

pub returns : goal.returns
returns c = view-List c.in_ok-items.items ∙ ap (λ ds. list (items_of ds)) c.in_ok-items.ensures ∙ ap list (names_are c.args.names.now)
