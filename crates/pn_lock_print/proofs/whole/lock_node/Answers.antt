use Rattle.std.proofs.Common.{◌≡◌, ◌∙◌, ap}
use Rattle.pn_yaml.specs.Data.{map}
use Rattle.pn_yaml.specs.View.{view}
use Rattle.pn_yaml.proofs.NodeViews.{view-Map}
use Rattle.pn_lock_print.specs.LockData.{lock_data, projects_members}
use Rattle.pn_lock_print.proofs.MemberLemmas.{starts}
use Rattle.pn_lock_print.proofs.PrintableLemmas.{lock_printable}
use Rattle.pn_lock_print.proofs.whole.lock_node.Goals as goal

pub returns-clause-printable : goal.returns-clause-printable
returns-clause-printable c =
    let l = c.args.lock.now in
    let shown : view _ ≡ lock_data l =
    view-Map c.push_projects.new.members ∙ ap map (c.in_ok-push_projects.ensures.shown ∙ c.in_ok-push_settings.ensures (projects_members l) ∙ starts _ _ c.new-members.ensures) in
    lock_printable l _ c.push_projects.ensures.kept shown
