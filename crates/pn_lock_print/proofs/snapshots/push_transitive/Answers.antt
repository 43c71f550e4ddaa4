use Rattle.std.proofs.Common.{◌≢◌, [], ◌∙◌, ap, sym}
use Rattle.std.proofs.lemmas.Result.{on_ok_weaker}
use Rattle.pn_yaml.specs.Data.{no_members}
use Rattle.pn_yaml.specs.View.{members_view}
use Rattle.std.specs.Prelude.{codes, Some}
use Rattle.pn_lock_print.specs.Members.{joined, put}
use Rattle.pn_lock_print.proofs.EmptyLemmas.{some_there}
use Rattle.pn_lock_print.proofs.MemberLemmas.{names_some}
use Rattle.pn_lock_print.proofs.snapshots.push_transitive.Goals as goal

pub returns : goal.returns
returns c =
    let some : c.args.names.now ≢ [] = some_there c.args.names.now (sym c.is_empty.ensures ∙ c.if-is_empty.false) in
    on_ok_weaker c.push_member.result (λ e. e ∙ ap (λ d. joined (members_view c.args.members.now) (put (codes "transitivePeerDependencies") d no_members)) (ap Some c.in_ok-node.ensures ∙ names_some c.args.names.now some)) c.push_member.ensures
