use Rattle.std.proofs.Common.{◌≡◌, ◌≢◌, [], ◌∙◌, ap, sym}
use Rattle.std.specs.Prelude.{codes, Some}
use Rattle.std.proofs.lemmas.Result.{on_ok_weaker}
use Rattle.pn_yaml.specs.Data.{map, no_members}
use Rattle.pn_yaml.specs.View.{members_view}
use Rattle.pn_yaml.proofs.NodeViews.{view-Map}
use Rattle.pn_lock_print.specs.LockData.{catalogs_data}
use Rattle.pn_lock_print.specs.Members.{joined, put}
use Rattle.pn_lock_print.proofs.EmptyLemmas.{none_there, some_there}
use Rattle.pn_lock_print.proofs.MemberLemmas.{joined_none}
use Rattle.pn_lock_print.proofs.RunLemmas.{catalogs_some}
use Rattle.pn_lock_print.proofs.catalogs.push_catalogs.Goals as goal

pub returns-then-is_empty : goal.returns-then-is_empty
returns-then-is_empty c =
    let none : c.args.lock.now.catalogs ≡ [] = sym c.catalogs.ensures.list ∙ none_there c.catalogs.result.now (sym c.is_empty.ensures ∙ c.if-is_empty.true) in
    sym (ap (λ es. joined (members_view c.args.members.now) (put (codes "catalogs") (catalogs_data es) no_members)) none ∙ joined_none (members_view c.args.members.now))

pub returns : goal.returns
returns c =
    let some : c.args.lock.now.catalogs ≢ [] = λ e. some_there c.catalogs.result.now (sym c.is_empty.ensures ∙ c.if-is_empty.false) (c.catalogs.ensures.list ∙ e) in
    let made = ap Some (view-Map c.in_ok-groups.groups ∙ ap map c.in_ok-groups.ensures) ∙ catalogs_some c.args.lock.now.catalogs some in
    on_ok_weaker c.push_member.result (λ e. e ∙ ap (λ d. joined (members_view c.args.members.now) (put (codes "catalogs") d no_members)) made) c.push_member.ensures
