use Rattle.std.proofs.Common.{◌≡◌, ◌∙◌, List, ap}
use Rattle.pn_yaml.specs.Data.{map}
use Rattle.pn_yaml.proofs.NodeViews.{view-Map}
use Rattle.pn_lock.specs.declared.lists.LockDependency.{LockDependency}
use Rattle.pn_lock_print.specs.LockData.{dependencies_data}
use Rattle.pn_lock_print.proofs.MemberLemmas.{last_is, starts, then_put}
use Rattle.pn_lock_print.proofs.importers.LockImporterEntry.node.Goals as goal

pub returns : goal.returns
returns c =
    let l = c.args.lock.now in
    let same : (ds es : List LockDependency) → ds ≡ es → dependencies_data l c.as_str-base.result.now ds ≡ dependencies_data l c.args.self.now.folder es = λ ds es h. ap (dependencies_data l c.as_str-base.result.now) h ∙ ap (λ base. dependencies_data l base es) c.as_str-base.ensures in
    view-Map c.push_filled-3.new.members
    ∙ ap map (last_is _ _
    (then_put _ _ _ _ _ _ _ c.in_ok-push_filled-3.ensures (same _ _ c.as_slice-optional.ensures)
    (then_put _ _ _ _ _ _ _ c.in_ok-push_filled-2.ensures (same _ _ c.as_slice-dev.ensures)
    (then_put _ _ _ _ _ _ _ c.in_ok-push_filled.ensures (same _ _ c.as_slice-dependencies.ensures) (starts _ _ c.new-members.ensures)))))
