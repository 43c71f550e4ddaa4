use Rattle.std.proofs.Common.{◌∙◌, ap, refl}
use Rattle.std.proofs.lemmas.Result.{on_ok_weaker}
use Rattle.pn_yaml.specs.Data.{map}
use Rattle.pn_lock.specs.declared.lists.LockImporter.{LockImporter}
use Rattle.pn_lock.specs.declared.lists.LockSnapshot.{LockSnapshot}
use Rattle.pn_lock_print.specs.LockData.{importer_data, packages_data, snapshot_data}
use Rattle.pn_lock_print.specs.Members.{entries, filled}
use Rattle.pn_lock_print.proofs.MemberLemmas.{last_is, then_member, then_put}
use Rattle.pn_lock_print.proofs.whole.push_projects.Goals as goal

pub returns-clause-shown : goal.returns-clause-shown
returns-clause-shown c =
    let l = c.args.lock.now in
    let importers = c.in_ok-importers.ensures ∙ ap (λ is. map (entries (λ (i : LockImporter). i.folder) (importer_data l) is)) c.importers.ensures.list in
    let packages = ap packages_data c.packages.ensures.list in
    let snapshots = ap (λ ss. filled (λ (s : LockSnapshot). s.path) (snapshot_data l) ss) c.snapshots.ensures.list in
    on_ok_weaker c.push_filled-2.result
    (λ e. last_is _ _ (then_put _ _ _ _ _ _ _ e snapshots (then_put _ _ _ _ _ _ _ c.in_ok-push_filled.ensures packages (then_member _ _ _ _ _ _ _ c.in_ok-push_member.ensures importers refl))))
    c.push_filled-2.ensures
