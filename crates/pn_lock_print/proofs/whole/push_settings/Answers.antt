use Rattle.std.proofs.Common.{◌∙◌, ap, refl}
use Rattle.std.proofs.lemmas.Result.{on_ok_weaker}
use Rattle.pn_lock_print.specs.LockData.{overrides_data, settings_data}
use Rattle.pn_lock_print.proofs.MemberLemmas.{then_member, then_put}
use Rattle.pn_lock_print.proofs.whole.push_settings.Goals as goal

pub returns : goal.returns
returns c =
    let settings = c.in_ok-settings.ensures ∙ ap settings_data c.auto_install_peers.ensures in
    let overrides = ap overrides_data c.overrides.ensures.list in
    on_ok_weaker c.push_filled.result
    (λ e more. then_put _ _ more _ _ _ _ e overrides
    (then_put _ _ _ _ _ _ _ c.in_ok-push_catalogs.ensures refl
    (then_member _ _ _ _ _ _ _ c.in_ok-push_member-2.ensures settings
    (then_member _ _ _ _ _ _ _ c.in_ok-push_member.ensures c.in_ok-version.ensures refl))))
    c.push_filled.ensures
