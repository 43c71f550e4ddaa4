use Rattle.std.proofs.Common.{◌≡◌, ◌++◌, subst, sym, ◌∙◌, ap, append-nil}
use Rattle.serde_json.specs.View.{members_view}
use Rattle.pn_manifest.specs.FlagMaps.{flagged}
use Rattle.pn_manifest.specs.Said.{AreRising}
use Rattle.pn_manifest.proofs.Rising.{rising_flagged}
use Rattle.pn_manifest.proofs.flag_map.read_members.Goals as goal

pub returns-clause-rising : goal.returns-clause-rising
returns-clause-rising c =
    let flag = c.args.flag.now in
    let read : c.loop-name.all.items ≡ flagged flag (members_view c.args.members.now.entries) =
    sym (append-nil c.loop-name.all.items) ∙ ap (λ left. c.loop-name.all.items ++ flagged flag (members_view left)) (sym c.in-None.ensures.steps.0) ∙ c.loop-name.invariant.read in
    subst AreRising (sym read) (rising_flagged flag c.args.members.now.entries c.iter-name-items.ensures.ordered)
