use Rattle.std.proofs.Common.{◌≡◌, ◌++◌, subst, sym, ◌∙◌, ap, append-nil, map}
use Rattle.serde_json.specs.View.{members_view}
use Rattle.pn_manifest.specs.TextMaps.{pairs}
use Rattle.pn_manifest.specs.Pairs.{IsRising}
use Rattle.pn_manifest.specs.Listed.{pair_of}
use Rattle.pn_manifest.proofs.Rising.{rising_pairs}
use Rattle.pn_manifest.proofs.map.read_members.Goals as goal

pub returns-clause-rising : goal.returns-clause-rising
returns-clause-rising c =
    let read : map pair_of c.loop-name.all.items ≡ pairs (members_view c.args.members.now.entries) =
    sym (append-nil (map pair_of c.loop-name.all.items)) ∙ ap (λ left. map pair_of c.loop-name.all.items ++ pairs (members_view left)) (sym c.in-None.ensures.steps.0) ∙ c.loop-name.invariant.read in
    subst IsRising (sym read) (rising_pairs c.args.members.now.entries c.iter-name-items.ensures.ordered)
