use Rattle.std.proofs.Common.{◌&&◌, ◌∙◌, sym, ap, map, option_map, Some, if◌then◌else◌}
use Rattle.std.proofs.Common.{Bool}
use Rattle.semver.specs.Parse.{Parts}
use Rattle.semver.specs.Identifiers.{parts_of}
use Rattle.pn_published.specs.Choice.{fits, is_held}
use Rattle.pn_published.specs.Listed.{number}
use Rattle.pn_published.proofs.PlaceLemmas.{last_more}
use Rattle.pn_published.proofs.choice.last_held.Goals as goal

pub loop-at-preserved : goal.loop-at-preserved
loop-at-preserved c =
    let T : Parts → Bool = λ v. fits c.args.ranges.now v && is_held (map parts_of c.args.held.now) v in
    let x = c.index-versions-at.result in
    c.newer-last.ensures
    ∙ ap (λ b. if b then Some c.loop-at.at else option_map number c.loop-at.last) c.fits_held.ensures
    ∙ ap (λ o. if T (parts_of x) then Some c.loop-at.at else o) c.loop-at.invariant
    ∙ sym (last_more T c.args.versions.now c.loop-at.at x c.loop-at-test.true c.index-versions-at.is)
