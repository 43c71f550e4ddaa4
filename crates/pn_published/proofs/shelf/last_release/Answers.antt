use Rattle.std.proofs.Common.{◌∙◌, sym, ap, option_map, Some, if◌then◌else◌}
use Rattle.semver.specs.Identifiers.{parts_of}
use Rattle.pn_ranges.specs.Limits.{is_release}
use Rattle.pn_published.specs.Listed.{number}
use Rattle.pn_published.proofs.PlaceLemmas.{last_more}
use Rattle.pn_published.proofs.shelf.last_release.Goals as goal

pub loop-at-preserved : goal.loop-at-preserved
loop-at-preserved c =
    let x = c.index-versions-at.result in
    c.newer-last.ensures
    ∙ ap (λ b. if b then Some c.loop-at.at else option_map number c.loop-at.last) c.is_release.ensures
    ∙ ap (λ o. if is_release (parts_of x) then Some c.loop-at.at else o) c.loop-at.invariant
    ∙ sym (last_more is_release c.args.versions.now c.loop-at.at x c.loop-at-test.true c.index-versions-at.is)
