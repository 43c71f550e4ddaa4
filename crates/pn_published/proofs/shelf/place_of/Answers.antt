use Rattle.std.proofs.Common.{◌∙◌, sym, ap, Bool, option_map, Some, if◌then◌else◌}
use Rattle.semver.specs.Parse.{Parts}
use Rattle.semver.specs.Identifiers.{parts_of}
use Rattle.pn_published.specs.Versions.{same_version}
use Rattle.pn_published.specs.Listed.{number}
use Rattle.pn_published.proofs.PlaceLemmas.{last_more}
use Rattle.pn_published.proofs.shelf.place_of.Goals as goal

pub loop-at-preserved : goal.loop-at-preserved
loop-at-preserved c =
    let T : Parts → Bool = λ u. same_version u (parts_of c.args.version.now) in
    let x = c.index-versions-at.result in
    c.newer-last.ensures
    ∙ ap (λ b. if b then Some c.loop-at.at else option_map number c.loop-at.last) c.same_version.ensures
    ∙ ap (λ o. if T (parts_of x) then Some c.loop-at.at else o) c.loop-at.invariant
    ∙ sym (last_more T c.args.versions.now c.loop-at.at x c.loop-at-test.true c.index-versions-at.is)
