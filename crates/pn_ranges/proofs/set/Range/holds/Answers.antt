use Rattle.std.proofs.Common.{Vec, Global, ap, sym, ◌∙◌}
use Rattle.std.specs.List.{list_any}
use Rattle.semver.specs.Identifiers.{parts_of}
use Rattle.pn_ranges.specs.declared.bound.Bound.{Bound}
use Rattle.pn_ranges.specs.Limits.{meets_all, satisfies}
use Rattle.pn_ranges.proofs.Sets.{any-map}
use Rattle.pn_ranges.proofs.set.Range.holds.Goals as goal

pub returns : goal.returns
returns c =
    c.some_meets.ensures
    ∙ ap (list_any (λ (v : Vec Bound Global). meets_all (parts_of c.args.version.now) v.items)) c.deref.ensures.value
    ∙ sym (any-map (meets_all (parts_of c.args.version.now)) (λ (v : Vec Bound Global). v.items) c.self.inside.ranges.items)
    ∙ ap (satisfies (parts_of c.args.version.now)) c.self.view_is
