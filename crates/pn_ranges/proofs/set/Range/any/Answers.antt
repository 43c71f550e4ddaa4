use Rattle.std.proofs.Common.{Vec, Global, [], ◌∷◌, ◌++◌, map, ap, ◌∙◌}
use Rattle.pn_ranges.specs.declared.bound.Bound.{Bound}
use Rattle.pn_ranges.specs.Edges.{all_limits_of}
use Rattle.pn_ranges.proofs.Wildcards.{wildcard-of}
use Rattle.pn_ranges.proofs.set.Range.any.Goals as goal

pub returns : goal.returns
returns c = wildcard-of _ (ap (map (λ (v : Vec Bound Global). v.items)) (c.in_ok-push.ensures.items ∙ ap (λ vs. vs ++ c.push_edges.new.bounds ∷ []) c.new-ranges.ensures.items)
    ∙ ap (λ bs. bs ∷ []) (c.in-Ok.ensures.ok ∙ ap (λ bs. bs ++ all_limits_of c.any_edges.result) c.new-bounds.ensures.items ∙ c.any_edges.ensures.value))
