use Rattle.std.proofs.Common.{◌≡◌, sym, ap, ◌∙◌}
use Rattle.pn_yaml.specs.Data.{map}
use Rattle.pn_yaml.specs.View.{view, members_view}
use Rattle.pn_yaml.proofs.NodeViews.{view-Map}
use Rattle.pn_text.proofs.Results.{if_err, if_ok}
use Rattle.pn_config.specs.Values.{pairs_of}
use Rattle.pn_config.proofs.ValueLemmas.{stops_for}
use Rattle.pn_config.proofs.value.pairs.Goals as goal

pub returns-in-Map-clause-ok : goal.returns-in-Map-clause-ok
returns-in-Map-clause-ok c =
    let seen : view c.args.value.now ≡ map (members_view c.as_slice.result.now) = ap view c.in-Map.is ∙ view-Map c.in-Map.members ∙ ap (λ ms. map (members_view ms)) (sym c.as_slice.ensures) in
    if_ok c.member_pairs.result (λ ps h. ap pairs_of seen ∙ h) c.member_pairs.ensures.ok

pub returns-in-Map-clause-fault : goal.returns-in-Map-clause-fault
returns-in-Map-clause-fault c =
    let seen : view c.args.value.now ≡ map (members_view c.as_slice.result.now) = ap view c.in-Map.is ∙ view-Map c.in-Map.members ∙ ap (λ ms. map (members_view ms)) (sym c.as_slice.ensures) in
    if_err c.member_pairs.result (λ s h. stops_for s (λ none. ap pairs_of seen ∙ none) h) c.member_pairs.ensures.fault
