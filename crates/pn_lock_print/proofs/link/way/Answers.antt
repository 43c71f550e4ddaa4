use Rattle.std.proofs.Common.{[], ◌∷◌, ◌++◌, option_map, ◌∙◌, ap}
use Rattle.pn_lock_print.proofs.PartLemmas.{way_none, way_some}
use Rattle.pn_lock_print.proofs.link.way.Goals as goal

pub returns-in_ok-push_str-in-Some-2 : goal.returns-in_ok-push_str-in-Some-2
returns-in_ok-push_str-in-Some-2 c =
    way_some _ _ _ _ _ _ c.in-Some.down.now _ (ap (option_map (λ t. t.now)) c.in-Some.is) c.parted.ensures.apart c.parted.ensures.same c.below_root.ensures c.below_root-2.ensures
    (c.in_ok-push_str-in-Some-2.ensures.bytes ∙ ap (λ t. t ++ c.in-Some.down.now) (c.in_ok-push_str-in-Some.ensures.bytes ∙ ap (λ t. t ++ 47 ∷ []) c.in_ok-steps.ensures))

pub returns-in-None : goal.returns-in-None
returns-in-None c =
    way_none _ _ _ _ _ _ _ (ap (option_map (λ t. t.now)) c.in-None.is) c.parted.ensures.apart c.parted.ensures.same c.below_root.ensures c.below_root-2.ensures c.in_ok-steps.ensures
