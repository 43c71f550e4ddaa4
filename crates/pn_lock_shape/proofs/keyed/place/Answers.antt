use Rattle.std.proofs.Common.{rules}
use Rattle.std.specs.Cmp.Lexicographic.{slice_cmp}
use Rattle.std.specs.Ordering.{nat_cmp}
use Rattle.std.proofs.lemmas.Fn.{always_returns_same}
use Rattle.pn_lock_shape.proofs.PlaceLemmas.{found_at, found_none}
use Rattle.pn_lock_shape.proofs.keyed.place.Goals as goal

pub returns-in-Ok-clause-place : goal.returns-in-Ok-clause-place
returns-in-Ok-clause-place g c =
    found_at g.K.Keyed.key c.args.key.now c.args.list.now c.in-Ok.at c.requires c.in-Ok.ensures.bound
    (c.in-Ok.ensures.position (λ y. slice_cmp nat_cmp (g.K.Keyed.key y) c.args.key.now) (always_returns_same _ _ _ (λ a r h called. search rules)))

pub returns-in-Err-clause-place : goal.returns-in-Err-clause-place
returns-in-Err-clause-place g c =
    found_none g.K.Keyed.key c.args.key.now c.args.list.now c.in-Err.field-0 c.requires
    (c.in-Err.ensures.position (λ y. slice_cmp nat_cmp (g.K.Keyed.key y) c.args.key.now) (always_returns_same _ _ _ (λ a r h called. search rules)))
