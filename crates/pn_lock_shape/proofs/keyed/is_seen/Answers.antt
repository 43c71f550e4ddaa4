use Rattle.std.proofs.Common.{◌∙◌, ap, sym, map}
use Rattle.std.specs.Prelude.{◌||◌}
use Rattle.pn_lock.specs.Kept.{is_in}
use Rattle.pn_lock_shape.proofs.PlaceLemmas.{in_append}
use Rattle.pn_lock_shape.proofs.keyed.is_seen.Goals as goal

pub returns-then-has_key : goal.returns-then-has_key
returns-then-has_key g c =
    sym (in_append c.args.key.now (map g.K.Keyed.key c.args.seen.now) (map g.K.Keyed.key c.args.later.now)
    ∙ ap (λ o. o || is_in (map g.K.Keyed.key c.args.later.now) c.args.key.now) (sym c.has_key.ensures ∙ c.if-has_key.true))

pub returns : goal.returns
returns g c =
    c.has_key-2.ensures ∙ sym (in_append c.args.key.now (map g.K.Keyed.key c.args.seen.now) (map g.K.Keyed.key c.args.later.now)
    ∙ ap (λ o. o || is_in (map g.K.Keyed.key c.args.later.now) c.args.key.now) (sym c.has_key.ensures ∙ c.if-has_key.false))
