use Rattle.std.proofs.Common.{option_map, sym, ap, ◌∙◌, []}
use Rattle.pn_lock_shape.specs.Bare.{tree, tree_members}
use Rattle.pn_lock_shape.proofs.ApartLemmas.{get_apart}
use Rattle.pn_lock_shape.proofs.entry.optional_map.Goals as goal

pub read_map-requires-clause-apart : goal.read_map-requires-clause-apart
read_map-requires-clause-apart g c =
    get_apart c.args.key.now [] (tree_members c.args.fields.now) (tree c.in-Some.node.now) c.requires.apart (sym c.field.ensures ∙ ap (option_map (λ n. tree n.now)) c.in-Some.is)
