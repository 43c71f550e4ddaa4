use Rattle.std.proofs.Common.{◌∷◌, ◌++◌, [], refl, ap}
use Rattle.pn_node.specs.Plan.{marker_name}
use Rattle.pn_digest.specs.declared.planned.Planned.TheVariants.{Bytes}
use Rattle.pn_tree.specs.Leaves.{Leaf, marker_leaf}
use Rattle.pn_tree.proofs.DrawLemmas.{at_leaf, spells_part}
use Rattle.pn_tree.proofs.leaves.add_marker.Goals as goal

pub add-requires-clause-tail : goal.add-requires-clause-tail
add-requires-clause-tail c = (marker_name ∷ [], spells_part marker_name refl)

pub returns : goal.returns
returns c = at_leaf c.add.result c.args.draft.now c.add.new.draft c.args.one.now.0 marker_name (λ t. let x : Leaf = (t ++ c.args.one.now.0, Bytes c.in_ok-text.text) in x) (marker_name ∷ []) (marker_leaf c.args.one.now)
    c.add.ensures (spells_part marker_name refl) (ap (λ b. let x : Leaf = (marker_name ∷ c.args.one.now.0, Bytes b) in x) c.in_ok-text.ensures)
