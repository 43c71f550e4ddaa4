use Rattle.std.proofs.Common.{Some, ap, sym, ◌∙◌}
use Rattle.std.specs.Option.{option_map}
use Rattle.pn_fs.specs.Tree.{folder}
use Rattle.pn_fs.specs.Bodies.{entry_of}
use Rattle.pn_fs.specs.Nodes.{rooted}
use Rattle.pn_fs.proofs.Kept.{moved_by, place_held, source_held}
use Rattle.pn_fs.proofs.nodes.move_body.Goals as goal

pub set_body-requires-clause-stands : goal.set_body-requires-clause-stands
set_body-requires-clause-stands c =
    place_held (rooted c.args.nodes.now) (rooted c.place.new.nodes) (rooted c.take_body.new.nodes) c.args.from.now c.args.to.now folder c.requires.apart c.in_ok-place.ensures.ok c.take_body.ensures.gone

pub unreachable-requires : goal.unreachable-requires
unreachable-requires c =
    source_held (rooted c.args.nodes.now) (rooted c.place.new.nodes) c.args.from.now c.args.to.now folder c.requires.apart c.in_ok-place.ensures.ok c.requires.stands
    (sym c.take_body.ensures.body ∙ ap (option_map entry_of) c.in-None.is)

pub returns-clause-ok : goal.returns-clause-ok
returns-clause-ok c =
    moved_by (rooted c.args.nodes.now) (rooted c.place.new.nodes) (rooted c.take_body.new.nodes) (rooted c.set_body.new.nodes) c.args.from.now c.args.to.now folder (Some (entry_of c.in-Some.body))
    c.requires.apart c.in_ok-place.ensures.ok (sym (ap (option_map entry_of) c.in-Some.is) ∙ c.take_body.ensures.body) c.take_body.ensures.gone c.set_body.ensures
