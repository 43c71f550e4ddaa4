use Rattle.std.proofs.lemmas.List.Elements.{Contains-get_or}
use Rattle.std.proofs.Common.{get_or}
use Rattle.pn_dep_paths.proofs.edges.push_edges.Goals as goal

pub pair_at-requires : goal.pair_at-requires
pair_at-requires c =
    let row = c.args.row.now in
    c.requires (get_or row c.loop-p.p-index 0) (Contains-get_or row c.loop-p.p-index 0 c.loop-p-test.true)
