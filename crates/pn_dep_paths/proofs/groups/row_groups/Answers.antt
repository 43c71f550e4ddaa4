use Rattle.std.proofs.Common.{length, get_or}
use Rattle.std.proofs.lemmas.List.Elements.{Contains-get_or}
use Rattle.pn_dep_paths.proofs.RelationLemmas.{there_within}
use Rattle.pn_dep_paths.proofs.groups.row_groups.Goals as goal

pub pair_at-pair-requires : goal.pair_at-pair-requires
pair_at-pair-requires c =
    let row = c.args.row.now in
    let p = get_or row c.loop-p.p-index 0 in
    there_within (length c.args.instances.now) (length c.args.folders.now) c.args.pairs.now p (c.requires.there p (Contains-get_or row c.loop-p.p-index 0 c.loop-p-test.true))
