use Rattle.pn_store.specs.Own.{IsDropOf}
use Rattle.pn_store.proofs.MadeLemmas.{made_both}
use Rattle.pn_store.proofs.LeavesLemmas.{others_both}
use Rattle.pn_store.proofs.claims.give_back.Goals as goal

pub returns-clause-others : goal.returns-clause-others
returns-clause-others g c =
    let seen = g.D.StoreDisk.seen in
    others_both c.claims_law.ensures c.args.k (seen c.args.disk.now) (seen c.drop_file.new.disk) (seen c.drop_folder.new.disk) c.drop_file.ensures.works.others c.drop_folder.ensures.others

pub returns-clause-own : goal.returns-clause-own
returns-clause-own g c =
    let seen = g.D.StoreDisk.seen in
    made_both (IsDropOf c.args.k) (seen c.args.disk.now) (seen c.drop_file.new.disk) (seen c.drop_folder.new.disk) c.drop_file.ensures.drops c.drop_folder.ensures.own
