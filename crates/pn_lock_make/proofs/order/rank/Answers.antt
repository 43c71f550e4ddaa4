use Rattle.pn_lock_make.proofs.OrderLemmas.{found_rank, no_rank}
use Rattle.pn_lock_make.proofs.order.rank.Goals as goal

pub returns-in-Ok : goal.returns-in-Ok
returns-in-Ok c = found_rank c.args.path.now c.args.keys.now c.in-Ok.at c.requires.rising c.in-Ok.ensures.bound c.in-Ok.ensures.position

pub returns-in-Err : goal.returns-in-Err
returns-in-Err c = no_rank c.args.path.now c.args.keys.now c.in-Err.field-0 c.requires.rising c.in-Err.ensures.position
