use Rattle.std.proofs.Common.{arith}
use Rattle.pn_store.proofs.BeginsLemmas.{agrees, ended}
use Rattle.pn_store.proofs.compare.agree.Goals as goal

pub returns-then-given-eq0-clause-begins : goal.returns-then-given-eq0-clause-begins
returns-then-given-eq0-clause-begins g c same =
    ended (g.R.ReadFs.seen c.args.from.now).tree c.args.path.now c.args.at c.in_ok-given.given c.args.count c.args.ours.now c.source_piece.new.into c.in_ok-given.ensures.piece c.if-given-eq0.true c.requires.some c.requires.within

pub returns-clause-begins : goal.returns-clause-begins
returns-clause-begins g c same =
    agrees (g.R.ReadFs.seen c.args.from.now).tree c.args.path.now c.args.at c.in_ok-given.given c.in_ok-given.given c.args.ours.now c.source_piece.new.into c.is_same-alike.result c.in_ok-given.ensures.piece (omega arith) (omega (arith, c.in_ok-given.ensures.within, c.min-room.ensures, c.requires.within)) c.is_same-alike.ensures
