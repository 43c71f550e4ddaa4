use Rattle.std.proofs.Common.{inr}
use Rattle.pn_status.proofs.ToldLemmas.{took_some}
use Rattle.pn_status.proofs.text.tell_line.Goals as goal

pub returns-in_default-clause-other : goal.returns-in_default-clause-other
returns-in_default-clause-other g c not_told = inr (took_some c.write.result _ (g.E.Sink.seen c.args.err.now) (g.E.Sink.seen c.write.new.self) c.write.ensures.asked c.write.ensures.took)
