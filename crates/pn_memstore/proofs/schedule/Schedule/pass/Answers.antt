use Rattle.pn_memstore.proofs.ToComeLemmas.{passed}
use Rattle.pn_memstore.proofs.schedule.Schedule.pass.Goals as goal

pub returns : goal.returns
returns c = passed c.args.self.now.entries.items c.args.self.now.gone
