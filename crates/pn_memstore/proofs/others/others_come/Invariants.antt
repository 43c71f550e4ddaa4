use Rattle.std.proofs.Common.{[], length}
use Rattle.pn_memstore.specs.Came.{OthersCame}
use Rattle.pn_memstore.specs.Script.{DueCame}
use Rattle.pn_memstore.specs.Schedule.{to_come}
use Rattle.pn_memstore.proofs.others.others_come.Given as goal

abbrev pub invariant-entries : goal.invariant-entries
invariant-entries l = record {
  came : OthersCame l.me l.fn.ledger.journal.items l.ledger.journal.items;
  due : DueCame l.me l.call (to_come l.fn.schedule) (to_come l.schedule) l.fn.ledger.journal.items [] l.ledger.journal.items;
}

abbrev pub decreases-entries : goal.decreases-entries
decreases-entries l = length (to_come l.schedule)
