use Rattle.std.proofs.Common.{◌∷◌, sym, ap, ◌∙◌}
use Rattle.pn_memstore.specs.Schedule.{to_come}
use Rattle.pn_memstore.proofs.OthersCameLemmas.{more_came}
use Rattle.pn_memstore.proofs.DueCameLemmas.{next_due}
use Rattle.pn_memstore.proofs.others.others_come.Goals as goal

pub entries-preserved : goal.entries-preserved
entries-preserved c =
    let j = c.args.ledger.now.journal.items in
    let k = c.entries.ledger.journal.items in
    let l = c.comes.new.ledger.journal.items in
    let e = c.in-Some.scheduled.now in
    let next = c.in-Some.ensures in
    let rest = c.pass.ensures e next.1.0 next.1.1 in
    record {
      came = more_came c.args.me j k l c.entries.invariant.came c.comes.ensures.came;
      due = next_due c.args.me c.args.call (to_come c.args.schedule.now) (to_come c.entries.schedule) (to_come c.pass.new.self) e j k l
          c.entries.invariant.due (next.1.1 ∙ ap (λ x. e ∷ x) (sym rest)) next.0 c.in_ok-comes.ensures.due;
    }
