use Rattle.pn_storecore.specs.declared.step.StoreStep.TheVariants.{DropTemp}
use Rattle.pn_memstore.proofs.OthersCameLemmas.{asks_turn, behind_turn}
use Rattle.pn_memstore.proofs.mem.MemStoreStoreDisk.drop_temp.Goals as goal

pub drop_temp-requires : goal.drop_temp-requires
drop_temp-requires c =
    let was = c.args.self.now.store in
    let now = c.turn.new.self.store in
    asks_turn was.me now.me (DropTemp c.args.k c.args.n) was.ledger.journal.items now.ledger.journal.items c.turn.ensures.me c.turn.ensures.came c.requires

pub returns-clause-step : goal.returns-clause-step
returns-clause-step c =
    let was = c.args.self.now.store in
    let now = c.turn.new.self.store in
    behind_turn c.drop_temp.result _ _ was.me now.me (DropTemp c.args.k c.args.n) was.ledger.journal.items now.ledger.journal.items _ c.turn.ensures.me c.turn.ensures.came c.drop_temp.ensures.step
