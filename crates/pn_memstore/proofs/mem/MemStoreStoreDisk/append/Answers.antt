use Rattle.pn_storecore.specs.declared.step.StoreStep.TheVariants.{Append}
use Rattle.pn_memstore.proofs.OthersCameLemmas.{asks_turn, behind_turn}
use Rattle.pn_memstore.proofs.mem.MemStoreStoreDisk.append.Goals as goal

pub append-requires : goal.append-requires
append-requires c =
    let was = c.args.self.now.store in
    let now = c.turn.new.self.store in
    asks_turn was.me now.me (Append c.args.k c.args.n c.args.bytes.now) was.ledger.journal.items now.ledger.journal.items c.turn.ensures.me c.turn.ensures.came c.requires

pub returns-clause-step : goal.returns-clause-step
returns-clause-step c =
    let was = c.args.self.now.store in
    let now = c.turn.new.self.store in
    behind_turn c.append.result _ _ was.me now.me (Append c.args.k c.args.n c.args.bytes.now) was.ledger.journal.items now.ledger.journal.items _ c.turn.ensures.me c.turn.ensures.came c.append.ensures.step
