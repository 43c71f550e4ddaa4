use Rattle.pn_storecore.specs.declared.step.StoreStep.TheVariants.{Shard}
use Rattle.pn_memstore.proofs.OthersCameLemmas.{behind_turn}
use Rattle.pn_memstore.proofs.mem.MemStoreStoreDisk.shard.Goals as goal

pub returns-clause-step : goal.returns-clause-step
returns-clause-step c =
    let was = c.args.self.now.store in
    let now = c.turn.new.self.store in
    behind_turn c.shard.result _ _ was.me now.me (Shard c.args.place c.args.first) was.ledger.journal.items now.ledger.journal.items _ c.turn.ensures.me c.turn.ensures.came c.shard.ensures.step
