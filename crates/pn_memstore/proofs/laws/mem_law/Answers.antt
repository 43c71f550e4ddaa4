use Rattle.std.proofs.Common.{◌≡◌, subst}
use Rattle.pn_storecore.specs.Steps.{world_of}
use Rattle.pn_storecore.specs.Sound.{IsAddressed}
use Rattle.pn_memstore.proofs.laws.mem_law.Goals as goal

pub returns-clause-addressed : goal.returns-clause-addressed
returns-clause-addressed c j told =
    let ledger = c.args.store.now.store.ledger in
    let same : ledger.journal.items ≡ j = cc in
    subst (λ x. IsAddressed (world_of x)) same (c.sound_law.ensures.addressed ledger.journal.items ledger.lawful)
