use Rattle.pn_storecore.specs.declared.step.StoreStep.TheVariants.{PublishListing}
use Rattle.pn_memstore.proofs.OthersCameLemmas.{asks_turn, behind_turn}
use Rattle.pn_memstore.proofs.mem.MemStoreStoreDisk.publish_listing.Goals as goal

pub publish_listing-requires : goal.publish_listing-requires
publish_listing-requires c =
    let was = c.args.self.now.store in
    let now = c.turn.new.self.store in
    asks_turn was.me now.me (PublishListing c.args.k c.args.n c.args.at.now) was.ledger.journal.items now.ledger.journal.items c.turn.ensures.me c.turn.ensures.came c.requires

pub returns-clause-step : goal.returns-clause-step
returns-clause-step c =
    let was = c.args.self.now.store in
    let now = c.turn.new.self.store in
    behind_turn c.publish_listing.result _ _ was.me now.me (PublishListing c.args.k c.args.n c.args.at.now) was.ledger.journal.items now.ledger.journal.items _ c.turn.ensures.me c.turn.ensures.came c.publish_listing.ensures.step
