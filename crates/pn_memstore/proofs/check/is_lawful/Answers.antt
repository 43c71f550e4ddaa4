use Rattle.std.proofs.Common.{subst, sym}
use Rattle.std.specs.Prelude.{IfOk}
use Rattle.std.specs.Bool.{Decides}
use Rattle.pn_storecore.specs.Lawful.{IsLawful}
use Rattle.pn_memstore.specs.Kept.{world_in}
use Rattle.pn_memstore.proofs.check.is_lawful.Goals as goal

pub returns-in-PublishListing : goal.returns-in-PublishListing
returns-in-PublishListing c =
    subst (λ s. IfOk c.can_publish_listing.result (λ yes. Decides yes (IsLawful c.args.who s (world_in c.args.world.now)))) (sym c.in-PublishListing.is) c.can_publish_listing.ensures
