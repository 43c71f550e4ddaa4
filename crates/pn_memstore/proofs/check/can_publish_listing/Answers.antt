use Rattle.std.proofs.Common.{sym, ap, ◌∙◌, Some}
use Rattle.pn_memstore.specs.Kept.{world_in}
use Rattle.pn_text.proofs.Results.{if_ok}
use Rattle.pn_memstore.proofs.IsWholeLemmas.{listing_decides}
use Rattle.pn_memstore.proofs.check.can_publish_listing.Goals as goal

pub returns-in-Some : goal.returns-in-Some
returns-in-Some c =
    if_ok c.is_listing.result (λ yes d. listing_decides c.args.who c.args.k c.args.n c.args.at.now (world_in c.args.world.now) c.as_slice.result.now yes (c.owns.ensures.0 c.if-not-owns.false) (sym c.has_shard.ensures ∙ c.if-not-has_shard.false) (sym c.in-Some.ensures ∙ ap Some (sym c.as_slice.ensures)) d) c.is_listing.ensures
