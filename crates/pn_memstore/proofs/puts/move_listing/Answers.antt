use Rattle.std.proofs.Common.{◌∙◌, refl, subst, Some, None}
use Rattle.std.specs.Prelude.{OnOk}
use Rattle.pn_storecore.specs.declared.step.Place.TheVariants.{Listings}
use Rattle.pn_storecore.specs.declared.step.StoreStep.TheVariants.{PublishListing}
use Rattle.pn_storecore.specs.Held.{Holds, no_files, files_with}
use Rattle.pn_text.proofs.Results.{on_ok}
use Rattle.pn_memstore.proofs.puts.move_listing.Goals as goal

pub returns-clause-folder : goal.returns-clause-folder
returns-clause-folder g c =
    let one = g.D.StoreDisk.seen c.args.disk.now in
    let two = g.D.StoreDisk.seen c.publish_listing.new.self in
    let bytes = c.requires.holds.0 in
    let files = files_with no_files 0 (Some bytes) in
    subst (λ now. OnOk c.publish_listing.result (Holds two c.args.k now))
    (c.holds_law.ensures.again no_files 0 (Some bytes) None ∙ c.holds_law.ensures.emptied 0)
    (c.holds_law.ensures.made one two (PublishListing c.args.k 0 c.args.at.now) c.args.k files c.publish_listing.result c.publish_listing.ensures.kept refl c.publish_listing.ensures.step c.requires.holds.1)

pub returns-clause-stands : goal.returns-clause-stands
returns-clause-stands g c =
    let one = g.D.StoreDisk.seen c.args.disk.now in
    let two = g.D.StoreDisk.seen c.publish_listing.new.self in
    let bytes = c.requires.holds.0 in
    let files = files_with no_files 0 (Some bytes) in
    on_ok c.publish_listing.result (c.stands_law.ensures.object two Listings c.args.at.now bytes)
    (c.stands_law.ensures.listing one two c.args.k 0 c.args.at.now bytes files c.publish_listing.result c.publish_listing.ensures.kept c.publish_listing.ensures.step c.requires.holds.1 refl)

pub returns-clause-grew : goal.returns-clause-grew
returns-clause-grew g c =
    let one = g.D.StoreDisk.seen c.args.disk.now in
    let two = g.D.StoreDisk.seen c.publish_listing.new.self in
    let has = c.requires.holds in
    let files = files_with no_files 0 (Some has.0) in
    let own = PublishListing c.args.k 0 c.args.at.now in
    c.grew_law.ensures.call one two own (c.asks_law.ensures.publish_listing one c.args.k 0 c.args.at.now has.0 files has.1 refl has.2 has.3 has.4 c.requires.shard)
    (c.did_law.ensures.does one two own c.publish_listing.result c.publish_listing.ensures.kept c.publish_listing.ensures.step)
