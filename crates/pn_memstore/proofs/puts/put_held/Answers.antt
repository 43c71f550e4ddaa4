use Rattle.std.proofs.Common.{sym, subst}
use Rattle.sha2.specs.Sha512.{sha512}
use Rattle.pn_storecore.specs.declared.step.Place.TheVariants.{Files, Listings}
use Rattle.pn_storecore.specs.Held.{HasObject, no_files}
use Rattle.pn_memstore.proofs.puts.put_held.Goals as goal

pub put_listing-requires-clause-holds : goal.put_listing-requires-clause-holds
put_listing-requires-clause-holds g c = c.look.ensures.left c.args.k no_files c.in_ok-put_file.ensures.folder

pub put_listing-requires-clause-named : goal.put_listing-requires-clause-named
put_listing-requires-clause-named g c file names =
    let seen = g.D.StoreDisk.seen in
    let put = seen c.put_file.new.disk in
    let looked = seen c.look.new.disk in
    subst (HasObject looked Files) (sym (c.requires.named file names)) (c.grew_law.ensures.object put looked Files (sha512 c.args.bytes.now) c.look.ensures.grew c.in_ok-put_file.ensures.stands)

pub returns-clause-file : goal.returns-clause-file
returns-clause-file g c =
    let seen = g.D.StoreDisk.seen in
    let law = c.grew_law.ensures in
    let put = seen c.put_file.new.disk in
    let looked = seen c.look.new.disk in
    let listed = seen c.put_listing.new.disk in
    let end = seen c.release.new.disk in
    law.object put end Files (sha512 c.args.bytes.now) (law.both put listed end (law.both put looked listed c.look.ensures.grew c.put_listing.ensures.grew) c.release.ensures.grew) c.in_ok-put_file.ensures.stands

pub returns-clause-listing : goal.returns-clause-listing
returns-clause-listing g c =
    let seen = g.D.StoreDisk.seen in
    c.grew_law.ensures.object (seen c.put_listing.new.disk) (seen c.release.new.disk) Listings (sha512 c.args.text.now) c.release.ensures.grew c.in_ok-put_listing.ensures.stands
