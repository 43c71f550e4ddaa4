use Rattle.sha2.specs.Sha512.{sha512}
use Rattle.pn_storecore.specs.declared.step.Place.TheVariants.{Files, Listings}
use Rattle.pn_text.proofs.Results.{on_ok}
use Rattle.pn_memstore.proofs.IsWholeLemmas.{on_true}
use Rattle.pn_memstore.proofs.puts.put_both.Goals as goal

pub returns-clause-file : goal.returns-clause-file
returns-clause-file g c addressed =
    let seen = g.D.StoreDisk.seen in
    let law = c.grew_law.ensures in
    let end = seen c.put_held.new.disk in
    let right = law.addressed (seen c.claim.new.disk) end c.put_held.ensures.grew (law.addressed (seen c.args.disk.now) (seen c.claim.new.disk) c.claim.ensures.grew addressed) in
    on_true _ c.put_held.result (on_ok c.put_held.result (c.stands_law.ensures.digest end Files (sha512 c.args.bytes.now) right) c.put_held.ensures.file)

pub returns-clause-listing : goal.returns-clause-listing
returns-clause-listing g c addressed =
    let seen = g.D.StoreDisk.seen in
    let law = c.grew_law.ensures in
    let end = seen c.put_held.new.disk in
    let right = law.addressed (seen c.claim.new.disk) end c.put_held.ensures.grew (law.addressed (seen c.args.disk.now) (seen c.claim.new.disk) c.claim.ensures.grew addressed) in
    on_true _ c.put_held.result (on_ok c.put_held.result (c.stands_law.ensures.digest end Listings (sha512 c.args.text.now) right) c.put_held.ensures.listing)

pub returns-clause-free : goal.returns-clause-free
returns-clause-free g c = on_true _ c.put_held.result c.put_held.ensures.free

pub returns-clause-grew : goal.returns-clause-grew
returns-clause-grew g c =
    let seen = g.D.StoreDisk.seen in
    c.grew_law.ensures.both (seen c.args.disk.now) (seen c.claim.new.disk) (seen c.put_held.new.disk) c.claim.ensures.grew c.put_held.ensures.grew

pub returns-clause-sound : goal.returns-clause-sound
returns-clause-sound g c sound =
    let seen = g.D.StoreDisk.seen in
    let law = c.grew_law.ensures in
    law.sound (seen c.claim.new.disk) (seen c.put_held.new.disk) c.put_held.ensures.grew
    (law.sound (seen c.args.disk.now) (seen c.claim.new.disk) c.claim.ensures.grew sound)
