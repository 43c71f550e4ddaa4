use Rattle.std.proofs.Common.{◌<◌, length, sym, ap, ◌∙◌, Some, arith}
use Rattle.std.proofs.lemmas.List.{length-map}
use Rattle.pn_lock.specs.declared.lists.LockPackage.{LockPackage}
use Rattle.pn_lock.specs.Locks.{place_of}
use Rattle.pn_locking.proofs.PlaceLemmas.{locked_found, locked_lost}
use Rattle.pn_locking.proofs.wants.locked_in.Goals as goal

pub returns-in-Some : goal.returns-in-Some
returns-in-Some c =
    let ps = c.args.packages.now in
    let size = ap length c.requires.places ∙ length-map ps (λ (p : LockPackage). p.id) in
    let low : c.in-Some.at < length ps = omega (arith, c.in-Some.ensures.bound, size) in
    ap (λ (p : LockPackage). Some p.integrity) (sym c.index-packages-at.is) ∙ locked_found c.args.id.now ps c.in-Some.at c.index-packages-at.result (c.in-Some.ensures.place ∙ ap (place_of c.args.id.now) c.requires.places) low c.index-packages-at.is

pub returns-in-None : goal.returns-in-None
returns-in-None c = locked_lost c.args.id.now c.args.packages.now (c.in-None.ensures.place ∙ ap (place_of c.args.id.now) c.requires.places)
