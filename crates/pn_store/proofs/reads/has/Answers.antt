use Rattle.std.proofs.Common.{ℕ, List, subst}
use Rattle.std.specs.Prelude.{IfSome}
use Rattle.pn_storecore.specs.Held.{HasObject}
use Rattle.pn_storecore.specs.declared.step.Place.TheVariants.{Listings}
use Rattle.pn_storecore.specs.Grew.{ReadTo}
use Rattle.pn_store.proofs.ReadsLemmas.{present}
use Rattle.pn_store.proofs.reads.has.Goals as goal

pub returns-in-Ok-Some-clause-there : goal.returns-in-Ok-Some-clause-there
returns-in-Ok-Some-clause-there g c =
    let store = g.D.StoreDisk.seen in
    let old = (store c.args.disk.now).journal in
    let new = (store c.piece.new.disk).journal in
    let into = c.piece.new.into in
    present Listings c.args.at.now 0 c.in-Ok-Some.field-0-0 into old new (subst (λ f. IfSome old (λ j. ReadTo Listings c.args.at.now 0 into f j new)) c.in-Ok-Some.field-0-is (subst (λ d. IfSome old (λ j. ReadTo Listings d 0 into c.in-Ok-Some.field-0 j new)) c.digest.ensures c.in-Ok-Some.ensures.read))

pub returns-in-Ok-Some-clause-stands : goal.returns-in-Ok-Some-clause-stands
returns-in-Ok-Some-clause-stands g c =
    let new = g.D.StoreDisk.seen c.piece.new.disk in
    subst (λ (d : List ℕ). HasObject new Listings d) c.digest.ensures (subst (λ f. IfSome f (λ n. HasObject new Listings c.digest.result)) c.in-Ok-Some.field-0-is c.in-Ok-Some.ensures.stands)
