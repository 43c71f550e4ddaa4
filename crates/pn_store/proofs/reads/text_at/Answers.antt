use Rattle.std.proofs.Common.{◌≤◌, ◌++◌, length, take, vec_len, rules, sym, ap, subst, arith, Some, length-append}
use Rattle.std.proofs.lemmas.List.{length-take-le}
use Rattle.std.specs.Prelude.{IfSome}
use Rattle.pn_storecore.specs.declared.step.Place.TheVariants.{Listings}
use Rattle.pn_storecore.specs.Held.{HasObject}
use Rattle.pn_storecore.specs.Grew.{ReadTo}
use Rattle.pn_store.proofs.ReadsLemmas.{Reading, start, reads_on, reads_end}
use Rattle.pn_store.proofs.LeavesLemmas.{all_none, all_both}
use Rattle.pn_store.proofs.reads.text_at.Goals as goal

pub pieces-init : goal.pieces-init
pieces-init g c =
    let a = g.D.StoreDisk.seen c.args.disk.now in
    record { size = search rules; reading = start (search rules); left = all_none c.claims_law.ensures a; grew = c.grew_law.ensures.none a; later = omega arith }

pub returns-in-Ok-None-clause-left : goal.returns-in-Ok-None-clause-left
returns-in-Ok-None-clause-left g c =
    let store = g.D.StoreDisk.seen in
    all_both c.claims_law.ensures (store c.args.disk.now) (store c.pieces.disk) (store c.piece.new.disk) c.pieces.invariant.left c.piece.ensures.left

pub returns-in-Err-clause-left : goal.returns-in-Err-clause-left
returns-in-Err-clause-left g c =
    let store = g.D.StoreDisk.seen in
    all_both c.claims_law.ensures (store c.args.disk.now) (store c.pieces.disk) (store c.piece.new.disk) c.pieces.invariant.left c.piece.ensures.left

pub returns-then-count-eq0-clause-left : goal.returns-then-count-eq0-clause-left
returns-then-count-eq0-clause-left g c =
    let store = g.D.StoreDisk.seen in
    all_both c.claims_law.ensures (store c.args.disk.now) (store c.pieces.disk) (store c.piece.new.disk) c.pieces.invariant.left c.piece.ensures.left

pub returns-in-Err-take_in-clause-left : goal.returns-in-Err-take_in-clause-left
returns-in-Err-take_in-clause-left g c =
    let store = g.D.StoreDisk.seen in
    all_both c.claims_law.ensures (store c.args.disk.now) (store c.pieces.disk) (store c.piece.new.disk) c.pieces.invariant.left c.piece.ensures.left

pub returns-then-count-eq0-clause-read : goal.returns-then-count-eq0-clause-read
returns-then-count-eq0-clause-read g c =
    let store = g.D.StoreDisk.seen in
    let inv = c.pieces.invariant in
    let old = store c.args.disk.now in
    let mid = store c.pieces.disk in
    let new = store c.piece.new.disk in
    let at = c.args.at.now in
    let into = c.piece.new.into in
    let count = c.in-Ok-Some.count in
    let all = c.pieces.all.items in
    let size = vec_len c.pieces.all in
    let here = subst (λ f. IfSome mid.journal (λ j. ReadTo Listings at c.len-from.result into f j new.journal)) c.in-Ok-Some.field-0-is c.in-Ok-Some.ensures.read in
    let read = subst (λ i. IfSome mid.journal (λ j. ReadTo Listings at i into (Some count) j new.journal)) c.len-from.ensures here in
    reads_end c.was_law.ensures Listings at all into size count old mid new inv.grew c.piece.ensures.grew inv.size c.if-count-eq0.true inv.reading read

pub pieces-preserved : goal.pieces-preserved
pieces-preserved g c =
    let store = g.D.StoreDisk.seen in
    let inv = c.pieces.invariant in
    let old = store c.args.disk.now in
    let mid = store c.pieces.disk in
    let new = store c.piece.new.disk in
    let at = c.args.at.now in
    let into = c.piece.new.into in
    let count = c.in-Ok-Some.count in
    let all = c.pieces.all.items in
    let size = vec_len c.pieces.all in
    let here = subst (λ f. IfSome mid.journal (λ j. ReadTo Listings at c.len-from.result into f j new.journal)) c.in-Ok-Some.field-0-is c.in-Ok-Some.ensures.read in
    let read = subst (λ i. IfSome mid.journal (λ j. ReadTo Listings at i into (Some count) j new.journal)) c.len-from.ensures here in
    let room = subst (λ f. IfSome f (λ n. n ≤ length c.pieces.buffer)) c.in-Ok-Some.field-0-is c.in-Ok-Some.ensures.within in
    let within : count ≤ length into = omega (arith, room, c.piece.auto.into) in
    let items = c.in_default.ensures.items in
    let len = c.in_default.ensures.len in
    let both = reads_on c.was_law.ensures Listings at all into size count old mid new inv.grew c.piece.ensures.grew inv.size within inv.reading read in
    record {
      size = omega (arith, len, inv.size, ap length items, length-append all (take count into), length-take-le count into within);
      reading = subst (λ x. Reading Listings at x (vec_len c.take_in.new.all) old new) (sym items) (subst (λ n. Reading Listings at (all ++ take count into) n old new) (sym len) both);
      left = all_both c.claims_law.ensures old mid new inv.left c.piece.ensures.left;
      grew = c.grew_law.ensures.both old mid new inv.grew c.piece.ensures.grew;
      later = omega (arith, inv.later, c.piece.ensures.later);
    }

pub returns-then-count-eq0-clause-stands : goal.returns-then-count-eq0-clause-stands
returns-then-count-eq0-clause-stands g c =
    let new = g.D.StoreDisk.seen c.piece.new.disk in
    subst (λ f. IfSome f (λ n. HasObject new Listings c.args.at.now)) c.in-Ok-Some.field-0-is c.in-Ok-Some.ensures.stands
