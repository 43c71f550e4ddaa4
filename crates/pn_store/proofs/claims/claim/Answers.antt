use Rattle.std.proofs.Common.{ℕ, ◌<◌, arith, subst, sym}
use Rattle.std.specs.Bool.{OnFalse, OnTrue}
use Rattle.pn_storecore.specs.Grew.{Stood, TookNone}
use Rattle.pn_text.proofs.Results.{any_err}
use Rattle.pn_store.specs.Claims.{IsClaimed}
use Rattle.pn_store.proofs.ClaimsLemmas.{none_taken, taken_more, tried_behind, claimed_behind, only_none, only_both}
use Rattle.pn_store.proofs.claims.claim.Goals as goal

pub numbers-init : goal.numbers-init
numbers-init g c =
    let a = g.D.StoreDisk.seen c.args.disk.now in
    record { taken = none_taken c.claims_law.ensures a; only = only_none a; grew = c.grew_law.ensures.none a; later = omega arith }

pub numbers-preserved : goal.numbers-preserved
numbers-preserved g c =
    let seen = g.D.StoreDisk.seen in
    let inv = c.numbers.invariant in
    let a = seen c.args.disk.now in
    let b = seen c.numbers.disk in
    let d = seen c.take.new.disk in
    let t = c.in_ok-free.ensures in
    record {
      taken = taken_more c.claims_law.ensures a b d c.numbers.k inv.grew inv.taken c.take.ensures.grew (subst (λ f. OnFalse f (Stood c.numbers.k b d)) c.if-free.false t.stood) (subst (λ f. OnFalse f ((j : ℕ) → TookNone j b d)) c.if-free.false t.others);
      only = only_both a b d inv.only c.take.ensures.only;
      grew = c.grew_law.ensures.both a b d inv.grew c.take.ensures.grew;
      later = omega (arith, inv.later, c.take.ensures.later);
    }

pub returns-in_err-free-clause-left : goal.returns-in_err-free-clause-left
returns-in_err-free-clause-left g c =
    let seen = g.D.StoreDisk.seen in
    any_err c.from_residual.result (tried_behind c.claims_law.ensures c.numbers.k (seen c.args.disk.now) (seen c.numbers.disk) (seen c.take.new.disk) c.numbers-test.true c.numbers.invariant.taken c.take.ensures.grew c.in_err-free.ensures.left)

pub returns-then-free-clause-claimed : goal.returns-then-free-clause-claimed
returns-then-free-clause-claimed g c =
    let seen = g.D.StoreDisk.seen in
    let a = seen c.args.disk.now in
    let b = seen c.numbers.disk in
    let d = seen c.take.new.disk in
    let k = c.numbers.k in
    subst (λ n. IsClaimed n a d) (sym c.of.ensures)
    (claimed_behind c.claims_law.ensures k a b d c.numbers.invariant.grew c.numbers.invariant.taken.others (subst (λ f. OnTrue f (IsClaimed k b d)) c.if-free.true c.in_ok-free.ensures.claimed))

pub returns-then-free-clause-first : goal.returns-then-free-clause-first
returns-then-free-clause-first g c =
    let seen = g.D.StoreDisk.seen in
    let a = seen c.args.disk.now in
    let d = seen c.take.new.disk in
    record {
      within = omega (arith, c.numbers-test.true, c.of.ensures);
      stood = λ j below. c.claims_law.ensures.stood_behind a (seen c.numbers.disk) d j (c.numbers.invariant.taken.stood j (subst (λ n. j < n) c.of.ensures below)) c.take.ensures.grew;
    }

pub returns-in_err-free-clause-only : goal.returns-in_err-free-clause-only
returns-in_err-free-clause-only g c =
    let seen = g.D.StoreDisk.seen in
    only_both (seen c.args.disk.now) (seen c.numbers.disk) (seen c.take.new.disk) c.numbers.invariant.only c.take.ensures.only

pub returns-then-free-clause-only : goal.returns-then-free-clause-only
returns-then-free-clause-only g c =
    let seen = g.D.StoreDisk.seen in
    only_both (seen c.args.disk.now) (seen c.numbers.disk) (seen c.take.new.disk) c.numbers.invariant.only c.take.ensures.only
