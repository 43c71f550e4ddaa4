use Rattle.pn_storecore.specs.declared.step.StoreStep.TheVariants.{Claim}
use Rattle.pn_store.proofs.ClaimsLemmas.{claimed, others, stood, tried, err_at, only_claim}
use Rattle.pn_store.proofs.claims.take.Goals as goal

pub returns-in-Ok-clause-claimed : goal.returns-in-Ok-clause-claimed
returns-in-Ok-clause-claimed g c =
    let seen = g.D.StoreDisk.seen in
    claimed c.holds_law.ensures c.did_law.ensures c.claims_law.ensures (seen c.args.disk.now) (seen c.claim.new.self) c.args.k c.claim.result c.in-Ok.free c.in-Ok.is c.claim.ensures.kept c.claim.ensures.step

pub returns-in-Ok-clause-stood : goal.returns-in-Ok-clause-stood
returns-in-Ok-clause-stood g c =
    let seen = g.D.StoreDisk.seen in
    stood c.claims_law.ensures (seen c.args.disk.now) (seen c.claim.new.self) c.args.k c.claim.result c.in-Ok.free c.in-Ok.is c.claim.ensures.kept c.claim.ensures.step

pub returns-in-Ok-clause-others : goal.returns-in-Ok-clause-others
returns-in-Ok-clause-others g c =
    let seen = g.D.StoreDisk.seen in
    others c.did_law.ensures c.claims_law.ensures (seen c.args.disk.now) (seen c.claim.new.self) c.args.k c.claim.result c.in-Ok.free c.in-Ok.is c.claim.ensures.kept c.claim.ensures.step

pub returns-in-Ok-clause-grew : goal.returns-in-Ok-clause-grew
returns-in-Ok-clause-grew g c =
    let one = g.D.StoreDisk.seen c.args.disk.now in
    let two = g.D.StoreDisk.seen c.claim.new.self in
    c.grew_law.ensures.call one two (Claim c.args.k) (λ j told. tt) (c.did_law.ensures.claim one two c.args.k c.claim.result c.claim.ensures.kept c.claim.ensures.step)

pub returns-in-Err-Failed-clause-left : goal.returns-in-Err-Failed-clause-left
returns-in-Err-Failed-clause-left g c =
    let seen = g.D.StoreDisk.seen in
    err_at _ c.claim.result c.in-Err-Failed.field-0 c.in-Err-Failed.is (tried c.holds_law.ensures c.did_law.ensures c.claims_law.ensures (seen c.args.disk.now) (seen c.claim.new.self) c.args.k c.claim.result c.claim.ensures.kept c.claim.ensures.step)

pub returns-in-Err-Memory-clause-left : goal.returns-in-Err-Memory-clause-left
returns-in-Err-Memory-clause-left g c =
    let seen = g.D.StoreDisk.seen in
    err_at _ c.claim.result c.in-Err-Memory.field-0 c.in-Err-Memory.is (tried c.holds_law.ensures c.did_law.ensures c.claims_law.ensures (seen c.args.disk.now) (seen c.claim.new.self) c.args.k c.claim.result c.claim.ensures.kept c.claim.ensures.step)

pub returns-in-Ok-clause-only : goal.returns-in-Ok-clause-only
returns-in-Ok-clause-only g c =
    let seen = g.D.StoreDisk.seen in
    only_claim c.did_law.ensures c.leaves_law.ensures (seen c.args.disk.now) (seen c.claim.new.self) c.args.k c.claim.result c.claim.ensures.kept c.claim.ensures.step

pub returns-in-Err-Failed-clause-only : goal.returns-in-Err-Failed-clause-only
returns-in-Err-Failed-clause-only g c =
    let seen = g.D.StoreDisk.seen in
    only_claim c.did_law.ensures c.leaves_law.ensures (seen c.args.disk.now) (seen c.claim.new.self) c.args.k c.claim.result c.claim.ensures.kept c.claim.ensures.step

pub returns-in-Err-Memory-clause-only : goal.returns-in-Err-Memory-clause-only
returns-in-Err-Memory-clause-only g c =
    let seen = g.D.StoreDisk.seen in
    only_claim c.did_law.ensures c.leaves_law.ensures (seen c.args.disk.now) (seen c.claim.new.self) c.args.k c.claim.result c.claim.ensures.kept c.claim.ensures.step
