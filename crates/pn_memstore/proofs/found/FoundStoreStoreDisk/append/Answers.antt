use Rattle.std.proofs.Common.{subst, Some}
use Rattle.pn_storecore.specs.declared.step.StoreStep.TheVariants.{Append}
use Rattle.pn_storecore.specs.Calls.{Grows, IsFront}
use Rattle.pn_memstore.proofs.AloneLemmas.{own, any}
use Rattle.pn_memstore.proofs.found.FoundStoreStoreDisk.append.Goals as goal

pub returns-clause-step : goal.returns-clause-step
returns-clause-step c =
    let me = c.args.self.now.me in
    let j = c.args.self.now.journal.items in
    let k = c.make.new.self.journal.items in
    subst (λ bytes. Grows me j (Append c.args.k c.args.n bytes) (IsFront c.args.k c.args.n bytes) (λ w answer. Unit {0}) (Some k) c.make.result) c.in_ok-more.ensures
    (own c.make.result (IsFront c.args.k c.args.n c.in_ok-more.more) (λ w answer. Unit {0}) me j k (Append c.args.k c.args.n c.in_ok-more.more) c.make.ensures.ok c.make.ensures.err (any c.make.result))
