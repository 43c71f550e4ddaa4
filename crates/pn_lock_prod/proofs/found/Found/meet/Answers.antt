use Rattle.std.proofs.Common.{rules, ◌≡◌, ℕ, List, false, get_or, set, sym, subst, true}
use Rattle.pn_lock_prod.specs.Walks.{AddsAll, IsMarked}
use Rattle.pn_lock_prod.proofs.FoundLemmas.{adds_one, one_marked}
use Rattle.pn_lock_prod.proofs.found.Found.meet.Goals as goal

pub returns-clause-marked : goal.returns-clause-marked
returns-clause-marked c =
    let seen = c.args.self.now.seen.items in
    let fresh : get_or seen c.args.at false ≡ false = search rules in
    let h = one_marked seen c.args.self.now.order.items c.args.at c.requires.marked c.requires.within fresh in
    subst (λ (l : List ℕ). IsMarked (set seen c.args.at true) l) (sym c.in_ok-push.ensures.items) h

pub returns-clause-added : goal.returns-clause-added
returns-clause-added c =
    let order = c.args.self.now.order.items in
    subst (λ (l : List ℕ). AddsAll (λ k. k ≡ c.args.at) order l) (sym c.in_ok-push.ensures.items) (adds_one order c.args.at)
