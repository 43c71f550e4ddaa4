use Rattle.std.proofs.Common.{◌≡◌, ◌<◌, ℕ, List, length, get_or, take, false, sym, subst, arith}
use Rattle.std.specs.List.{Contains}
use Rattle.std.proofs.lemmas.List.Elements.{Contains-get_or}
use Rattle.pn_outer.proofs.FoundLemmas.{whole}
use Rattle.pn_outer.proofs.found.unmark.Goals as goal

pub index_mut-requires : goal.index_mut-requires
index_mut-requires c =
    let order = c.args.order.now in
    let at = get_or order c.loop-at.at-index 0 in
    let low = c.requires at (Contains-get_or order c.loop-at.at-index 0 c.loop-at-test.true) in
    let count = c.loop-at.invariant.count in
    omega (arith, low, count)

pub returns-clause-none : goal.returns-clause-none
returns-clause-none c =
    let order = c.args.order.now in
    let all : take c.loop-at.at-index order ≡ order = whole order c.loop-at.at-index c.loop-at.auto.at-index-end c.loop-at-test.false in
    λ k h. c.loop-at.invariant.none k (subst (λ (l : List ℕ). Contains l k) (sym all) h)
