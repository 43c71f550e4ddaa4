use Rattle.std.proofs.Common.{◌≡◌, ℕ, List, get_or, false, sym, subst}
use Rattle.std.specs.List.{Contains}
use Rattle.pn_outer.specs.Founds.{IsMarked}
use Rattle.pn_outer.proofs.FoundLemmas.{all_within, cleared}
use Rattle.pn_outer.proofs.found.Found.clear.Goals as goal

pub unmark-requires : goal.unmark-requires
unmark-requires c = λ k h. all_within c.args.self.now.seen.items c.args.self.now.order.items c.requires.marked k (subst (λ (l : List ℕ). Contains l k) c.deref.ensures.value h)

pub returns-clause-marked : goal.returns-clause-marked
returns-clause-marked c =
    let seen = c.args.self.now.seen.items in
    let new = c.unmark.new.seen.items in
    let order = c.args.self.now.order.items in
    subst (λ (l : List ℕ). IsMarked new l) (sym c.clear.ensures.items)
    (cleared seen new order c.requires.marked (λ k h. c.unmark.ensures.none k (subst (λ (l : List ℕ). Contains l k) (sym c.deref.ensures.value) h)) c.unmark.ensures.kept)
