use Rattle.std.proofs.Common.{◌∙◌, subst}
use Rattle.std.specs.List.Sorted.{IsBinarySearchResult}
use Rattle.std.specs.Ordering.{nat_cmp}
use Rattle.pn_text.proofs.Listed.{found}
use Rattle.pn_text.proofs.turns.Turns.is_listed.Goals as goal

pub returns : goal.returns
returns c =
    let turns = c.args.self.now in
    let position = subst (λ xs. IsBinarySearchResult (λ y. nat_cmp y c.args.call) xs c.binary_search.result) c.deref.ensures.value c.binary_search.ensures.position in
    c.is_ok.ensures.value ∙ found turns.fail.items c.args.call c.binary_search.result position turns.rising
