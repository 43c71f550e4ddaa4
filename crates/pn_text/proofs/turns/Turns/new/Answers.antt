use Rattle.std.proofs.Common.{sym}
use Rattle.std.specs.Prelude.{◌==◌}
use Rattle.std.proofs.lemmas.List.Sorted.{IsNonDecreasingBy-from_sort, list_any-IsPermutation}
use Rattle.pn_text.proofs.turns.Turns.new.Goals as goal

pub invariant_of-result : goal.invariant_of-result
invariant_of-result c = record { rising = IsNonDecreasingBy-from_sort (λ x. x) c.sort_unstable.new.self.items c.sort_unstable.ensures.sorted }

pub returns-clause-fail : goal.returns-clause-fail
returns-clause-fail c = λ n. sym (list_any-IsPermutation (λ m. m == n) c.args.fail.items c.sort_unstable.new.self.items c.sort_unstable.ensures.permutation)
