use Rattle.std.proofs.Common.{rules}
use Rattle.std.specs.Ordering.{is_lt, nat_cmp}
use Rattle.std.specs.Cmp.Lexicographic.{slice_cmp}
use Rattle.std.proofs.lemmas.Cmp.{nat_list_cmp_total}
use Rattle.std.proofs.lemmas.List.Sorted.{ranks_by, answers_always}
use Rattle.pn_collect.specs.Outline.{bare_id}
use Rattle.pn_collect.specs.declared.bare.Bare.{Bare}
use Rattle.pn_collect.proofs.BareLemmas.{sorted_ids}
use Rattle.pn_collect.proofs.bare.in_order.Goals as goal

pub returns-clause-sorted : goal.returns-clause-sorted
returns-clause-sorted c = sorted_ids c.sort_by.new.self.items
    (c.in_ok-sort_by.ensures.sorted (λ (a b : Bare). is_lt (slice_cmp nat_cmp a.id b.id)) (ranks_by nat_list_cmp_total bare_id)
    (answers_always _ _ _ (λ f a r g called. search rules)))
