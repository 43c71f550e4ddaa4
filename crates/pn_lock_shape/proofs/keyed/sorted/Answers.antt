use Rattle.std.proofs.Common.{rules, subst, sym}
use Rattle.std.specs.List.Sorted.{IsSortedBy}
use Rattle.std.specs.Cmp.Lexicographic.{slice_cmp}
use Rattle.std.specs.Ordering.{is_lt, nat_cmp}
use Rattle.std.proofs.lemmas.Cmp.{nat_list_cmp_total}
use Rattle.std.proofs.lemmas.List.Sorted.{answers_always, ranks_by}
use Rattle.pn_lock_shape.proofs.keyed.sorted.Goals as goal

pub returns-clause-sorted : goal.returns-clause-sorted
returns-clause-sorted g c =
    subst (IsSortedBy (λ a b. is_lt (slice_cmp nat_cmp (g.K.Keyed.key a) (g.K.Keyed.key b)))) (sym c.from_vec.ensures)
    (c.in_ok-sort_by.ensures.sorted (λ a b. is_lt (slice_cmp nat_cmp (g.K.Keyed.key a) (g.K.Keyed.key b))) (ranks_by nat_list_cmp_total g.K.Keyed.key) (answers_always _ _ _ (λ f a r h called. search rules)))
