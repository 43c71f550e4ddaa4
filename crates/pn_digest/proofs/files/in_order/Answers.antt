use Rattle.std.proofs.Common.{rules}
use Rattle.std.specs.Ordering.{is_lt, nat_cmp}
use Rattle.std.specs.Cmp.Lexicographic.{slice_cmp}
use Rattle.std.proofs.lemmas.Cmp.{nat_list_cmp_total}
use Rattle.std.proofs.lemmas.List.Sorted.{ranks_by, answers_always}
use Rattle.pn_digest.specs.Listing.{Entry, rel_text}
use Rattle.pn_digest.proofs.files.in_order.Goals as goal

pub returns-clause-sorted : goal.returns-clause-sorted
returns-clause-sorted c =
    c.in_ok-sort_by.ensures.sorted (λ a b. is_lt (slice_cmp nat_cmp (rel_text a.0) (rel_text b.0))) (ranks_by nat_list_cmp_total (λ (e : Entry). rel_text e.0))
    (answers_always _ _ _ (λ f a r g called. search rules))
