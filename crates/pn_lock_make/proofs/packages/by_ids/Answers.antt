use Rattle.std.proofs.Common.{rules, List, subst, sym}
use Rattle.std.specs.Ordering.{is_lt, nat_cmp}
use Rattle.std.specs.Cmp.Lexicographic.{slice_cmp}
use Rattle.std.specs.List.Sorted.{IsSorted}
use Rattle.std.proofs.lemmas.Cmp.{nat_list_cmp_total}
use Rattle.std.proofs.lemmas.List.Sorted.{ranks_by, answers_always}
use Rattle.pn_lock.specs.declared.lists.LockPackage.{LockPackage}
use Rattle.pn_lock.specs.Locks.{ids_of}
use Rattle.pn_lock_make.proofs.SortLemmas.{sorted_keys}
use Rattle.pn_lock_make.proofs.packages.by_ids.Goals as goal

pub returns-clause-sorted : goal.returns-clause-sorted
returns-clause-sorted c = subst (λ (l : List LockPackage). IsSorted (slice_cmp nat_cmp) (ids_of l)) (sym c.from_vec.ensures)
    (sorted_keys (λ (p : LockPackage). p.id) c.sort_by.new.self.items
    (c.in_ok-sort_by.ensures.sorted (λ (a b : LockPackage). is_lt (slice_cmp nat_cmp a.id b.id)) (ranks_by nat_list_cmp_total (λ (p : LockPackage). p.id))
    (answers_always _ _ _ (λ f a r g called. search rules))))
