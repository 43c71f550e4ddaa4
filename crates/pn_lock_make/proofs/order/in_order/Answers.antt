use Rattle.std.proofs.Common.{ℕ, List, subst, sym}
use Rattle.std.specs.Prelude.{bytes_eq}
use Rattle.std.specs.List.{IsDistinct}
use Rattle.pn_lock_make.proofs.SortLemmas.{sorted_rise}
use Rattle.pn_lock_make.proofs.order.in_order.Goals as goal

pub returns-clause-rises : goal.returns-clause-rises
returns-clause-rises c =
    sorted_rise (λ v. v.items) c.in_ok-copies.field-0.items c.sorted.result (subst (λ (l : List (List ℕ)). IsDistinct bytes_eq l) (sym c.in_ok-copies.ensures) c.requires) c.sorted.ensures.sorted c.sorted.ensures.permutation
