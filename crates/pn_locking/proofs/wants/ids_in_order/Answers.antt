use Rattle.std.proofs.Common.{◌∙◌, ap}
use Rattle.pn_lock_make.specs.Singles.{package_ids}
use Rattle.pn_locking.proofs.WantedLemmas.{ids_rise}
use Rattle.pn_locking.proofs.wants.ids_in_order.Goals as goal

pub returns-clause-rising : goal.returns-clause-rising
returns-clause-rising c =
    ids_rise c.args.plain.now c.in_ok-ids.ids.items c.sort.new.self.items (c.in_ok-ids.ensures ∙ ap package_ids c.as_slice.ensures) c.sort.ensures.permutation c.in_ok-sort.ensures.sorted
