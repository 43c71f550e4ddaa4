use Rattle.std.proofs.Common.{◌≡◌, ℕ, List, take, true}
use Rattle.std.specs.List.{All}
use Rattle.pn_text.specs.Ids.{is_id}
use Rattle.pn_lock_make.specs.Singles.{package_ids}
use Rattle.pn_lock_make.proofs.singles.ids.Given as goal

abbrev pub invariant-loop-package : goal.invariant-loop-package
invariant-loop-package l = record {
  same : l.all.items ≡ package_ids (take l.package-index l.packages);
  ids : All (λ (id : List ℕ). is_id id ≡ true) l.all.items;
}
