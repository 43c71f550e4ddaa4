use Rattle.std.proofs.lemmas.List.Sorted.{All-permutation}
use Rattle.pn_text.proofs.Results.{if_ok}
use Rattle.pn_lock_make.specs.Names.{IsNamedPackage}
use Rattle.pn_lock_make.proofs.packages.packages.Goals as goal

pub returns-clause-named : goal.returns-clause-named
returns-clause-named c = if_ok c.by_ids.result (λ v order. All-permutation IsNamedPackage c.in_ok-all.all.items v order c.in_ok-all.ensures.named) c.by_ids.ensures.same
