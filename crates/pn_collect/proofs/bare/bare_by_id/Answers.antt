use Rattle.std.proofs.lemmas.List.Sorted.{All-permutation}
use Rattle.pn_text.proofs.Results.{if_ok}
use Rattle.pn_collect.specs.Outline.{IsSoundBare}
use Rattle.pn_collect.proofs.bare.bare_by_id.Goals as goal

pub returns-clause-sound : goal.returns-clause-sound
returns-clause-sound c = if_ok c.in_order.result (λ v order. All-permutation IsSoundBare c.in_ok-all.all.items v.items order c.in_ok-all.ensures.sound) c.in_order.ensures.permutation
