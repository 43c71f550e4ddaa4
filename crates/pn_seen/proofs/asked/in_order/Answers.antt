use Rattle.std.proofs.Common.{rules, subst, ◌∙◌}
use Rattle.std.specs.List.Sorted.{IsStableBy}
use Rattle.std.proofs.lemmas.List.Sorted.{answers_always}
use Rattle.pn_seen.proofs.SortLemmas.{by_alias, alias_order, sorted_puts}
use Rattle.pn_seen.proofs.asked.in_order.Goals as goal

pub returns : goal.returns
returns c =
    c.of.ensures ∙ sorted_puts c.args.items.items c.sort_by.new.self.items
    (c.in_ok-sort_by.ensures.sorted by_alias alias_order (answers_always _ _ _ (λ f a r g called. search rules)))
    (subst (λ ws. IsStableBy by_alias ws c.sort_by.new.self.items) c.reverse.ensures.items
    (c.sort_by.ensures.stable by_alias alias_order (answers_always _ _ _ (λ f a r g called. search rules))))
