use Rattle.std.proofs.Common.{◌≡◌, ℕ, List, ◌++◌, drop, Some, None}
use Rattle.pn_yaml.specs.View.{items_view}
use Rattle.pn_config.specs.Values.{item_texts}
use Rattle.pn_config.proofs.value.item_texts.Given as goal

-- what is left leads from the texts so far to the whole
abbrev pub invariant-loop-item : goal.invariant-loop-item
invariant-loop-item l = record {
  left : (rest : List (List ℕ)) → item_texts (items_view (drop l.item-index l.items)) ≡ Some rest → item_texts (items_view l.items) ≡ Some (l.texts ++ rest);
  bad : item_texts (items_view (drop l.item-index l.items)) ≡ None → item_texts (items_view l.items) ≡ None;
}
