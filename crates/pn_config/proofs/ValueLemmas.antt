-- What lists and maps of texts say at their ends.
use Rattle.std.proofs.Common.{◌≡◌, ℕ, ◌≤◌, List, [], ◌++◌, length, drop, ap, ◌∙◌, append-nil, Some}
use Rattle.pn_yaml.specs.View.{items_view, members_view}
use Rattle.pn_yaml.specs.declared.node.Node.{Node}
use Rattle.pn_config.specs.declared.fault.Stop.{Stop}
use Rattle.pn_config.specs.declared.fault.Stop.TheVariants as stop
use Rattle.pn_config.specs.Faults.{Stops}
use Rattle.pn_config.specs.Values.{Pair, item_texts, member_pairs}
use Rattle.pn_config.proofs.MemberLemmas.{items_end, members_end}

pub texts_end : (ns : List Node) (i : ℕ) (texts : List (List ℕ)) → length ns ≤ i
    → ((rest : List (List ℕ)) → item_texts (items_view (drop i ns)) ≡ Some rest → item_texts (items_view ns) ≡ Some (texts ++ rest))
    → item_texts (items_view ns) ≡ Some texts
texts_end ns i texts l left = left [] (ap item_texts (items_end ns i l)) ∙ ap (λ t. Some t) (append-nil texts)

pub pairs_end : (ms : List (List ℕ × Node)) (i : ℕ) (pairs : List Pair) → length ms ≤ i
    → ((rest : List Pair) → member_pairs (members_view (drop i ms)) ≡ Some rest → member_pairs (members_view ms) ≡ Some (pairs ++ rest))
    → member_pairs (members_view ms) ≡ Some pairs
pairs_end ms i pairs l left = left [] (ap member_pairs (members_end ms i l)) ∙ ap (λ t. Some t) (append-nil pairs)

pub stops_for : {P Q : Type 0} (s : Stop) → (P → Q) → Stops P s → Stops Q s
stops_for stop.Bad f h = f h
stops_for stop.Memory f h = tt
