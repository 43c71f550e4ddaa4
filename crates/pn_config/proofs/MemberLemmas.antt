-- Members and items of nodes by their places.
use Rattle.std.proofs.Common.{◌≡◌, ℕ, ◌<◌, ◌≤◌, ◌+◌, List, ◌∷◌, length, drop, get_or, sym, ap, ◌∙◌}
use Rattle.std.proofs.lemmas.List.{drop_all, drop_more}
use Rattle.pn_yaml.specs.Data.{no_members, member, no_items}
use Rattle.pn_yaml.specs.View.{view, items_view, members_view}
use Rattle.pn_yaml.specs.declared.node.Node.{Node}

pub members_at : (ms : List (List ℕ × Node)) (i : ℕ) (m : List ℕ × Node) → i < length ms → m ≡ get_or ms i m → members_view (drop i ms) ≡ member m.0 (view m.1) (members_view (drop (i + 1) ms))
members_at ms i m l h = ap members_view (drop_more ms i m l ∙ ap (λ n. n ∷ drop (i + 1) ms) (sym h))

pub members_end : (ms : List (List ℕ × Node)) (i : ℕ) → length ms ≤ i → members_view (drop i ms) ≡ no_members
members_end ms i l = ap members_view (drop_all i ms l)

pub items_end : (ns : List Node) (i : ℕ) → length ns ≤ i → items_view (drop i ns) ≡ no_items
items_end ns i l = ap items_view (drop_all i ns l)
