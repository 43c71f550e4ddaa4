-- The data of nodes, and the keys of members.
use Rattle.std.proofs.Common.{◌≡◌, ℕ, List, [], ◌∷◌, ◌++◌, map, refl}
use Rattle.std.proofs.lemmas.List.{map-append}
use Rattle.pn_yaml.specs.declared.node.Node.{Node}
use Rattle.pn_yaml.specs.Data.{Data}
use Rattle.pn_yaml.specs.KeySets.{seen_of, seen_onto}
use Rattle.pn_yaml.specs.View.{view}

abbrev pub views : List Node → List Data
views ns = map view ns

abbrev pub member_view : List ℕ × Node → List ℕ × Data
member_view m = (m.0, view m.1)

abbrev pub member_views : List (List ℕ × Node) → List (List ℕ × Data)
member_views ms = map member_view ms

pub views_push : (ns : List Node) (n : Node) → views (ns ++ n ∷ []) ≡ views ns ++ view n ∷ []
views_push ns n = map-append view ns (n ∷ [])

pub member_views_push : (ms : List (List ℕ × Node)) (k : List ℕ) (n : Node) → member_views (ms ++ (k, n) ∷ []) ≡ member_views ms ++ (k, view n) ∷ []
member_views_push ms k n = map-append member_view ms ((k, n) ∷ [])

seen_push : (seen : List (List ℕ)) (ms : List (List ℕ × Node)) (k : List ℕ) (n : Node) → seen_onto seen (ms ++ (k, n) ∷ []) ≡ k ∷ seen_onto seen ms
seen_push seen [] k n = refl
seen_push seen (m ∷ ms) k n = seen_push (m.0 ∷ seen) ms k n

pub seen_of_push : (ms : List (List ℕ × Node)) (k : List ℕ) (n : Node) → seen_of (ms ++ (k, n) ∷ []) ≡ k ∷ seen_of ms
seen_of_push ms k n = seen_push [] ms k n
