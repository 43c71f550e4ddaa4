-- The edge at which a walk stops.
use Rattle.std.proofs.Common.{◌≡◌, ◌<◌, ℕ, List, ◌++◌, Some, length, map, get_or, sym, ap, ◌∙◌, subst}
use Rattle.std.specs.Prelude.{slice_get, option_map}
use Rattle.std.proofs.lemmas.Option.{slice_get-map, slice_get-get_or}
use Rattle.std.proofs.lemmas.List.{map-append, get_or-map}
use Rattle.pn_walk.specs.Wants.{Id, Wish, Node, Place, at_project, at_package}
use Rattle.pn_walk.specs.Graphs.{id_of}
use Rattle.pn_walk.specs.Starts.{folder_of, folders_of, wishes_of, asked_of}
use Rattle.pn_walk.specs.Edges.{asker}
use Rattle.pn_walk.specs.declared.node.Asks.{Asks}
use Rattle.pn_walk.proofs.GraphLemmas.{get_front}

-- who asks is the same where more packages are met
pub asker_more : (folders : List (List ℕ)) (met now added : List Node) (who : Place) (text : List ℕ) → now ≡ met ++ added → asker folders met who ≡ Some text → asker folders now who ≡ Some text
asker_more folders met now added (at_project q) text grows h = h
asker_more folders met now added (at_package k) text grows h = subst (λ (l : List Id). slice_get l k ≡ Some text) (sym (ap (map id_of) grows ∙ map-append id_of met added)) (get_front (map id_of met) (map id_of added) k text h)

pub asker_package : (folders : List (List ℕ)) (met : List Node) (k : ℕ) (n : Node) (text : List ℕ) → k < length met → n ≡ get_or met k n → text ≡ n.id → asker folders met (at_package k) ≡ Some text
asker_package folders met k n text h is same = slice_get-map id_of met k ∙ ap (option_map id_of) (slice_get-get_or met k n h ∙ ap Some (sym is)) ∙ ap Some (sym same)

pub asker_project : (met : List Node) (ps : List Asks) (q : ℕ) (p : Asks) (text : List ℕ) → q < length ps → p ≡ get_or ps q p → text ≡ p.from → asker (folders_of ps) met (at_project q) ≡ Some text
asker_project met ps q p text h is same = slice_get-map folder_of ps q ∙ ap (option_map folder_of) (slice_get-get_or ps q p h ∙ ap Some (sym is)) ∙ ap Some (sym same)

-- what the project at a place asks for
pub asked_at : (ps : List Asks) (q : ℕ) (p : Asks) (ws : List Wish) → q < length ps → p ≡ get_or ps q p → ws ≡ p.wishes → ws ≡ get_or (asked_of ps) q ws
asked_at ps q p ws h is same = same ∙ ap wishes_of is ∙ sym (get_or-map wishes_of ps q p ws h)
