-- The edge at which a walk stops.
use Rattle.std.specs.Prelude.{◌≡◌, ℕ, List, map, Option, Some, slice_get}
use Rattle.pn_text.specs.declared.ids.Edge.{Edge}
use Rattle.pn_walk.specs.Wants.{Wish, Node, Place, at_project, at_package}
use Rattle.pn_walk.specs.Walks.{Turn}
use Rattle.pn_walk.specs.Graphs.{id_of}
use Rattle.pn_walk.specs.declared.fault.WalkFault.{WalkFault}
use Rattle.pn_walk.specs.declared.fault.WalkFault.TheVariants.{Ways, Packages, Memory}

-- the text of who asks: a project's folder, or a package's id
abbrev pub asker : List (List ℕ) → List Node → Place → Option (List ℕ)
asker folders met (at_project q) = slice_get folders q
asker folders met (at_package k) = slice_get (map id_of met) k

-- The edge is that of this turn.
pub record IsEdgeOf (folders : List (List ℕ)) (met : List Node) (turn : Turn) (e : Edge) : Type 0 where
  pub from : asker folders met turn.who ≡ Some e.from
  pub alias : e.alias ≡ turn.wish.alias
  pub specifier : e.specifier ≡ turn.wish.specifier

-- where this text is that of who asks
abbrev pub AskedFrom : List ℕ → List Node → Place → (List (List ℕ) → Type 0) → Type 0
AskedFrom text met who P = (folders : List (List ℕ)) → asker folders met who ≡ Some text → P folders

-- The refusal names this text's edge, and keeps why.
pub record NamesEdge {F : Type 0} (text : List ℕ) (w : Wish) (f : F) (e : Edge) (g : F) : Type 0 where
  pub from : e.from ≡ text
  pub alias : e.alias ≡ w.alias
  pub specifier : e.specifier ≡ w.specifier
  pub why : g ≡ f

-- the same, or there was no memory
abbrev pub IsNamed : {F : Type 0} → List ℕ → Wish → F → WalkFault F → Type 0
IsNamed text w f (Ways e g) = NamesEdge text w f e g
IsNamed text w f (Packages n) = ⊥
IsNamed text w f Memory = Unit {0}
