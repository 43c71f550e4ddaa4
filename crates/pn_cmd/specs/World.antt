-- What the outside shows, before a run and after it.
use Rattle.std.specs.Prelude.{◌≡◌, ℕ, List, Option}
use Rattle.pn_text.specs.Path.{Path}
use Rattle.pn_fs.specs.Tree.{Tree}
use Rattle.pn_fs.specs.Seen.{Seen, Taken, Keeps}
use Rattle.pn_storecore.specs.Seen.{Seen as Stored}

-- all that a run's answer speaks of: a field for each device
pub record World : Type 0 where
  pub project : Seen
  pub registry : Seen
  pub store : Stored
  pub out : Taken

abbrev pub world : Seen → Seen → Stored → Taken → World
world project registry store out = record { project = project; registry = registry; store = store; out = out }

-- the same where the store is this
abbrev pub with_store : World → Stored → World
with_store w store = world w.project w.registry store w.out

-- what the points of a run read
pub record Trees : Type 0 where
  pub project : Option Tree
  pub registry : Option Tree

abbrev pub trees : Seen → Seen → Trees
trees project registry = record { project = project.tree; registry = registry.tree }

abbrev pub trees_of : World → Trees
trees_of w = trees w.project w.registry

-- what a refusal may rest on
pub record Shown : Type 0 where
  pub trees : Trees

abbrev pub shown : World → Shown
shown old = record { trees = trees_of old }

-- Calls that only read the trees, and leave the store and the output alone.
pub record AreKept (old new : World) : Type 0 where
  pub project : Keeps old.project new.project
  pub registry : Keeps old.registry new.registry
  pub store : new.store ≡ old.store
  pub out : new.out ≡ old.out

-- what a run is handed besides
pub record Inputs : Type 0 where
  pub words : List (List ℕ)
  pub place : Path

abbrev pub inputs : List (List ℕ) → Path → Inputs
inputs words place = record { words = words; place = place }
