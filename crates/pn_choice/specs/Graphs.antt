-- The plain graph of some inputs over a registry.
use Rattle.std.specs.Prelude.{◌≡◌, ℕ, List, Option, map}
use Rattle.pn_text.specs.declared.index.ProjIx.{ProjIx}
use Rattle.pn_fs.specs.Tree.{Tree}
use Rattle.pn_graph.specs.declared.plain.Plain.{Plain}
use Rattle.pn_walk.specs.Walks.{State}
use Rattle.pn_plain.specs.Causes.{Cause}
use Rattle.pn_plain.specs.Plains.{Project, Inputs, IsPlain, IsUnplain}
use Rattle.pn_plain.specs.Seen.{no_hook, no_rules}
use Rattle.pn_choice.specs.Shows.{Publishes, Unpublished, Manifests, Unread}
use Rattle.pn_shape.specs.Shapes.{IsShape}
use Rattle.pn_choice.specs.declared.fault.RegistryLack.{RegistryLack}

-- The walk along all edges ends in this state.
abbrev pub IsPlainOf : Option Tree → Inputs → State → Type 0
IsPlainOf r i t = IsPlain (Publishes r) (Manifests r) no_hook no_rules i t

-- It stops in this state, for this cause.
abbrev pub IsUnplainOf : Option Tree → Inputs → State → Cause RegistryLack → Type 0
IsUnplainOf r i t c = IsUnplain (Publishes r) (Unpublished r) (Manifests r) (Unread r) no_hook no_rules i t c

abbrev pub folders_of : Inputs → List (List ℕ)
folders_of i = map (λ (p : Project). p.folder) i.projects

-- The graph has the packages that the walk meets, and each project and package the edges that it takes for it.
pub record IsGraphOf (r : Option Tree) (i : Inputs) (root : ProjIx) (p : Plain) : Type 0 where
  pub state : State
  pub walked : IsPlainOf r i state
  pub shape : IsShape (folders_of i) state p.projects p.packages
  pub root_is : p.root ≡ root
