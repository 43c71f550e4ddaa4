-- A tree that is told settles the plain graph of what projects ask for.
use Rattle.std.specs.Prelude.{◌≡◌, Some}
use Rattle.pn_text.specs.declared.index.ProjIx.{ProjIx}
use Rattle.pn_fs.specs.Tree.{Tree}
use Rattle.pn_graph.specs.declared.plain.Plain.{Plain}
use Rattle.pn_walk.specs.Graphs.{IsGraph}
use Rattle.pn_plain.specs.Plains.{Inputs}
use Rattle.pn_choice.specs.Graphs.{IsGraphOf}
use Rattle.pn_choice.specs.Refusals.{Unplain}
use Rattle.pn_choice.specs.Shows.{LeadsIn, IsNodeOf}
use Rattle.pn_choice.specs.declared.fault.ChoiceFault.{ChoiceFault}

-- There is one graph, or one refusal and never both. The graph's packages and edges are exactly those that the projects'
-- wishes lead to.
pub record SettledLaw (t : Tree) : Type 0 where
  pub same : (i : Inputs) (root : ProjIx) (p q : Plain) → IsGraphOf (Some t) i root p → IsGraphOf (Some t) i root q → p ≡ q
  pub cause : (i : Inputs) (f g : ChoiceFault) → Unplain i (Some t) f → Unplain i (Some t) g → f ≡ g
  pub passed : (i : Inputs) (root : ProjIx) (p : Plain) (f : ChoiceFault) → IsGraphOf (Some t) i root p → Unplain i (Some t) f → ⊥
  pub graph : (i : Inputs) (root : ProjIx) (p : Plain) → (h : IsGraphOf (Some t) i root p) → IsGraph (LeadsIn (Some t) i) (IsNodeOf (Some t)) h.walked.own h.state.met h.state.links
