-- What is told settles the plain graph.
use Rattle.std.specs.Prelude.{◌≡◌, ℕ}
use Rattle.pn_walk.specs.Graphs.{IsGraph, IsAsked}
use Rattle.pn_walk.specs.Walks.{State}
use Rattle.pn_plain.specs.Aims.{Leads}
use Rattle.pn_plain.specs.Causes.{Cause}
use Rattle.pn_plain.specs.Plains.{Inputs, given_by}
use Rattle.pn_plain.specs.Told.{Told, IsToldShelf, IsToldNode, IsToldPlain, IsToldUnplain}

-- The state of the plain graph is that of the graph of what the projects ask for, and there is one such state. Or there is
-- one state before a refusal, one edge that is refused, which a project or a package that is reached asks for, and one cause.
-- Never are there both.
pub record PlainLaw (told : Told) : Type 0 where
  pub graph : (i : Inputs) (t : State) → (p : IsToldPlain told i t) → IsGraph (Leads (IsToldShelf told) (given_by i)) (IsToldNode told) p.own t.met t.links
  pub same : (i : Inputs) (t u : State) → IsToldPlain told i t → IsToldPlain told i u → t ≡ u
  pub one_stop : (i : Inputs) (t u : State) (f c : Cause ℕ) → IsToldUnplain told i t f → IsToldUnplain told i u c → t ≡ u
  pub one_edge : (i : Inputs) (t u : State) (f c : Cause ℕ) → (a : IsToldUnplain told i t f) → (b : IsToldUnplain told i u c) → a.stopped.turn ≡ b.stopped.turn
  pub one_cause : (i : Inputs) (t u : State) (f c : Cause ℕ) → IsToldUnplain told i t f → IsToldUnplain told i u c → f ≡ c
  pub asked : (i : Inputs) (t : State) (f : Cause ℕ) → (p : IsToldUnplain told i t f) → IsAsked (Leads (IsToldShelf told) (given_by i)) (IsToldNode told) p.own p.stopped.turn
  pub passed : (i : Inputs) (t u : State) (f : Cause ℕ) → IsToldPlain told i t → IsToldUnplain told i u f → ⊥
