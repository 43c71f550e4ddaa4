-- Why there is no plain graph.
use Rattle.std.specs.Prelude.{Option}
use Rattle.pn_text.specs.declared.ids.Edge.{Edge}
use Rattle.pn_text.specs.Causes.{Rose}
use Rattle.pn_fs.specs.Seen.{Seen}
use Rattle.pn_fs.specs.Tree.{Tree}
use Rattle.pn_walk.specs.Edges.{IsEdgeOf}
use Rattle.pn_walk.specs.Walks.{State}
use Rattle.pn_walk.specs.declared.fault.WalkFault.{WalkFault}
use Rattle.pn_walk.specs.declared.fault.WalkFault.TheVariants.{Ways, Packages as TooMany, Memory as NoWalkMemory}
use Rattle.pn_plain.specs.Causes.{Cause, unsupported, unbuilt, registry, no_version, packages}
use Rattle.pn_plain.specs.Plains.{Inputs}
use Rattle.pn_choice.specs.Graphs.{IsUnplainOf, folders_of}
use Rattle.pn_choice.specs.declared.fault.RegistryLack.{RegistryLack}
use Rattle.pn_choice.specs.declared.way.WayFault.{WayFault}
use Rattle.pn_choice.specs.declared.way.WayFault.TheVariants.{Unsupported as WayUnsupported, Unbuilt as WayUnbuilt, NoVersion as WayNoVersion, Registry as WayRegistry, Fault as WayFailed, Memory as NoWayMemory}
use Rattle.pn_choice.specs.declared.fault.ChoiceFault.{ChoiceFault}
use Rattle.pn_choice.specs.declared.fault.ChoiceFault.TheVariants.{Unsupported, Unbuilt, NoVersion, Registry, Packages, Fault, Memory}

-- The walk stops, for this cause.
pub record Stops (r : Option Tree) (i : Inputs) (c : Cause RegistryLack) : Type 0 where
  pub state : State
  pub unplain : IsUnplainOf r i state c

-- It stops at this edge, for this cause.
pub record StopsAt (r : Option Tree) (i : Inputs) (c : Cause RegistryLack) (e : Edge) : Type 0 where
  pub state : State
  pub unplain : IsUnplainOf r i state c
  pub edge : IsEdgeOf (folders_of i) state.met unplain.stopped.turn e

-- The first edge that can't be taken has this cause.
abbrev pub Unplain : Inputs → Option Tree → ChoiceFault → Type 0
Unplain i r (Unsupported e) = StopsAt r i unsupported e
Unplain i r (Unbuilt e) = StopsAt r i unbuilt e
Unplain i r (NoVersion e) = StopsAt r i no_version e
Unplain i r (Registry lack) = Stops r i (registry lack)
Unplain i r (Packages n) = Stops r i (packages n)
Unplain i r Fault = ⊥
Unplain i r Memory = ⊥

-- the refusal that a walk's is
abbrev pub choice_of : WalkFault WayFault → ChoiceFault
choice_of (Ways e WayUnsupported) = Unsupported e
choice_of (Ways e WayUnbuilt) = Unbuilt e
choice_of (Ways e WayNoVersion) = NoVersion e
choice_of (Ways e (WayRegistry lack)) = Registry lack
choice_of (Ways e WayFailed) = Fault
choice_of (Ways e NoWayMemory) = Memory
choice_of (TooMany n) = Packages n
choice_of NoWalkMemory = Memory

-- A failed call, no memory, or a cause.
abbrev pub Refuses : (Option Tree → ChoiceFault → Type 0) → Seen → Seen → ChoiceFault → Type 0
Refuses Cause old new (Unsupported e) = Cause old.tree (Unsupported e)
Refuses Cause old new (Unbuilt e) = Cause old.tree (Unbuilt e)
Refuses Cause old new (NoVersion e) = Cause old.tree (NoVersion e)
Refuses Cause old new (Registry lack) = Cause old.tree (Registry lack)
Refuses Cause old new (Packages n) = Cause old.tree (Packages n)
Refuses Cause old new Fault = Rose old.faults new.faults
Refuses Cause old new Memory = Unit {0}
