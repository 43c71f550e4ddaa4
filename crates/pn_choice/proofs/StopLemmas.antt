-- Where the walk stops, the inputs have no plain graph.
use Rattle.std.proofs.Common.{◌⊎◌, ℕ, Bool, List, Option, Some, inl, inr, map, subst, sym}
use Rattle.pn_text.specs.declared.ids.Edge.{Edge}
use Rattle.pn_fs.specs.Tree.{Tree}
use Rattle.pn_fs.specs.Seen.{Seen}
use Rattle.pn_walk.specs.Calls.{NotMet, EdgeRefused, StopsSomewhere, Stops as WalkStops, OnWays}
use Rattle.pn_walk.specs.Edges.{IsEdgeOf}
use Rattle.pn_walk.specs.Starts.{turns_from}
use Rattle.pn_walk.specs.Wants.{Id}
use Rattle.pn_walk.specs.declared.node.Node.{Node}
use Rattle.pn_walk.specs.declared.wish.Aim.TheVariants.{Package as to_package}
use Rattle.pn_walk.specs.Walks.{Turn, State, IsStopped}
use Rattle.pn_walk.specs.declared.fault.WalkFault.{WalkFault}
use Rattle.pn_walk.specs.declared.fault.WalkFault.TheVariants.{Ways, Packages, Memory as NoWalkMemory}
use Rattle.pn_plain.specs.Causes.{Cause, unsupported, unbuilt, registry, no_version, packages, Refused, not_met}
use Rattle.pn_plain.specs.Plains.{given_by}
use Rattle.pn_choice.specs.Given.{folder_of, asked_by, inputs_by, first}
use Rattle.pn_choice.specs.Graphs.{IsUnplainOf, folders_of}
use Rattle.pn_choice.specs.Refusals.{Stops, StopsAt, Refuses, Unplain, choice_of}
use Rattle.pn_choice.specs.Shows.{Publishes, Unpublished, Unread, LeadsIn, IsNodeOf}
use Rattle.pn_choice.specs.Ways.{LeadsBy, IsLost, Loses, IsUntold, Broke}
use Rattle.pn_choice.specs.declared.fault.RegistryLack.{RegistryLack}
use Rattle.pn_choice.specs.declared.project.ProjectAt.{ProjectAt}
use Rattle.pn_choice.specs.declared.way.WayFault.{WayFault}
use Rattle.pn_choice.specs.declared.way.WayFault.TheVariants.{Unsupported, Unbuilt, NoVersion, Registry, Fault, Memory}
use Rattle.pn_choice.proofs.LeadsLemmas.{leads_in, lost_in, walk_in}
use Rattle.pn_choice.proofs.StartLemmas.{starts, folders}

abbrev IsCause : Option Tree → List ProjectAt → List Id → Bool → List Node → Turn → Cause RegistryLack → Type 0
IsCause r ps held auto met e c = Refused (Publishes r) (Unpublished r) (IsNodeOf r) (Unread r) (given_by (inputs_by ps held auto)) met e c

-- the walk over what the sources know stops
abbrev HasStopped : Option Tree → List ProjectAt → List Id → Bool → State → WalkFault WayFault → Type 0
HasStopped r ps held auto end f = IsStopped (LeadsBy r held) (IsNodeOf r) (EdgeRefused (LeadsBy r held) (IsNodeOf r) (Loses r held) (IsUntold r) (map folder_of ps)) (first auto ps) end f

unplain : (r : Option Tree) (ps : List ProjectAt) (held : List Id) (auto : Bool) (f : WalkFault WayFault) (c : Cause RegistryLack) (end : State) → (s : HasStopped r ps held auto end f)
    → IsCause r ps held auto end.met s.turn c → IsUnplainOf r (inputs_by ps held auto) end c
unplain r ps held auto f c end s why = record {
  own = turns_from 0 (map (asked_by auto) ps);
  starts = starts auto ps;
  stopped = record {
    walk = walk_in (LeadsBy r held) (LeadsIn r (inputs_by ps held auto)) (IsNodeOf r) (leads_in r ps held auto) end (first auto ps) s.walk;
    turn = s.turn;
    rest = s.rest;
    next = s.next;
    why = why;
  };
}

at_folders : (ps : List ProjectAt) (held : List Id) (auto : Bool) (met : List Node) (e : Turn) (x : Edge) → IsEdgeOf (map folder_of ps) met e x → IsEdgeOf (folders_of (inputs_by ps held auto)) met e x
at_folders ps held auto met e x h = subst (λ (fs : List (List ℕ)). IsEdgeOf fs met e x) (sym (folders ps held auto)) h

-- a refusal of the ways that no package has
lost : (r : Option Tree) (held : List Id) (met : List Node) (e : Turn) (f : WayFault) (c : Cause RegistryLack) → (Loses r held e.wish f → IsLost r held e.wish c) → ((i : Id) → IsUntold r i f → ⊥)
    → (Loses r held e.wish f ⊎ NotMet (LeadsBy r held) met e.wish (λ i. IsUntold r i f)) → IsLost r held e.wish c
lost r held met e f c g none (inl h) = g h
lost r held met e f c g none (inr h) = absurd (none h.id h.why)

stops_at : (r : Option Tree) (ps : List ProjectAt) (held : List Id) (auto : Bool) (x : Edge) (f : WayFault) (c : Cause RegistryLack) → ((e : Turn) → Loses r held e.wish f → IsLost r held e.wish c) → ((i : Id) → IsUntold r i f → ⊥)
    → StopsSomewhere (LeadsBy r held) (IsNodeOf r) (Loses r held) (IsUntold r) (map folder_of ps) (first auto ps) (Ways x f) → StopsAt r (inputs_by ps held auto) c x
unfolding unplain
stops_at r ps held auto x f c g none h =
    let s = h.stopped in
    record {
      state = h.end;
      unplain = unplain r ps held auto (Ways x f) c h.end s (lost_in r ps held auto h.end.met s.turn c (lost r held h.end.met s.turn f c (g s.turn) none s.why.1));
      edge = at_folders ps held auto h.end.met s.turn x s.why.0;
    }

lacks : (r : Option Tree) (ps : List ProjectAt) (held : List Id) (auto : Bool) (met : List Node) (e : Turn) (lack : RegistryLack)
    → (Loses r held e.wish (Registry lack) ⊎ NotMet (LeadsBy r held) met e.wish (λ i. IsUntold r i (Registry lack))) → IsCause r ps held auto met e (registry lack)
lacks r ps held auto met e lack (inl h) = lost_in r ps held auto met e (registry lack) h
lacks r ps held auto met e lack (inr h) = not_met h.id (leads_in r ps held auto e.wish (Some (to_package h.id)) h.aims) h.fresh h.why

stops_lacking : (r : Option Tree) (ps : List ProjectAt) (held : List Id) (auto : Bool) (x : Edge) (lack : RegistryLack)
    → StopsSomewhere (LeadsBy r held) (IsNodeOf r) (Loses r held) (IsUntold r) (map folder_of ps) (first auto ps) (Ways x (Registry lack)) → Stops r (inputs_by ps held auto) (registry lack)
stops_lacking r ps held auto x lack h = record {
  state = h.end;
  unplain = unplain r ps held auto (Ways x (Registry lack)) (registry lack) h.end h.stopped (lacks r ps held auto h.end.met h.stopped.turn lack h.stopped.why.1);
}

stops_full : (r : Option Tree) (ps : List ProjectAt) (held : List Id) (auto : Bool) (n : ℕ)
    → StopsSomewhere (LeadsBy r held) (IsNodeOf r) (Loses r held) (IsUntold r) (map folder_of ps) (first auto ps) (Packages n) → Stops r (inputs_by ps held auto) (packages n)
stops_full r ps held auto n h =
    let s = h.stopped in
    let m = s.why.1 in
    record {
      state = h.end;
      unplain = unplain r ps held auto (Packages n) (packages n) h.end s (not_met m.id (leads_in r ps held auto s.turn.wish (Some (to_package m.id)) m.aims) m.fresh (s.why.0, m.why));
    }

-- The refusal of the walk is that of the inputs.
pub refuses : (ps : List ProjectAt) (held : List Id) (auto : Bool) (old new : Seen) (f : WalkFault WayFault)
    → WalkStops (LeadsBy old.tree held) (IsNodeOf old.tree) (Loses old.tree held) (IsUntold old.tree) (map folder_of ps) (first auto ps) f → OnWays (Broke old new) f
    → Refuses (λ r c. Unplain (inputs_by ps held auto) r c) old new (choice_of f)
refuses ps held auto old new (Ways x Unsupported) h b = stops_at old.tree ps held auto x Unsupported unsupported (λ e k. k) (λ i k. k) h
refuses ps held auto old new (Ways x Unbuilt) h b = stops_at old.tree ps held auto x Unbuilt unbuilt (λ e k. k) (λ i k. k) h
refuses ps held auto old new (Ways x NoVersion) h b = stops_at old.tree ps held auto x NoVersion no_version (λ e k. k) (λ i k. k) h
refuses ps held auto old new (Ways x (Registry lack)) h b = stops_lacking old.tree ps held auto x lack h
refuses ps held auto old new (Ways x Fault) h b = b
refuses ps held auto old new (Ways x Memory) h b = tt
refuses ps held auto old new (Packages n) h b = stops_full old.tree ps held auto n h
refuses ps held auto old new NoWalkMemory h b = tt
