-- What wishes lead to, and why they lead nowhere, rests on no projects where none is asked for.
use Rattle.std.proofs.Common.{◌≡◌, ℕ, Bool, false, List, Option, Some, None}
use Rattle.pn_fs.specs.Tree.{Tree}
use Rattle.pn_spec.specs.declared.want.Want.{Want}
use Rattle.pn_spec.specs.declared.workspace.WsWant.{WsWant}
use Rattle.pn_walk.specs.Wants.{Id}
use Rattle.pn_walk.specs.declared.wish.Wish.{Wish}
use Rattle.pn_walk.specs.declared.wish.Aim.{Aim}
use Rattle.pn_walk.specs.declared.node.Node.{Node}
use Rattle.pn_walk.specs.Walks.{Turn, State, Walk, ends, goes}
use Rattle.pn_plain.specs.Aims.{Chooses, Reads, ReadingLeads, LeadsBy as LeadsGiven}
use Rattle.pn_plain.specs.Causes.{Cause, unsupported, unbuilt, no_catalog, no_project, two_projects, registry, no_version, packages, NoVersion, ReadingRefused, Refused, no_form, no_aim}
use Rattle.pn_plain.specs.Given.{Given}
use Rattle.pn_plain.specs.Plains.{given_by}
use Rattle.pn_plain.specs.Readings.{Reading, of_package, of_project, no_entry, not_built, built}
use Rattle.pn_choice.specs.Given.{given_of, inputs_by}
use Rattle.pn_choice.specs.Shows.{Publishes, Unpublished, Unread, LeadsIn, IsNodeOf}
use Rattle.pn_choice.specs.Ways.{LeadsBy, IsLost, no_form as lost_form, no_aim as lost_aim}
use Rattle.pn_choice.specs.declared.fault.RegistryLack.{RegistryLack}
use Rattle.pn_choice.specs.declared.project.ProjectAt.{ProjectAt}

pub never_project : {C : Type 0} (n : List ℕ) (w : WsWant) (y : Reading) → of_project n w ≡ built false y → C
never_project n w (of_package m v) e = cc
never_project n w (of_project m v) e = cc
never_project n w no_entry e = cc
never_project n w not_built e = cc

abbrev given : List ProjectAt → List Id → Bool → Given
given ps held auto = given_by (inputs_by ps held auto)

reads_in : (ps : List ProjectAt) (held : List Id) (auto : Bool) (w : Wish) (x : Reading) → Reads (given_of held) w x → Reads (given ps held auto) w x
reads_in ps held auto w x h = record { spec = h.spec; says = h.says; is = h.is }

chooses_in : (r : Option Tree) (ps : List ProjectAt) (held : List Id) (auto : Bool) (n : List ℕ) (v : Want) (found : _) → Chooses (Publishes r) (given_of held) n v found → Chooses (Publishes r) (given ps held auto) n v found
chooses_in r ps held auto n v found h = record { shelf = h.shelf; shows = h.shows; is = h.is }

reading_in : (r : Option Tree) (ps : List ProjectAt) (held : List Id) (auto : Bool) (w : Wish) (x : Reading) (a : Option Aim) → Reads (given_of held) w x → ReadingLeads (Publishes r) (given_of held) w.optional x a
    → ReadingLeads (Publishes r) (given ps held auto) w.optional x a
reading_in r ps held auto w (of_package n v) a h k = (k.0, chooses_in r ps held auto n v k.0 k.1, k.2)
reading_in r ps held auto w (of_project n v) a h k = never_project n v _ h.is
reading_in r ps held auto w no_entry a h k = absurd k
reading_in r ps held auto w not_built a h k = absurd k

chosen_in : (r : Option Tree) (ps : List ProjectAt) (held : List Id) (auto : Bool) (w : Wish) (c : Option Id) (a : Option Aim) → LeadsGiven (Publishes r) (given_of held) w c a → LeadsGiven (Publishes r) (given ps held auto) w c a
chosen_in r ps held auto w None a h = (h.0, reads_in ps held auto w h.0 h.1, reading_in r ps held auto w h.0 a h.1 h.2)
chosen_in r ps held auto w (Some id) a h = h

pub leads_in : (r : Option Tree) (ps : List ProjectAt) (held : List Id) (auto : Bool) (w : Wish) (a : Option Aim) → LeadsBy r held w a → LeadsIn r (inputs_by ps held auto) w a
leads_in r ps held auto w a h = chosen_in r ps held auto w w.chosen a h

version_in : (r : Option Tree) (ps : List ProjectAt) (held : List Id) (auto : Bool) (o : Bool) (n : List ℕ) (v : Want) (c : Cause RegistryLack) → NoVersion (Publishes r) (Unpublished r) (given_of held) o n v c
    → NoVersion (Publishes r) (Unpublished r) (given ps held auto) o n v c
version_in r ps held auto o n v unsupported h = absurd h
version_in r ps held auto o n v unbuilt h = absurd h
version_in r ps held auto o n v no_catalog h = absurd h
version_in r ps held auto o n v no_project h = absurd h
version_in r ps held auto o n v (two_projects k j) h = absurd h
version_in r ps held auto o n v (registry x) h = h
version_in r ps held auto o n v no_version h = (chooses_in r ps held auto n v None h.0, h.1)
version_in r ps held auto o n v (packages m) h = absurd h

refusal_in : (r : Option Tree) (ps : List ProjectAt) (held : List Id) (auto : Bool) (w : Wish) (x : Reading) (c : Cause RegistryLack) → Reads (given_of held) w x → ReadingRefused (Publishes r) (Unpublished r) (given_of held) w.optional x c
    → ReadingRefused (Publishes r) (Unpublished r) (given ps held auto) w.optional x c
refusal_in r ps held auto w (of_package n v) c h k = version_in r ps held auto w.optional n v c k
refusal_in r ps held auto w (of_project n v) c h k = never_project n v _ h.is
refusal_in r ps held auto w no_entry c h k = k
refusal_in r ps held auto w not_built c h k = k

-- an edge whose wish leads nowhere is refused
pub lost_in : (r : Option Tree) (ps : List ProjectAt) (held : List Id) (auto : Bool) (met : List Node) (e : Turn) (c : Cause RegistryLack) → IsLost r held e.wish c
    → Refused (Publishes r) (Unpublished r) (IsNodeOf r) (Unread r) (given ps held auto) met e c
lost_in r ps held auto met e c (lost_form h k is) = no_form h k is
lost_in r ps held auto met e c (lost_aim h x reads k) = no_aim h x (reads_in ps held auto e.wish x reads) (refusal_in r ps held auto e.wish x c reads k)

-- Edges that are taken by one relation are taken by another that it implies.
pub walk_in : (leads leads' : Wish → Option Aim → Type 0) (node : Node → Type 0) → ((w : Wish) (a : Option Aim) → leads w a → leads' w a) → (t s : State) → Walk leads node t s → Walk leads' node t s
walk_in leads leads' node f t _ (ends s e) = ends s e
walk_in leads leads' node f t _ (goes s m v w) = goes s m (record {
  turn = v.turn;
  rest = v.rest;
  next = v.next;
  to = v.to;
  added = v.added;
  takes = record { aim = v.takes.aim; aims = f v.turn.wish v.takes.aim v.takes.aims; lands = v.takes.lands };
  is = v.is;
}) (walk_in leads leads' node f t m w)
