-- The plain graph of some inputs.
use Rattle.std.specs.Prelude.{◌≡◌, ℕ, suc, Bool, List, [], ◌∷◌, ◌++◌, map}
use Rattle.pn_walk.specs.declared.node.Node.{Node}
use Rattle.pn_walk.specs.declared.wish.Place.TheVariants.{Project as at_project}
use Rattle.pn_walk.specs.Wants.{Id}
use Rattle.pn_walk.specs.Walks.{Turn, State, turn_by, start, IsWalked, IsStopped}
use Rattle.pn_spec.specs.declared.entry.CatalogEntry.{CatalogEntry}
use Rattle.pn_published.specs.Shelves.{Shelf}
use Rattle.pn_plain.specs.Given.{Held, Named, Given}
use Rattle.pn_plain.specs.Aims.{Leads}
use Rattle.pn_plain.specs.Causes.{Cause, Refused}
use Rattle.pn_manifest.specs.Said.{Said}
use Rattle.pn_plain.specs.Seen.{Hook, Rules, a_project, a_package, IsSeen, counted, wishes_of}

-- a project by its folder and what its manifest says
pub record Project : Type 0 where
  pub folder : List ℕ
  pub said : Said

-- The inputs beside the registry: the projects in byte order of folders, what the old lockfile holds of what counts, the
-- catalogs, whether specifiers are built that ask for projects or entries, and whether peers are installed by themselves.
pub record Inputs : Type 0 where
  pub projects : List Project
  pub held : List Held
  pub catalogs : List CatalogEntry
  pub spaces : Bool
  pub auto_peers : Bool

abbrev pub named : Project → Named
named p = record { name = p.said.name; version = p.said.version }

abbrev pub given_by : Inputs → Given
given_by i = record { held = i.held; projects = map named i.projects; catalogs = i.catalogs; spaces = i.spaces }

-- The package of an id, by what its manifest is seen as.
pub record IsNode (manifest : Id → Said → Type 0) (hook : Hook) (rules : Rules) (n : Node) : Type 0 where
  pub said : Said
  pub says : manifest n.id said
  pub face : Said
  pub seen : IsSeen hook rules a_package said face
  pub wishes : n.wishes ≡ wishes_of face
  pub peers : n.peers ≡ face.peers

-- The edges of the projects from this place on, by what their manifests are seen as.
pub data AreStarts (hook : Hook) (rules : Rules) (auto_peers : Bool) : ℕ → List Project → List Turn → Type 0 where
  no_more : (k : ℕ) → AreStarts hook rules auto_peers k [] []
  one_more : (k : ℕ) (p : Project) (ps : List Project) (face : Said) (rest : List Turn) → IsSeen hook rules a_project p.said face → AreStarts hook rules auto_peers (suc k) ps rest
      → AreStarts hook rules auto_peers k (p ∷ ps) (map (turn_by (at_project k)) (wishes_of (counted auto_peers face)) ++ rest)

-- The state is that of the plain graph: all edges are taken.
pub record IsPlain (published : List ℕ → Shelf → Type 0) (manifest : Id → Said → Type 0) (hook : Hook) (rules : Rules) (i : Inputs) (t : State) : Type 0 where
  pub own : List Turn
  pub starts : AreStarts hook rules i.auto_peers 0 i.projects own
  pub walked : IsWalked (Leads published (given_by i)) (IsNode manifest hook rules) (start own) t

-- There is none: in this state the first edge that waits can't be taken.
pub record IsUnplain {F : Type 0} (published : List ℕ → Shelf → Type 0) (unpublished : List ℕ → F → Type 0) (manifest : Id → Said → Type 0) (unread : Id → F → Type 0) (hook : Hook) (rules : Rules) (i : Inputs) (t : State) (f : Cause F) : Type 0 where
  pub own : List Turn
  pub starts : AreStarts hook rules i.auto_peers 0 i.projects own
  pub stopped : IsStopped (Leads published (given_by i)) (IsNode manifest hook rules) (λ met e c. Refused published unpublished (IsNode manifest hook rules) unread (given_by i) met e c) (start own) t f
