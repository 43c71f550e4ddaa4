-- Why an edge is refused.
use Rattle.std.specs.Prelude.{◌≡◌, ◌+◌, ℕ, Bool, false, List, Some, None}
use Rattle.pn_text.specs.declared.limits.TheConstants.{PACKAGE_LIMIT}
use Rattle.pn_spec.specs.Refusals.{FitsNoForm}
use Rattle.pn_spec.specs.SpecTexts.{trimmed}
use Rattle.pn_spec.specs.declared.want.Want.{Want}
use Rattle.pn_walk.specs.declared.node.Node.{Node}
use Rattle.pn_walk.specs.declared.wish.Aim.TheVariants.{Package as to_package}
use Rattle.pn_walk.specs.Calls.{IsFull}
use Rattle.pn_walk.specs.Wants.{Id}
use Rattle.pn_walk.specs.Walks.{Turn, place_of}
use Rattle.pn_published.specs.Shelves.{Shelf}
use Rattle.pn_plain.specs.Given.{Given}
use Rattle.pn_plain.specs.Readings.{Reading, of_package, of_project, no_entry, not_built, Bearer, nobody, two}
use Rattle.pn_plain.specs.Aims.{Chooses, Reads, Leads, bearer_of}

-- A specifier that has no form, or one that isn't built; an entry that its catalog lacks; no fitting project; two projects of the name, at these
-- places; what the registry answers in place of versions or of a manifest, an F; no version; that many packages.
pub data Cause (F : Type 0) : Type 0 where
  unsupported : Cause F
  unbuilt : Cause F
  no_catalog : Cause F
  no_project : Cause F
  two_projects : ℕ → ℕ → Cause F
  registry : F → Cause F
  no_version : Cause F
  packages : ℕ → Cause F

-- What the registry shows, or doesn't: the versions of a name, and the package of an id.
pub record Shown {F : Type 0} (published : List ℕ → Shelf → Type 0) (unpublished : List ℕ → F → Type 0) (node : Node → Type 0) (unread : Id → F → Type 0) : Type 0 where
  pub one_shelf : (n : List ℕ) (p q : Shelf) → published n p → published n q → p ≡ q
  pub one_gap : (n : List ℕ) (x y : F) → unpublished n x → unpublished n y → x ≡ y
  pub no_gap : (n : List ℕ) (p : Shelf) (x : F) → published n p → unpublished n x → ⊥
  pub one_node : (m n : Node) → node m → node n → m.id ≡ n.id → m ≡ n
  pub one_fault : (i : Id) (x y : F) → unread i x → unread i y → x ≡ y
  pub no_fault : (m : Node) (x : F) → node m → unread m.id x → ⊥

-- The name has no version that is wanted, or its versions aren't shown.
abbrev pub NoVersion : {F : Type 0} → (List ℕ → Shelf → Type 0) → (List ℕ → F → Type 0) → Given → Bool → List ℕ → Want → Cause F → Type 0
NoVersion published unpublished g optional n w unsupported = ⊥
NoVersion published unpublished g optional n w unbuilt = ⊥
NoVersion published unpublished g optional n w no_catalog = ⊥
NoVersion published unpublished g optional n w no_project = ⊥
NoVersion published unpublished g optional n w (two_projects k j) = ⊥
NoVersion published unpublished g optional n w (registry x) = unpublished n x
NoVersion published unpublished g optional n w no_version = Chooses published g n w None × (optional ≡ false)
NoVersion published unpublished g optional n w (packages c) = ⊥

-- No project fits, or two bear the name.
abbrev pub NoProject : {F : Type 0} → Bool → Bearer → Cause F → Type 0
NoProject optional b unsupported = ⊥
NoProject optional b unbuilt = ⊥
NoProject optional b no_catalog = ⊥
NoProject optional b no_project = (b ≡ nobody) × (optional ≡ false)
NoProject optional b (two_projects k j) = b ≡ two k j
NoProject optional b (registry x) = ⊥
NoProject optional b no_version = ⊥
NoProject optional b (packages c) = ⊥

abbrev pub ReadingRefused : {F : Type 0} → (List ℕ → Shelf → Type 0) → (List ℕ → F → Type 0) → Given → Bool → Reading → Cause F → Type 0
ReadingRefused published unpublished g optional (of_package n w) f = NoVersion published unpublished g optional n w f
ReadingRefused published unpublished g optional (of_project n w) f = NoProject optional (bearer_of g n w) f
ReadingRefused published unpublished g optional no_entry f = f ≡ no_catalog
ReadingRefused published unpublished g optional not_built f = f ≡ unbuilt

-- A package that is met for the first time can't be read, or finds no room.
abbrev pub NotMet : {F : Type 0} → (Node → Type 0) → (Id → F → Type 0) → List Node → Id → Cause F → Type 0
NotMet node unread met id unsupported = ⊥
NotMet node unread met id unbuilt = ⊥
NotMet node unread met id no_catalog = ⊥
NotMet node unread met id no_project = ⊥
NotMet node unread met id (two_projects k j) = ⊥
NotMet node unread met id (registry x) = unread id x
NotMet node unread met id no_version = ⊥
NotMet node unread met id (packages c) = (c ≡ PACKAGE_LIMIT + 1) × IsFull node met id

-- Why an edge isn't taken where these packages were met.
pub data Refused {F : Type 0} (published : List ℕ → Shelf → Type 0) (unpublished : List ℕ → F → Type 0) (node : Node → Type 0) (unread : Id → F → Type 0) (g : Given) (met : List Node) (e : Turn) (f : Cause F) : Type 0 where
  no_form : e.wish.chosen ≡ None → FitsNoForm (trimmed e.wish.specifier) → f ≡ unsupported → Refused published unpublished node unread g met e f
  no_aim : e.wish.chosen ≡ None → (r : Reading) → Reads g e.wish r → ReadingRefused published unpublished g e.wish.optional r f → Refused published unpublished node unread g met e f
  not_met : (id : Id) → Leads published g e.wish (Some (to_package id)) → place_of id met ≡ None → NotMet node unread met id f → Refused published unpublished node unread g met e f
