-- What a wish leads to. `published` says what the registry publishes under a name.
use Rattle.std.specs.Prelude.{◌≡◌, ℕ, Bool, true, List, Option, Some, None}
use Rattle.semver.specs.Parse.{Parts}
use Rattle.semver.specs.Identifiers.{parts_text as text_of_parts}
use Rattle.pn_spec.specs.declared.spec.Spec.{Spec}
use Rattle.pn_spec.specs.declared.want.Want.{Want}
use Rattle.pn_spec.specs.declared.workspace.WsWant.{WsWant}
use Rattle.pn_spec.specs.Forms.{IsSpec}
use Rattle.pn_text.specs.Ids.{id_text}
use Rattle.pn_walk.specs.declared.wish.Wish.{Wish}
use Rattle.pn_walk.specs.declared.wish.Aim.{Aim}
use Rattle.pn_walk.specs.declared.wish.Aim.TheVariants.{Project as to_project, Package as to_package}
use Rattle.pn_walk.specs.Wants.{Id}
use Rattle.pn_published.specs.Shelves.{Shelf}
use Rattle.pn_plain.specs.Given.{Given, held_of, version_of}
use Rattle.pn_plain.specs.Readings.{Reading, of_package, of_project, no_entry, not_built, reading, built, Bearer, one, nobody, two, bearer, bearing}

-- the package of a name and a version
abbrev pub id_at : List ℕ → Parts → Id
id_at n v = id_text n (text_of_parts v)

-- An optional wish without a version leads nowhere.
abbrev pub Found : List ℕ → Bool → Option Parts → Option Aim → Type 0
Found n optional None aim = (optional ≡ true) × (aim ≡ None)
Found n optional (Some v) aim = aim ≡ Some (to_package (id_at n v))

-- The version of a name that is chosen, or that there is none.
pub record Chooses (published : List ℕ → Shelf → Type 0) (g : Given) (n : List ℕ) (w : Want) (found : Option Parts) : Type 0 where
  pub shelf : Shelf
  pub shows : published n shelf
  pub is : found ≡ version_of shelf (held_of n g.held) w

-- An optional wish without a fitting project leads nowhere.
abbrev pub Borne : Bool → Bearer → Option Aim → Type 0
Borne optional (one k) aim = aim ≡ Some (to_project k)
Borne optional nobody aim = (optional ≡ true) × (aim ≡ None)
Borne optional (two k j) aim = ⊥

abbrev pub bearer_of : Given → List ℕ → WsWant → Bearer
bearer_of g n w = bearer g.projects w (bearing n 0 g.projects)

abbrev pub ReadingLeads : (List ℕ → Shelf → Type 0) → Given → Bool → Reading → Option Aim → Type 0
ReadingLeads published g optional (of_package n w) aim = (found : Option Parts) × Chooses published g n w found × Found n optional found aim
ReadingLeads published g optional (of_project n w) aim = Borne optional (bearer_of g n w) aim
ReadingLeads published g optional no_entry aim = ⊥
ReadingLeads published g optional not_built aim = ⊥

-- The specifier of a wish has this reading.
pub record Reads (g : Given) (w : Wish) (r : Reading) : Type 0 where
  pub spec : Spec
  pub says : IsSpec w.specifier spec
  pub is : r ≡ built g.spaces (reading g.catalogs w.alias spec)

abbrev pub LeadsBy : (List ℕ → Shelf → Type 0) → Given → Wish → Option Id → Option Aim → Type 0
LeadsBy published g w None aim = (r : Reading) × Reads g w r × ReadingLeads published g w.optional r aim
LeadsBy published g w (Some id) aim = aim ≡ Some (to_package id)

-- What a wish leads to; an automatic peer leads to its package.
abbrev pub Leads : (List ℕ → Shelf → Type 0) → Given → Wish → Option Aim → Type 0
Leads published g w aim = LeadsBy published g w w.chosen aim
