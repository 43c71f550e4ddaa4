-- What a run asks of a lock by the manifests of its projects.
use Rattle.std.specs.Prelude.{◌≡◌, ℕ, ◌&&◌, Bool, not, List, map, filter}
use Rattle.std.specs.List.{AllZip}
use Rattle.pn_manifest.specs.Pairs.{names}
use Rattle.pn_manifest.specs.Said.{Said}
use Rattle.pn_spec.specs.declared.entry.CatalogEntry.{CatalogEntry}
use Rattle.pn_asked.specs.declared.asked.AskedProject.{AskedProject}
use Rattle.pn_asked.specs.Asked.{AskedLists}
use Rattle.pn_asked.specs.Rows.{Row, is_in}
use Rattle.pn_walk.specs.declared.wish.Wish.{Wish}
use Rattle.pn_plain.specs.Plains.{Project}
use Rattle.pn_plain.specs.Seen.{Hook, Rules, a_project, IsSeen, counted, seen, wishes_of}

abbrev pub row_of : Wish → Row
row_of w = (w.alias, w.specifier)

-- The map that a wish is of: the optional dependencies, those for development, whose names these are, or the others.
abbrev pub is_optional : Wish → Bool
is_optional w = w.optional

abbrev pub is_dev : List (List ℕ) → Wish → Bool
is_dev dev w = not w.optional && is_in dev w.alias

abbrev pub is_regular : List (List ℕ) → Wish → Bool
is_regular dev w = not w.optional && not (is_in dev w.alias)

abbrev pub rows_where : (Wish → Bool) → List Wish → List Row
rows_where test wishes = map row_of (filter test wishes)

-- what a project asks for by its seen manifest, each map in byte order of names
abbrev pub asked_project : Bool → List ℕ → Said → AskedProject
asked_project auto_peers folder face = record {
  folder = folder;
  dependencies = rows_where (is_regular (names face.dev)) (wishes_of (counted auto_peers face));
  dev = rows_where (is_dev (names face.dev)) (wishes_of (counted auto_peers face));
  optional = rows_where is_optional (wishes_of (counted auto_peers face));
}

-- the same without hooks and overrides
abbrev pub asked_by : Bool → Project → AskedProject
asked_by auto_peers p = asked_project auto_peers p.folder (seen a_project p.said)

-- What a project asks for, whatever hook and overrides make of its manifest.
pub record IsProjectOf (hook : Hook) (rules : Rules) (auto_peers : Bool) (p : Project) (q : AskedProject) : Type 0 where
  pub face : Said
  pub seen : IsSeen hook rules a_project p.said face
  pub is : q ≡ asked_project auto_peers p.folder face

pub record IsAskedOf (hook : Hook) (rules : Rules) (auto_peers : Bool) (overrides : List Row) (catalogs : List CatalogEntry) (projects : List Project) (a : AskedLists) : Type 0 where
  pub auto : a.auto ≡ auto_peers
  pub overrides_are : a.overrides ≡ overrides
  pub catalogs_are : a.catalogs ≡ catalogs
  pub projects_are : AllZip (IsProjectOf hook rules auto_peers) projects a.projects
