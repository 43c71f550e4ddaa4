-- Small plain graphs. Of the name a no version is published, and of each other name 1.0.0. The packages b, x and y can be
-- read, and x and y depend on each other.
use Rattle.std.specs.Prelude.{ℕ, Bool, true, false, List, [], ◌∷◌, map, Option, Some, None, Result, Ok, Err, if◌then◌else◌, codes}
use Rattle.std.specs.Str.{bytes_eq}
use Rattle.pn_walk.specs.declared.node.Node.{Node}
use Rattle.pn_walk.specs.declared.wish.Place.{Place}
use Rattle.pn_walk.specs.declared.wish.Place.TheVariants.{Project as at_project, Package as at_package}
use Rattle.pn_walk.specs.Wants.{Id}
use Rattle.pn_walk.specs.Walks.{Turn, Link, turn_by}
use Rattle.pn_published.specs.Shelves.{Shelf, shelf_with}
use Rattle.pn_plain.specs.Causes.{unsupported, no_version, no_catalog, no_project, two_projects, registry}
use Rattle.pn_plain.specs.Plains.{Inputs}
use Rattle.pn_plain.specs.Rows.{said_with, release}
use Rattle.pn_manifest.specs.Pairs.{Pair}
use Rattle.pn_manifest.specs.Said.{Said}
use Rattle.pn_plain.specs.Seen.{no_hook, wish}
use Rattle.pn_plain.specs.Told.{Told, IsToldPlain, IsToldUnplain}

abbrev pub one_version : Shelf
one_version = shelf_with (release 1 0 0 ∷ []) []

abbrev pub no_versions : Shelf
no_versions = shelf_with [] []

abbrev pub shelf_of : List ℕ → Result Shelf ℕ
shelf_of n = if bytes_eq n (codes "a") then Ok no_versions else Ok one_version

-- the manifest of a package with these dependencies
abbrev pub said_of : List ℕ → List Pair → Said
said_of name dependencies = said_with (Some name) dependencies [] [] []

abbrev pub latest_of : List ℕ → Pair
latest_of n = (n, codes "latest")

abbrev pub manifest_of : Id → Result Said ℕ
manifest_of i =
    if bytes_eq i (codes "b@1.0.0") then Ok (said_of (codes "b") [])
    else if bytes_eq i (codes "x@1.0.0") then Ok (said_of (codes "x") (latest_of (codes "y") ∷ []))
    else if bytes_eq i (codes "y@1.0.0") then Ok (said_of (codes "y") (latest_of (codes "x") ∷ []))
    else Err 1

abbrev pub small : Told
small = record { shelf = shelf_of; manifest = manifest_of; hook = no_hook; overridden = λ m. Some m }

-- one project w with these dependencies and optional dependencies, nothing held and no catalogs
abbrev pub asks : List Pair → List Pair → Inputs
asks dependencies optional = record {
  projects = record { folder = codes "."; said = said_with (Some (codes "w")) dependencies [] optional [] } ∷ [];
  held = [];
  catalogs = [];
  spaces = true;
  auto_peers = false;
}

abbrev pub asked : Bool → List ℕ → List ℕ → Turn
asked optional alias specifier = turn_by (at_project 0) (wish optional (alias, specifier))

abbrev pub link_to : Turn → Option Place → Link
link_to turn to = record { turn = turn; to = to }

abbrev pub met_with : List ℕ → List Pair → Node
met_with id dependencies = record { id = id; wishes = map (wish false) dependencies; peers = [] }

abbrev pub b_met : Node
b_met = met_with (codes "b@1.0.0") []

abbrev pub x_met : Node
x_met = met_with (codes "x@1.0.0") (latest_of (codes "y") ∷ [])

abbrev pub y_met : Node
y_met = met_with (codes "y@1.0.0") (latest_of (codes "x") ∷ [])

-- three projects, of which two are named v, and the first may depend on v
abbrev pub twins : Inputs
twins = record {
  projects = record { folder = codes "."; said = said_with (Some (codes "w")) [] [] ((codes "v", codes "workspace:^") ∷ []) [] }
      ∷ record { folder = codes "p"; said = said_of (codes "v") [] } ∷ record { folder = codes "q"; said = said_of (codes "v") [] } ∷ [];
  held = [];
  catalogs = [];
  spaces = true;
  auto_peers = false;
}

pub record GraphRows : Type 0 where
  -- c is `npm:b@latest`, and so is d; the dependency under the project's own name is dropped
  pub alias : IsToldPlain small (asks ((codes "c", codes "npm:b@latest") ∷ (codes "d", codes "npm:b@latest") ∷ (codes "w", codes "catalog:") ∷ []) [])
      (record {
        todo = [];
        met = b_met ∷ [];
        links = link_to (asked false (codes "c") (codes "npm:b@latest")) (Some (at_package 0)) ∷ link_to (asked false (codes "d") (codes "npm:b@latest")) (Some (at_package 0)) ∷ [];
      })
  -- a has no version, and b's catalog no entry: the first edge is refused
  pub first : IsToldUnplain small (asks ((codes "a", codes "latest") ∷ (codes "b", codes "catalog:") ∷ []) [])
      (record { todo = asked false (codes "a") (codes "latest") ∷ asked false (codes "b") (codes "catalog:") ∷ []; met = []; links = [] }) no_version
  -- where a is optional it is absent
  pub absent : IsToldPlain small (asks [] ((codes "a", codes "latest") ∷ []))
      (record { todo = []; met = []; links = link_to (asked true (codes "a") (codes "latest")) None ∷ [] })
  -- and the next edge is refused
  pub next : IsToldUnplain small (asks ((codes "b", codes "catalog:") ∷ []) ((codes "a", codes "latest") ∷ []))
      (record { todo = asked false (codes "b") (codes "catalog:") ∷ []; met = []; links = link_to (asked true (codes "a") (codes "latest")) None ∷ [] }) no_catalog
  -- the project itself is no project named p
  pub project : IsToldUnplain small (asks ((codes "p", codes "workspace:*") ∷ []) [])
      (record { todo = asked false (codes "p") (codes "workspace:*") ∷ []; met = []; links = [] }) no_project
  -- but it is the one named w
  pub itself : IsToldPlain small (asks ((codes "p", codes "workspace:w@^") ∷ []) [])
      (record { todo = []; met = []; links = link_to (asked false (codes "p") (codes "workspace:w@^")) (Some (at_project 0)) ∷ [] })
  -- an optional edge without a fitting project is absent
  pub nowhere : IsToldPlain small (asks [] ((codes "p", codes "workspace:*") ∷ []))
      (record { todo = []; met = []; links = link_to (asked true (codes "p") (codes "workspace:*")) None ∷ [] })
  -- but not one with two
  pub two : IsToldUnplain small twins (record { todo = asked true (codes "v") (codes "workspace:^") ∷ []; met = []; links = [] }) (two_projects 1 2)
  -- a package is read at the edge that meets it first
  pub unread : IsToldUnplain small (asks (latest_of (codes "e") ∷ (codes "f", codes "catalog:") ∷ []) [])
      (record { todo = asked false (codes "e") (codes "latest") ∷ asked false (codes "f") (codes "catalog:") ∷ []; met = []; links = [] }) (registry 1)
  -- a specifier without a form is refused, optional or not
  pub formless : IsToldUnplain small (asks [] ((codes "a", codes "git+ssh://h/r") ∷ []))
      (record { todo = asked true (codes "a") (codes "git+ssh://h/r") ∷ []; met = []; links = [] }) unsupported
  -- the project's edges are taken before those of packages, and a package that was met isn't met again
  pub order : IsToldPlain small (asks ((codes "c", codes "npm:x@latest") ∷ (codes "d", codes "npm:b@latest") ∷ []) [])
      (record {
        todo = [];
        met = x_met ∷ b_met ∷ y_met ∷ [];
        links = link_to (asked false (codes "c") (codes "npm:x@latest")) (Some (at_package 0))
            ∷ link_to (asked false (codes "d") (codes "npm:b@latest")) (Some (at_package 1))
            ∷ link_to (turn_by (at_package 0) (wish false (latest_of (codes "y")))) (Some (at_package 2))
            ∷ link_to (turn_by (at_package 2) (wish false (latest_of (codes "x")))) (Some (at_package 0)) ∷ [];
      })
