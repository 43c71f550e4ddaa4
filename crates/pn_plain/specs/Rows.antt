-- Seen manifests, readings and choices, computed.
use Rattle.std.specs.Prelude.{◌≡◌, ℕ, Bool, true, false, List, [], ◌∷◌, Option, Some, None, codes, refl}
use Rattle.std.specs.Fmt.{digits}
use Rattle.semver.specs.Parse.{Parts, digits_from}
use Rattle.pn_ranges.specs.Limits.{Limit}
use Rattle.pn_ranges.specs.declared.bound.Comparison.TheVariants.{Below, AtLeast, Exactly}
use Rattle.pn_spec.specs.declared.entry.CatalogEntry.{CatalogEntry}
use Rattle.pn_spec.specs.declared.spec.Spec.{Spec}
use Rattle.pn_spec.specs.declared.spec.Spec.TheVariants as spec
use Rattle.pn_spec.specs.declared.want.Want.{Want}
use Rattle.pn_spec.specs.declared.want.Want.TheVariants as want
use Rattle.pn_spec.specs.declared.workspace.WsWant.TheVariants as ws
use Rattle.pn_published.specs.Shelves.{Shelf, shelf_with}
use Rattle.pn_manifest.specs.declared.peers.Peer.{Peer}
use Rattle.pn_plain.specs.Aims.{id_at}
use Rattle.pn_plain.specs.Given.{Named, held_of, version_of}
use Rattle.pn_plain.specs.Readings.{of_package, of_project, no_entry, not_built, reading, built, one, nobody, two, bearing, bearer}
use Rattle.pn_manifest.specs.Pairs.{Pair}
use Rattle.pn_manifest.specs.Said.{Said}
use Rattle.pn_plain.specs.Seen.{a_project, a_package, no_hook, IsSeen, seen, counted, wish, wishes_of}

-- a manifest with these dependencies and peers
abbrev pub said_with : Option (List ℕ) → List Pair → List Pair → List Pair → List Peer → Said
said_with name dependencies dev optional peers = record {
  name = name;
  version = None;
  dependencies = dependencies;
  dev = dev;
  optional = optional;
  peers = peers;
  scripts = [];
  bins = [];
  injected = [];
  overrides = [];
}

abbrev pub peer : List ℕ → Bool → Peer
peer name optional = record { name = name; text = codes "*"; optional = optional }

-- A name in two maps, in three, and under `devDependencies` alone; the manifest's own name; a peer that is a dependency.
abbrev pub mixed : Said
mixed = said_with (Some (codes "foo"))
    ((codes "a", codes "1") ∷ (codes "b", codes "1") ∷ (codes "foo", codes "1") ∷ [])
    ((codes "a", codes "3") ∷ (codes "b", codes "3") ∷ (codes "c", codes "3") ∷ [])
    ((codes "a", codes "2") ∷ [])
    (peer (codes "b") false ∷ peer (codes "c") false ∷ peer (codes "foo") false ∷ peer (codes "p") false ∷ [])

pub of_project_row : seen a_project mixed ≡ said_with (Some (codes "foo")) ((codes "b", codes "1") ∷ []) ((codes "c", codes "3") ∷ []) ((codes "a", codes "2") ∷ []) (peer (codes "p") false ∷ [])
of_project_row = refl

-- `devDependencies` of a package don't count, so c is no dependency of it.
pub of_package_row : seen a_package mixed ≡ said_with (Some (codes "foo")) ((codes "b", codes "1") ∷ []) [] ((codes "a", codes "2") ∷ []) (peer (codes "c") false ∷ peer (codes "p") false ∷ [])
of_package_row = refl

-- An override that removes b leaves no peer b.
abbrev pub without_b : Said → Said → Type 0
without_b m s = s ≡ record m { dependencies = [] }

abbrev pub b_removed : Said
b_removed = said_with (Some (codes "foo")) [] [] ((codes "a", codes "2") ∷ []) (peer (codes "c") false ∷ peer (codes "p") false ∷ [])

pub removed_row : IsSeen no_hook without_b a_package mixed b_removed
removed_row = record { overridden = _; by_rules = refl; is = refl }

-- aliases in byte order, whatever their map
pub wishes_row : wishes_of (seen a_project mixed) ≡ wish true (codes "a", codes "2") ∷ wish false (codes "b", codes "1") ∷ wish false (codes "c", codes "3") ∷ []
wishes_row = refl

-- a project's peers where they are installed by themselves: one that it requires, one that is optional
abbrev pub with_peers : Said
with_peers = said_with None ((codes "q", codes "1") ∷ []) [] [] (peer (codes "o") true ∷ peer (codes "p") false ∷ [])

pub counted_row : wishes_of (counted true with_peers) ≡ wish false (codes "p", codes "*") ∷ wish false (codes "q", codes "1") ∷ []
counted_row = refl

pub uncounted_row : wishes_of (counted false with_peers) ≡ wish false (codes "q", codes "1") ∷ []
uncounted_row = refl

-- versions
abbrev pub release : ℕ → ℕ → ℕ → Parts
release a b c = (a, b, c, [], [])

abbrev pub at_least : ℕ → ℕ → ℕ → List ℕ → Limit
at_least a b c pre = record { comparison = AtLeast; major = a; minor = b; patch = c; pre = pre }

abbrev pub below : ℕ → ℕ → ℕ → List ℕ → Limit
below a b c pre = record { comparison = Below; major = a; minor = b; patch = c; pre = pre }

-- `^0.0.3` over 0.0.3, 0.0.4-0 and 0.0.4
pub caret_row : version_of (shelf_with (release 0 0 3 ∷ (0, 0, 4, codes "0", []) ∷ release 0 0 4 ∷ []) []) [] (want.Range ((at_least 0 0 3 [] ∷ below 0 0 4 (codes "0") ∷ []) ∷ [])) ≡ Some (release 0 0 3)
caret_row = refl

-- `>=2.0.0-rc.1` over 2.0.0-rc.2 and 2.1.0-rc.1, and over the second alone
pub prerelease_row : version_of (shelf_with ((2, 0, 0, codes "rc.2", []) ∷ (2, 1, 0, codes "rc.1", []) ∷ []) []) [] (want.Range ((at_least 2 0 0 (codes "rc.1") ∷ []) ∷ [])) ≡ Some (2, 0, 0, codes "rc.2", [])
prerelease_row = refl

pub other_prerelease_row : version_of (shelf_with ((2, 1, 0, codes "rc.1", []) ∷ []) []) [] (want.Range ((at_least 2 0 0 (codes "rc.1") ∷ []) ∷ [])) ≡ None
other_prerelease_row = refl

-- `^1.0.0` over 1.0.0, 1.1.0 and 1.2.0, where `tags.json` is {"latest":"1.1.0"}
abbrev pub three : Shelf
three = shelf_with (release 1 0 0 ∷ release 1 1 0 ∷ release 1 2 0 ∷ []) ((codes "latest", codes "1.1.0") ∷ (codes "old", codes "1.0.0") ∷ (codes "gone", codes "0.1.0") ∷ [])

abbrev pub exactly_one : List (List Limit)
exactly_one = (record { comparison = Exactly; major = 1; minor = 0; patch = 0; pre = [] } ∷ []) ∷ []

abbrev pub caret_one : Want
caret_one = want.Range ((at_least 1 0 0 [] ∷ below 2 0 0 (codes "0") ∷ []) ∷ [])

pub latest_row : version_of three [] caret_one ≡ Some (release 1 1 0)
unfolding digits_from
latest_row = refl

pub held_row : version_of three (release 1 0 0 ∷ []) caret_one ≡ Some (release 1 0 0)
held_row = refl

-- a tag means its own version, and none where that isn't published; what is held doesn't count
pub tag_row : version_of three (release 1 2 0 ∷ []) (want.Tag (codes "old")) ≡ Some (release 1 0 0)
unfolding digits_from
tag_row = refl

pub latest_tag_row : version_of three (release 1 2 0 ∷ []) (want.Tag (codes "latest")) ≡ Some (release 1 1 0)
unfolding digits_from
latest_tag_row = refl

pub gone_tag_row : version_of three [] (want.Tag (codes "gone")) ≡ None
unfolding digits_from
gone_tag_row = refl

-- without the tag `latest`: the greatest version without a pre-release, else the greatest
pub untagged_row : version_of (shelf_with (release 1 0 0 ∷ (2, 0, 0, codes "rc", []) ∷ []) []) [] (want.Tag (codes "latest")) ≡ Some (release 1 0 0)
untagged_row = refl

pub only_prereleases_row : version_of (shelf_with ((2, 0, 0, codes "rc", []) ∷ []) []) [] (want.Tag (codes "latest")) ≡ Some (2, 0, 0, codes "rc", [])
only_prereleases_row = refl

-- `npm:b@^1.0.0` under the alias c is of b, and `^1.0.0` of c
pub alias_row : reading [] (codes "c") (spec.Alias (codes "b") caret_one) ≡ of_package (codes "b") caret_one
alias_row = refl

pub range_row : reading [] (codes "c") (spec.Range exactly_one) ≡ of_package (codes "c") (want.Range exactly_one)
range_row = refl

-- `workspace:^` is of the project of the alias's name, and `workspace:b@^` of b
pub workspace_row : reading [] (codes "c") (spec.Workspace (record { name = None; want = ws.Caret })) ≡ of_project (codes "c") ws.Caret
workspace_row = refl

pub named_workspace_row : reading [] (codes "c") (spec.Workspace (record { name = Some (codes "b"); want = ws.Caret })) ≡ of_project (codes "b") ws.Caret
named_workspace_row = refl

-- `catalog:k` is what the catalog k has under the alias
abbrev pub entry : List ℕ → List ℕ → Spec → CatalogEntry
entry catalog name spec = record { catalog = catalog; name = name; text = []; spec = spec }

abbrev pub catalogs : List CatalogEntry
catalogs = entry (codes "default") (codes "c") (spec.Tag (codes "next")) ∷ entry (codes "k") (codes "b") (spec.Range exactly_one)
    ∷ entry (codes "k") (codes "c") (spec.Alias (codes "b") (want.Tag (codes "rc"))) ∷ []

pub catalog_row : reading catalogs (codes "c") (spec.Catalog (codes "k")) ≡ of_package (codes "b") (want.Tag (codes "rc"))
catalog_row = refl

pub default_catalog_row : reading catalogs (codes "c") (spec.Catalog (codes "default")) ≡ of_package (codes "c") (want.Tag (codes "next"))
default_catalog_row = refl

-- where projects and catalogs aren't built
pub unbuilt_row : built false (reading catalogs (codes "b") (spec.Catalog (codes "default"))) ≡ not_built
unbuilt_row = refl

pub no_catalog_row : reading catalogs (codes "b") (spec.Catalog (codes "default")) ≡ no_entry
no_catalog_row = refl

-- the versions of b that are held
pub held_of_row : held_of (codes "b") ((codes "a", release 1 0 0) ∷ (codes "b", release 2 0 0) ∷ (codes "b", release 3 0 0) ∷ []) ≡ release 2 0 0 ∷ release 3 0 0 ∷ []
held_of_row = refl

-- an id is the text of its name and version
pub id_row : id_at (codes "@s/b") (1, 0, 0, codes "rc.1", codes "x") ≡ codes "@s/b@1.0.0-rc.1+x"
unfolding digits
id_row = refl

-- projects named a, b, b and none
abbrev pub four : List Named
four = record { name = Some (codes "a"); version = Some (release 1 0 0) } ∷ record { name = Some (codes "b"); version = None }
    ∷ record { name = Some (codes "b"); version = None } ∷ record { name = None; version = None } ∷ []

pub bearer_row : bearer four ws.Any (bearing (codes "a") 0 four) ≡ one 0
bearer_row = refl

pub unfit_row : bearer four (ws.Range ((at_least 2 0 0 [] ∷ []) ∷ [])) (bearing (codes "a") 0 four) ≡ nobody
unfit_row = refl

pub two_row : bearer four ws.Caret (bearing (codes "b") 0 four) ≡ two 1 2
two_row = refl

pub no_bearer_row : bearer four ws.Tilde (bearing (codes "z") 0 four) ≡ nobody
no_bearer_row = refl

-- `*` takes a project without a version
pub any_row : bearer (record { name = Some (codes "b"); version = None } ∷ []) ws.Any (bearing (codes "b") 0 (record { name = Some (codes "b"); version = None } ∷ [])) ≡ one 0
any_row = refl
