-- The integrities of the packages of a lock.
use Rattle.std.specs.Prelude.{◌≡◌, ℕ, List, [], length, map, slice_index_or, true}
use Rattle.std.specs.List.{AllByRecursion}
use Rattle.sha2.specs.Sha512.{sha512}
use Rattle.pn_digest.specs.Listing.{Entry, listing_text}
use Rattle.pn_lock.specs.Folders.{is_folder}
use Rattle.pn_asked.specs.declared.asked.AskedProject.{AskedProject}
use Rattle.pn_asked.specs.Asked.{AskedLists}
use Rattle.pn_graph.specs.declared.plain.Plain.{Plain}
use Rattle.pn_lock_make.specs.Made.{IsApart}
use Rattle.pn_lock_make.specs.Singles.{package_ids}
use Rattle.pn_lock_make.specs.Targets.{rank}
use Rattle.pn_wanted.specs.declared.wanted.Wanted.{Wanted}
use Rattle.pn_wanted.specs.Wanted.{ids_of}

-- the digests of the listings' texts
abbrev pub digests_of : List (List Entry) → List (List ℕ)
digests_of listings = map (λ (l : List Entry). sha512 (listing_text l)) listings

-- the digest at the place of an id
abbrev pub digest_at : List (List ℕ) → List (List ℕ) → List ℕ → List ℕ
digest_at ids digests id = slice_index_or digests (rank ids id) []

-- the integrity of each package of a graph, by the listings of those that are wanted
abbrev pub integrities_of : Plain → List Wanted → List (List Entry) → List (List ℕ)
integrities_of p wanted listings = map (digest_at (ids_of wanted) (digests_of listings)) (package_ids p.packages)

-- What is asked is asked for the projects of the graph.
pub record AreAsked (a : AskedLists) (p : Plain) : Type 0 where
  pub projects_count : length a.projects ≡ length p.projects
  pub folders : AllByRecursion (λ (q : AskedProject). is_folder q.folder ≡ true) a.projects
  pub apart : AllByRecursion IsApart a.projects
