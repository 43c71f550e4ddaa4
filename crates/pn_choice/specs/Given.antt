-- What a plain graph is made from beside the registry: projects, and the packages of the old lockfile. Specifiers that ask for
-- projects and for entries of catalogs aren't built.
use Rattle.std.specs.Prelude.{ℕ, Bool, false, List, [], ◌∷◌, Option, Some, None, map}
use Rattle.semver.specs.Parse.{Parts}
use Rattle.pn_text.specs.Ids.{id_name, id_version, parts_text}
use Rattle.pn_manifest.specs.Said.{IsRisingSaid}
use Rattle.pn_manifest.specs.Says.{said_of}
use Rattle.pn_walk.specs.Wants.{Id}
use Rattle.pn_walk.specs.declared.wish.Wish.{Wish}
use Rattle.pn_walk.specs.Starts.{turns_from}
use Rattle.pn_walk.specs.Walks.{State, start}
use Rattle.pn_plain.specs.Given.{Held, Given, held_of}
use Rattle.pn_plain.specs.Plains.{Project, Inputs}
use Rattle.pn_plain.specs.Seen.{a_project, seen, counted, wishes_of}
use Rattle.pn_choice.specs.declared.project.ProjectAt.{ProjectAt}

abbrev pub folder_of : ProjectAt → List ℕ
folder_of p = p.folder

abbrev pub project_of : ProjectAt → Project
project_of p = record { folder = p.folder; said = said_of p.manifest }

-- its manifest's lists rise
abbrev pub IsRisingProject : ProjectAt → Type 0
IsRisingProject p = IsRisingSaid (said_of p.manifest)

-- what it asks for
abbrev pub asked_by : Bool → ProjectAt → List Wish
asked_by auto_peers p = wishes_of (counted auto_peers (seen a_project (said_of p.manifest)))

-- the walk begins with what the projects ask for
abbrev pub first : Bool → List ProjectAt → State
first auto_peers ps = start (turns_from 0 (map (asked_by auto_peers) ps))

abbrev pub held_before : List ℕ → Option Parts → List Held → List Held
held_before n None rest = rest
held_before n (Some v) rest = (n, v) ∷ rest

-- the versions of a name that a package's id is of
abbrev pub held_as : List ℕ → Id → List Parts
held_as name i = held_of name (held_before (id_name i) (parts_text (id_version i)) [])

-- the names and versions of packages
abbrev pub held_by : List Id → List Held
held_by [] = []
held_by (i ∷ is) = held_before (id_name i) (parts_text (id_version i)) (held_by is)

abbrev pub inputs_by : List ProjectAt → List Id → Bool → Inputs
inputs_by projects held auto_peers = record { projects = map project_of projects; held = held_by held; catalogs = []; spaces = false; auto_peers = auto_peers }

-- the same but for the projects, which no wish that is built leads to
abbrev pub given_of : List Id → Given
given_of held = record { held = held_by held; projects = []; catalogs = []; spaces = false }
