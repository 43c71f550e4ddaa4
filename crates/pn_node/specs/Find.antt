-- Real paths, and what Node's lookup finds in a tree (Node.js, Modules page, "Loading from
-- node_modules folders", without global folders).
use Rattle.std.specs.Prelude.{ℕ, ◌==◌, ◌&&◌, List, [], ◌∷◌, ◌++◌, Option, Some, None, if◌then◌else◌, zero, suc}
use Rattle.std.specs.Str.{bytes_eq}
use Rattle.pn_text.specs.Path.{Path, parts_from}
use Rattle.pn_text.specs.Name.{modules}
use Rattle.pn_text.specs.Relative.{parent_of}
use Rattle.pn_fs.specs.Tree.{Entry, folder, file, link, Tree}

-- One step of a walk: to the parent, or to the entry with a name.
pub data Step : Type 0 where
  up : Step
  into : List ℕ → Step

-- A part of a link's text before these steps. The empty part and `.` count for nothing.
abbrev pub before_steps : List ℕ → List Step → List Step
before_steps [] steps = steps
before_steps (b ∷ []) steps = if b == 46 then steps else into (b ∷ []) ∷ steps
before_steps (b ∷ c ∷ []) steps = if (b == 46) && (c == 46) then up ∷ steps else into (b ∷ c ∷ []) ∷ steps
before_steps (b ∷ c ∷ d ∷ bs) steps = into (b ∷ c ∷ d ∷ bs) ∷ steps

-- the parts of a link's text before these steps
abbrev pub text_steps : Path → List Step → List Step
text_steps [] steps = steps
text_steps (x ∷ p) steps = text_steps p (before_steps x steps)

-- the parts of a path before these steps
abbrev pub path_steps : Path → List Step → List Step
path_steps [] steps = steps
path_steps (x ∷ p) steps = path_steps p (into x ∷ steps)

-- what is met at an entry: nothing, a folder, a file, a link with a text
abbrev pub at_entry : {X : Type 0} → Option Entry → X → X → X → (List ℕ → X) → X
at_entry None absent in_folder in_file in_link = absent
at_entry (Some folder) absent in_folder in_file in_link = in_folder
at_entry (Some (file bytes)) absent in_folder in_file in_link = in_file
at_entry (Some (link text)) absent in_folder in_file in_link = in_link text

-- a file has no further parts
abbrev pub at_file : Path → List Step → Option Path
at_file p [] = Some p
at_file p (s ∷ steps) = None

-- A link's text is read from the folder that holds the link, and from `/` where it begins with a
-- slash. An empty text leads nowhere. `again` walks on.
abbrev pub led : (Path → List Step → Option Path) → Path → List ℕ → List Step → Option Path
led again p [] steps = None
led again p (b ∷ bs) steps = again (if b == 47 then [] else p) (text_steps (parts_from [] (47 ∷ b ∷ bs)) steps)

-- These steps from a folder. `again` walks on behind a link.
abbrev pub walk_on : (Path → List Step → Option Path) → Tree → Path → List Step → Option Path
walk_on again t p [] = Some p
walk_on again t p (up ∷ steps) = walk_on again t (parent_of p) steps
walk_on again t p (into x ∷ steps) = at_entry (t (x ∷ p)) None (walk_on again t (x ∷ p) steps) (at_file (x ∷ p) steps) (λ text. led again p text steps)

-- these steps from a folder, over at most so many links
abbrev pub walk : ℕ → Tree → Path → List Step → Option Path
walk zero t = walk_on (λ p steps. None) t
walk (suc links) t = walk_on (walk links t) t

-- The real path, over at most 40 links, if there is one.
abbrev pub real : Tree → Path → Option Path
real t p = walk 40 t [] (path_steps p [])

-- The lookup folders of a folder (NODE_MODULES_PATHS): the `node_modules` of each folder from it up to
-- `/`, without those that are named `node_modules` themselves.
abbrev pub dirs : Path → List Path
dirs [] = (modules ∷ []) ∷ []
dirs (x ∷ p) = if bytes_eq x modules then dirs p else (modules ∷ x ∷ p) ∷ dirs p

-- this path where a folder stands there, else another answer
abbrev pub folder_or : Tree → Option Path → Option Path → Option Path
folder_or t None other = other
folder_or t (Some p) other = at_entry (t p) other (Some p) other (λ text. other)

-- the real path of a name in the first of these folders where that is a folder
abbrev pub find_in : Tree → List Path → Path → Option Path
find_in t [] name = None
find_in t (d ∷ ds) name = folder_or t (real t (name ++ d)) (find_in t ds name)

-- The package that a name finds from a folder that is its own real path.
abbrev pub find : Tree → Path → Path → Option Path
find t from name = find_in t (dirs from) name
