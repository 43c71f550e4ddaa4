-- Where the projects and the packages of a lock stand.
use Rattle.std.specs.Prelude.{ℕ, List, [], ◌∷◌, ◌++◌, get_or, bytes_eq, codes, if◌then◌else◌}
use Rattle.pn_text.specs.Ids.{id_name}
use Rattle.pn_text.specs.Name.{modules, name_path}
use Rattle.pn_text.specs.Path.{Path, tail_of}
use Rattle.pn_deppath.specs.Folders.{folder_name}
use Rattle.pn_deppath.specs.Paths.{id_part}
use Rattle.pn_lock.specs.declared.goal.LockGoal.{LockGoal}
use Rattle.pn_lock.specs.declared.goal.LockGoal.TheVariants as goal
use Rattle.pn_lock.specs.Locks.{Locked, folders_of, paths_of}

-- a project's folder; the root's text is `.`
abbrev pub folder_of : Path → List ℕ → Path
folder_of root text = if bytes_eq text (codes ".") then root else tail_of text ++ root

-- its `node_modules`
abbrev pub modules_of : Path → List ℕ → Path
modules_of root text = modules ∷ folder_of root text

-- where the virtual store lies if nothing is said of it
abbrev pub default_store : Path → Path
default_store root = codes ".pnpm" ∷ modules ∷ root

-- the name of a dep path's package
abbrev pub name_of : List ℕ → List ℕ
name_of path = id_name (id_part path)

-- the package folder of a dep path that is among some
abbrev pub home_of : List (List ℕ) → Path → List ℕ → Path
home_of paths store path = name_path (name_of path) ++ modules ∷ folder_name paths path ∷ store

-- where a link leads to
abbrev pub goal_folder : Locked → Path → Path → LockGoal → Path
goal_folder l root store (goal.Importer n) = folder_of root (get_or (folders_of l.importers) n [])
goal_folder l root store (goal.Snapshot n) = home_of (paths_of l.snapshots) store (get_or (paths_of l.snapshots) n [])
