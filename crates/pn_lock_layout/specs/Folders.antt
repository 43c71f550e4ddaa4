-- The folders that links lead to.
use Rattle.std.specs.Prelude.{ℕ, nat_lt, List, ◌∷◌, ◌++◌, get_or, length, if◌then◌else◌}
use Rattle.pn_text.specs.declared.limits.TheConstants.{PATH_LIMIT}
use Rattle.pn_text.specs.Name.{modules, name_path}
use Rattle.pn_text.specs.Path.{Path, path_text}
use Rattle.pn_deppath.specs.Folders.{folder_name}
use Rattle.pn_lock.specs.declared.goal.LockGoal.{LockGoal}
use Rattle.pn_lock.specs.declared.goal.LockGoal.TheVariants as goal
use Rattle.pn_lock_layout.specs.declared.folders.Folders.{Folders}
use Rattle.pn_lock_layout.specs.Places.{name_of}

-- the package folder of a dep path, in a folder of that name
abbrev pub home_in : Path → List ℕ → List ℕ → Path
home_in store dir path = name_path (name_of path) ++ modules ∷ dir ∷ store

-- or the root in place of one whose path is too long
abbrev pub near_at : Path → Path → List ℕ → List ℕ → Path
near_at root store dir path = if nat_lt PATH_LIMIT (length (path_text (home_in store dir path))) then root else home_in store dir path

abbrev pub near_home : List (List ℕ) → Path → Path → List ℕ → Path
near_home paths root store path = near_at root store (folder_name paths path) path

-- the folder that was found for a project or a snapshot
abbrev pub found_folder : Folders → LockGoal → Path
found_folder f (goal.Importer n) = get_or f.importers.items n f.root
found_folder f (goal.Snapshot n) = get_or f.snapshots.items n f.root
