-- Where the virtual store lies.
use Rattle.std.specs.Prelude.{◌≡◌, ◌<◌, ◌≤◌, ℕ, List, [], ◌∷◌, length, Bool, true, false, not, ◌&&◌, ◌||◌, codes}
use Rattle.std.specs.List.{list_any}
use Rattle.std.specs.Str.{bytes_eq}
use Rattle.pn_text.specs.declared.limits.TheConstants.{PATH_LIMIT}
use Rattle.pn_text.specs.Path.{Path, same_path, path_text}
use Rattle.pn_draft.specs.Drawing.{is_within}
use Rattle.pn_config.specs.Folders.{resolved}
use Rattle.pn_workspace.specs.declared.fault.StoreFault.{StoreFault}
use Rattle.pn_workspace.specs.declared.fault.StoreFault.TheVariants as fault
use Rattle.pn_workspace.specs.declared.search.Workspace.{Workspace}

abbrev pub modules_name : List ℕ
modules_name = codes "node_modules"

-- the place where it lies if the settings say nothing
abbrev pub default_store : Path → Path
default_store root = codes ".pnpm" ∷ modules_name ∷ root

-- whether a path's last part is this name
abbrev pub is_named : List ℕ → Path → Bool
is_named name [] = false
is_named name (x ∷ p) = bytes_eq x name

-- Whether a project is in the store's way: the store would be the project's folder or one above it, or lie in the project's
-- `node_modules` without being the default.
abbrev pub is_in_way : Bool → Path → Path → Bool
is_in_way is_default store project = is_within store project || (is_within (modules_name ∷ project) store && not is_default)

-- Whether it may not lie there: named `node_modules`; at or below the lockfile, or one of the files that stand for the lockfile
-- and the manifest while they are replaced; or where a project is in its way.
abbrev pub is_misplaced : Path → Path → List Path → Path → Bool
is_misplaced root place projects store =
    is_named modules_name store
    || (is_within (codes "pnpm-lock.yaml" ∷ root) store
    || (is_within (codes "pnpm-lock.yaml.pnpm-rs" ∷ root) store
    || (is_within (codes "package.json.pnpm-rs" ∷ place) store
    || list_any (is_in_way (same_path store (default_store root)) store) projects)))

-- where the setting leads to
abbrev pub store_of : Workspace → Path
store_of w = resolved w.config.virtual_text w.root

-- The place of the virtual store: its path isn't too long, and nothing else lies there.
pub record IsPlaced (w : Workspace) (place : Path) (projects : List Path) (p : Path) : Type 0 where
  pub is : p ≡ store_of w
  pub fits : length (path_text (store_of w)) ≤ PATH_LIMIT
  pub free : is_misplaced w.root place projects (store_of w) ≡ false

-- why it has none
abbrev pub NoPlace : Workspace → Path → List Path → StoreFault → Type 0
NoPlace w place projects fault.Long = PATH_LIMIT < length (path_text (store_of w))
NoPlace w place projects fault.Misplaced = (length (path_text (store_of w)) ≤ PATH_LIMIT) × (is_misplaced w.root place projects (store_of w) ≡ true)
NoPlace w place projects fault.Memory = Unit {0}
