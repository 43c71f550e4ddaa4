-- The versions that a folder's entries are.
use Rattle.std.specs.Prelude.{ℕ, List, [], ◌∷◌, ◌++◌, length, Bool, true, false, Option, Some, None, option_to_list, if◌then◌else◌}
use Rattle.semver.specs.Parse.{Parts}
use Rattle.pn_text.specs.Ids.{parts_text}
use Rattle.pn_text.specs.Path.{Path}
use Rattle.pn_fs.specs.Calls.{IsListing}
use Rattle.pn_fs.specs.Seen.{Seen, GaveAtMost}
use Rattle.pn_fs.specs.Tree.{Tree, Entry, folder, file, link}

abbrev pub is_folder : Option Entry → Bool
is_folder None = false
is_folder (Some folder) = true
is_folder (Some (file bytes)) = false
is_folder (Some (link text)) = false

-- the version that an entry of a name's folder is
abbrev pub version_at : Tree → Path → List ℕ → Option Parts
version_at t p x = if is_folder (t (x ∷ p)) then parts_text x else None

abbrev pub versions_at : Tree → Path → List (List ℕ) → List Parts
versions_at t p [] = []
versions_at t p (x ∷ xs) = option_to_list (version_at t p x) ++ versions_at t p xs

-- Calls gave the names of the folder's entries once at most, and at most so many bytes.
abbrev pub ListsOnce : Tree → Path → ℕ → Seen → Seen → Type 0
ListsOnce t p most old new = (names : List (List ℕ)) → IsListing t p names → GaveAtMost old most (length names) new
