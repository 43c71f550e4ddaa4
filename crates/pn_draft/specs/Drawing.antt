-- What a draft draws: what is planned at paths at and below some folders.
use Rattle.std.specs.Prelude.{◌≡◌, ℕ, ◌<◌, ◌≤◌, ◌⊎◌, Bool, true, false, ◌&&◌, ◌||◌, List, [], ◌∷◌, length, Option, Some, None, if◌then◌else◌}
use Rattle.std.specs.List.{Contains, list_any}
use Rattle.std.specs.Map.{lookup}
use Rattle.std.specs.Str.{bytes_eq}
use Rattle.std.specs.Cmp.Lexicographic.{slice_cmp}
use Rattle.std.specs.Ordering.{nat_cmp}
use Rattle.std.specs.declared.cmp.Ordering.TheVariants.{Less}
use Rattle.pn_text.specs.declared.limits.TheConstants.{PATH_LIMIT}
use Rattle.pn_text.specs.Path.{Path, same_path, is_path, text_below, path_text}
use Rattle.pn_digest.specs.declared.planned.Planned.{Planned}
use Rattle.pn_digest.specs.declared.planned.Planned.TheVariants.{Folder}

-- The folders, and what is drawn, each with its path's parts after slashes.
pub record Drawing : Type 0 where
  pub tops : List Path
  pub marks : List (List ℕ × Planned)

-- what is drawn under a text
abbrev pub mark_at : List (List ℕ × Planned) → List ℕ → Option Planned
mark_at marks text = lookup (bytes_eq text) marks

-- what is drawn at a path
abbrev pub drawn : Drawing → Path → Option Planned
drawn d q = if is_path q then mark_at d.marks (text_below q) else None

-- whether a path is strictly below another one
abbrev pub is_below : Path → Path → Bool
is_below a [] = false
is_below a (x ∷ p) = same_path p a || is_below a p

-- whether it is at or below the other one
abbrev pub is_within : Path → Path → Bool
is_within a p = same_path p a || is_below a p

abbrev pub or_else : Option Planned → Option Planned → Option Planned
or_else None other = other
or_else (Some w) other = Some w

-- whether it is one of the folders
abbrev pub is_top : List Path → Path → Bool
is_top tops q = list_any (λ m. same_path m q) tops

-- whether it is at or below one of them
abbrev pub is_inside : List Path → Path → Bool
is_inside tops q = list_any (λ m. is_within m q) tops

-- none is below another one
abbrev pub AreApart : List Path → Type 0
AreApart tops = (a b : Path) → Contains tops a → Contains tops b → is_within a b ≡ true → a ≡ b

-- the folders alone
abbrev pub bare : List Path → Path → Option Planned
bare tops q = if is_top tops q then Some Folder else None

-- A drawing with one more path below one of the folders: what was drawn above it stays, and where nothing
-- was a folder is drawn.
abbrev pub with_leaf : List Path → (Path → Option Planned) → Path → Planned → Path → Option Planned
with_leaf tops d p w q = if same_path p q then Some w else or_else (d q) (if is_below q p && is_inside tops q then Some Folder else None)

-- At each path the new drawing is as the old one or as the one that was asked for.
abbrev pub IsPart : (Path → Option Planned) → (Path → Option Planned) → (Path → Option Planned) → Type 0
IsPart old asked new = (q : Path) → (new q ≡ old q) ⊎ (new q ≡ asked q)

-- The first drawn path, in byte order, whose text has more than 4,096 bytes.
pub record IsFirstLong (d : Path → Option Planned) (n : ℕ) : Type 0 where
  pub path : Path
  pub what : Planned
  pub stands : d path ≡ Some what
  pub size : n ≡ length (path_text path)
  pub long : PATH_LIMIT < n
  pub first : (q : Path) (w : Planned) → d q ≡ Some w → slice_cmp nat_cmp (path_text q) (path_text path) ≡ Less → length (path_text q) ≤ PATH_LIMIT
