-- Which of the published versions is chosen.
use Rattle.std.specs.Prelude.{◌≡◌, ◌≢◌, ℕ, ◌&&◌, Bool, true, false, List, Option, Some, None, if◌then◌else◌, slice_get}
use Rattle.std.specs.List.{list_all, list_any}
use Rattle.std.specs.declared.cmp.Ordering.TheVariants.{Less}
use Rattle.semver.specs.Parse.{Parts}
use Rattle.pn_ranges.specs.Limits.{Limit, satisfies}
use Rattle.pn_published.specs.Places.{or_else, last_place}
use Rattle.pn_published.specs.Versions.{IsRising, same_version, version_cmp}

-- whether a version satisfies each of the ranges
abbrev pub fits : List (List (List Limit)) → Parts → Bool
fits ranges v = list_all (satisfies v) ranges

abbrev pub is_held : List Parts → Parts → Bool
is_held held v = list_any (λ u. same_version u v) held

abbrev pub passes : (Parts → Bool) → Option Parts → Bool
passes test None = false
passes test (Some v) = test v

-- this place, where the version there passes a test
abbrev pub if_passes : (Parts → Bool) → List Parts → Option ℕ → Option ℕ
if_passes test versions None = None
if_passes test versions (Some k) = if passes test (slice_get versions k) then Some k else None

-- Of the versions that satisfy all ranges, which rise: the last that is held, else the latest, else the last.
abbrev pub chosen : List Parts → Option ℕ → List Parts → List (List (List Limit)) → Option ℕ
chosen versions latest held ranges =
    or_else (last_place (λ v. fits ranges v && is_held held v) versions)
    (or_else (if_passes (fits ranges) versions latest) (last_place (fits ranges) versions))

-- no version passes the test
abbrev pub NonePasses : (Parts → Bool) → List Parts → Type 0
NonePasses test versions = (j : ℕ) (u : Parts) → slice_get versions j ≡ Some u → test u ≡ false

-- The version at this place passes the test, and each other that passes it is less.
pub record IsGreatest (test : Parts → Bool) (versions : List Parts) (k : ℕ) : Type 0 where
  pub version : Parts
  pub there : slice_get versions k ≡ Some version
  pub passes : test version ≡ true
  pub greatest : (j : ℕ) (u : Parts) → slice_get versions j ≡ Some u → test u ≡ true → j ≢ k → version_cmp u version ≡ Less

-- The version at this place passes the test, and is the latest.
pub record IsLatest (test : Parts → Bool) (versions : List Parts) (latest : Option ℕ) (k : ℕ) : Type 0 where
  pub version : Parts
  pub there : slice_get versions k ≡ Some version
  pub passes : test version ≡ true
  pub is : latest ≡ Some k

-- the latest doesn't pass
abbrev pub LatestFails : (Parts → Bool) → List Parts → Option ℕ → Type 0
LatestFails test versions latest = (k : ℕ) (v : Parts) → latest ≡ Some k → slice_get versions k ≡ Some v → test v ≡ false

-- Of the versions that pass the test: the greatest held, else the latest, else the greatest.
pub data IsChoice (test held : Parts → Bool) (versions : List Parts) (latest : Option ℕ) : Option ℕ → Type 0 where
  greatest_held : (k : ℕ) → IsGreatest (λ v. test v && held v) versions k → IsChoice test held versions latest (Some k)
  the_latest : (k : ℕ) → NonePasses (λ v. test v && held v) versions → IsLatest test versions latest k → IsChoice test held versions latest (Some k)
  the_greatest : (k : ℕ) → NonePasses (λ v. test v && held v) versions → LatestFails test versions latest → IsGreatest test versions k → IsChoice test held versions latest (Some k)
  none : NonePasses test versions → IsChoice test held versions latest None

abbrev pub ChoiceLaw : Type 0
ChoiceLaw = (versions : List Parts) (latest : Option ℕ) (held : List Parts) (ranges : List (List (List Limit))) → IsRising versions
    → IsChoice (fits ranges) (is_held held) versions latest (chosen versions latest held ranges)
