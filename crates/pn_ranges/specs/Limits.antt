-- Limits on versions, and when a version satisfies lists of them. The order is the precedence of SemVer 2.0.0, section 11.
-- A version is its parts: its three numbers `.0`, `.1` and `.2`, and the texts of its pre-release `.3` and its build `.4`.
use Rattle.std.specs.Prelude.{ℕ, ◌==◌, ◌&&◌, ◌||◌, Bool, not, List, length}
use Rattle.std.specs.List.{list_all, list_any}
use Rattle.std.specs.Ordering.{is_eq, is_ge, is_gt, is_le, is_lt, nat_cmp, ordering_then}
use Rattle.std.specs.declared.cmp.Ordering.{Ordering}
use Rattle.semver.specs.Order.{pre_cmp}
use Rattle.semver.specs.Parse.{Parts}
use Rattle.pn_ranges.specs.declared.bound.Comparison.{Comparison}
use Rattle.pn_ranges.specs.declared.bound.Comparison.TheVariants.{Below, AtMost, Exactly, AtLeast, Above}

-- a comparison with a version: its three numbers and its pre-release, which is empty where there is none
pub record Limit : Type 0 where
  pub comparison : Comparison
  pub major : ℕ
  pub minor : ℕ
  pub patch : ℕ
  pub pre : List ℕ

-- the precedence of a version beside that of a limit's version
abbrev pub precedence : Parts → Limit → Ordering
precedence v l = ordering_then (nat_cmp v.0 l.major) (ordering_then (nat_cmp v.1 l.minor)
    (ordering_then (nat_cmp v.2 l.patch) (pre_cmp v.3 l.pre)))

abbrev pub allows : Comparison → Ordering → Bool
allows Below o = is_lt o
allows AtMost o = is_le o
allows Exactly o = is_eq o
allows AtLeast o = is_ge o
allows Above o = is_gt o

-- whether a version keeps to a limit
abbrev pub meets : Parts → Limit → Bool
meets v l = allows l.comparison (precedence v l)

abbrev pub is_release : Parts → Bool
is_release v = length v.3 == 0

-- whether a limit has a pre-release and the version's three numbers
abbrev pub names_pre : Parts → Limit → Bool
names_pre v l = not (length l.pre == 0) && (l.major == v.0) && (l.minor == v.1) && (l.patch == v.2)

-- each limit holds, and a pre-release is named by one of them
abbrev pub meets_all : Parts → List Limit → Bool
meets_all v ls = list_all (meets v) ls && (is_release v || list_any (names_pre v) ls)

-- some list of limits holds
abbrev pub satisfies : Parts → List (List Limit) → Bool
satisfies v ranges = list_any (meets_all v) ranges
