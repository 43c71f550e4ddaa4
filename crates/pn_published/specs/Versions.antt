-- The order of versions. A version is its parts: its three numbers `.0`, `.1` and `.2`, and the texts of its pre-release
-- `.3` and its build `.4`. The order is the precedence of SemVer 2.0.0, section 11; versions of one precedence differ in
-- their builds alone and go by the bytes of these.
use Rattle.std.specs.Prelude.{◌≡◌, ℕ, Bool, List, Some}
use Rattle.std.specs.List.{All, Contains}
use Rattle.std.specs.List.Sorted.{IsStrictlySortedBy}
use Rattle.std.specs.Cmp.Lexicographic.{slice_cmp}
use Rattle.std.specs.Ordering.{nat_cmp, is_eq, ordering_then}
use Rattle.std.specs.declared.cmp.Ordering.{Ordering}
use Rattle.semver.specs.Parse.{Parts}
use Rattle.semver.specs.Order.{pre_cmp}
use Rattle.pn_text.specs.Ids.{parts_text}

abbrev pub precedence : Parts → Parts → Ordering
precedence a b = ordering_then (nat_cmp a.0 b.0) (ordering_then (nat_cmp a.1 b.1) (ordering_then (nat_cmp a.2 b.2) (pre_cmp a.3 b.3)))

abbrev pub version_cmp : Parts → Parts → Ordering
version_cmp a b = ordering_then (precedence a b) (slice_cmp nat_cmp a.4 b.4)

abbrev pub same_version : Parts → Parts → Bool
same_version a b = is_eq (version_cmp a b)

abbrev pub IsRising : List Parts → Type 0
IsRising versions = IsStrictlySortedBy version_cmp versions

-- Two lists have the same members.
pub record HasSame (xs ys : List Parts) : Type 0 where
  pub from : (v : Parts) → Contains ys v → Contains xs v
  pub to : (v : Parts) → Contains xs v → Contains ys v

-- It is the version that a text is.
pub record IsParsed (v : Parts) : Type 0 where
  pub text : List ℕ
  pub is : parts_text text ≡ Some v

abbrev pub AreParsed : List Parts → Type 0
AreParsed versions = All IsParsed versions
