-- What comparators and hyphen ranges mean: the limits of each.
use Rattle.std.specs.Prelude.{ℕ, ◌+◌, ◌^◌, ◌==◌, ◌&&◌, not, nat_lt, Bool, true, false, if◌then◌else◌, List, [], ◌∷◌, ◌++◌, Option, Some, None}
use Rattle.std.specs.List.{list_all}
use Rattle.pn_ranges.specs.declared.bound.Comparison.TheVariants.{Below, AtMost, Exactly, AtLeast, Above}
use Rattle.pn_ranges.specs.declared.comparator.Sign.{Sign}
use Rattle.pn_ranges.specs.declared.comparator.Sign.TheVariants as sign
use Rattle.pn_ranges.specs.Limits.{Limit}

-- what a partial version names: nothing, a major number, a major and a minor number, or all of a version
pub data Named : Type 0 where
  any : Named
  major : ℕ → Named
  minor : ℕ → ℕ → Named
  full : ℕ → ℕ → ℕ → List ℕ → Named

-- behind a wildcard or a missing part nothing counts
abbrev pub named : Option ℕ → Option ℕ → Option ℕ → List ℕ → Named
named None b c pre = any
named (Some a) None c pre = major a
named (Some a) (Some b) None pre = minor a b
named (Some a) (Some b) (Some c) pre = full a b c pre

abbrev pub at_least : ℕ → ℕ → ℕ → List ℕ → Limit
at_least a b c pre = record { comparison = AtLeast; major = a; minor = b; patch = c; pre = pre }

-- below each version and pre-release of these numbers: `<a.b.c-0`
abbrev pub before : ℕ → ℕ → ℕ → Limit
before a b c = record { comparison = Below; major = a; minor = b; patch = c; pre = 48 ∷ [] }

-- where a caret of a full version ends: the left-most number that isn't zero may not rise
abbrev pub caret_end : ℕ → ℕ → ℕ → Limit
caret_end a b c =
    if not (a == 0) then before (a + 1) 0 0 else if not (b == 0) then before a (b + 1) 0 else before a b (c + 1)

abbrev pub exact_limits : Named → List Limit
exact_limits any = at_least 0 0 0 [] ∷ []
exact_limits (major a) = at_least a 0 0 [] ∷ before (a + 1) 0 0 ∷ []
exact_limits (minor a b) = at_least a b 0 [] ∷ before a (b + 1) 0 ∷ []
exact_limits (full a b c pre) = record { comparison = Exactly; major = a; minor = b; patch = c; pre = pre } ∷ []

abbrev pub below_limits : Named → List Limit
below_limits any = before 0 0 0 ∷ []
below_limits (major a) = before a 0 0 ∷ []
below_limits (minor a b) = before a b 0 ∷ []
below_limits (full a b c pre) = record { comparison = Below; major = a; minor = b; patch = c; pre = pre } ∷ []

abbrev pub at_most_limits : Named → List Limit
at_most_limits any = at_least 0 0 0 [] ∷ []
at_most_limits (major a) = before (a + 1) 0 0 ∷ []
at_most_limits (minor a b) = before a (b + 1) 0 ∷ []
at_most_limits (full a b c pre) = record { comparison = AtMost; major = a; minor = b; patch = c; pre = pre } ∷ []

abbrev pub above_limits : Named → List Limit
above_limits any = before 0 0 0 ∷ []
above_limits (major a) = at_least (a + 1) 0 0 [] ∷ []
above_limits (minor a b) = at_least a (b + 1) 0 [] ∷ []
above_limits (full a b c pre) = record { comparison = Above; major = a; minor = b; patch = c; pre = pre } ∷ []

abbrev pub at_least_limits : Named → List Limit
at_least_limits any = at_least 0 0 0 [] ∷ []
at_least_limits (major a) = at_least a 0 0 [] ∷ []
at_least_limits (minor a b) = at_least a b 0 [] ∷ []
at_least_limits (full a b c pre) = at_least a b c pre ∷ []

abbrev pub tilde_limits : Named → List Limit
tilde_limits any = at_least 0 0 0 [] ∷ []
tilde_limits (major a) = at_least a 0 0 [] ∷ before (a + 1) 0 0 ∷ []
tilde_limits (minor a b) = at_least a b 0 [] ∷ before a (b + 1) 0 ∷ []
tilde_limits (full a b c pre) = at_least a b c pre ∷ before a (b + 1) 0 ∷ []

abbrev pub caret_limits : Named → List Limit
caret_limits any = at_least 0 0 0 [] ∷ []
caret_limits (major a) = at_least a 0 0 [] ∷ before (a + 1) 0 0 ∷ []
caret_limits (minor a b) = at_least a b 0 [] ∷ (if not (a == 0) then before (a + 1) 0 0 else before a (b + 1) 0) ∷ []
caret_limits (full a b c pre) = at_least a b c pre ∷ caret_end a b c ∷ []

-- what a comparator means
abbrev pub limits : Sign → Named → List Limit
limits sign.Exact n = exact_limits n
limits sign.Less n = below_limits n
limits sign.AtMost n = at_most_limits n
limits sign.Greater n = above_limits n
limits sign.AtLeast n = at_least_limits n
limits sign.Tilde n = tilde_limits n
limits sign.Caret n = caret_limits n

-- what the lower end of `A - B` means
abbrev pub lower_limits : Named → List Limit
lower_limits any = []
lower_limits (major a) = at_least a 0 0 [] ∷ []
lower_limits (minor a b) = at_least a b 0 [] ∷ []
lower_limits (full a b c pre) = at_least a b c pre ∷ []

-- what the upper end of `A - B` means
abbrev pub upper_limits : Named → List Limit
upper_limits any = []
upper_limits (major a) = before (a + 1) 0 0 ∷ []
upper_limits (minor a b) = before a (b + 1) 0 ∷ []
upper_limits (full a b c pre) = record { comparison = AtMost; major = a; minor = b; patch = c; pre = pre } ∷ []

-- without a limit each version is let by
abbrev pub or_any : List Limit → List Limit
or_any [] = at_least 0 0 0 [] ∷ []
or_any (l ∷ ls) = l ∷ ls

-- what `A - B` means
abbrev pub between : Named → Named → List Limit
between low high = or_any (lower_limits low ++ upper_limits high)

-- a limit's numbers are below 2^64
abbrev pub fits : Limit → Bool
fits l = nat_lt l.major (2 ^ 64) && nat_lt l.minor (2 ^ 64) && nat_lt l.patch (2 ^ 64)

abbrev pub all_fit : List Limit → Bool
all_fit ls = list_all fits ls

abbrev pub is_caret : Sign → Bool
is_caret sign.Caret = true
is_caret s = false

-- which part of a version a limit raises by one, where one does
abbrev pub raised : Sign → Named → ℕ
raised s any = 0
raised s (major a) = 0
raised s (minor a b) = if is_caret s && not (a == 0) then 0 else 1
raised s (full a b c pre) = if not (is_caret s) then 1 else if not (a == 0) then 0 else if not (b == 0) then 1 else 2

-- the same for an upper end of `A - B`
abbrev pub upper_raised : Named → ℕ
upper_raised (minor a b) = 1
upper_raised n = 0
