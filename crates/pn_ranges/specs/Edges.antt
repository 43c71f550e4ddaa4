-- The limits of comparators before their versions are made.
use Rattle.std.specs.Prelude.{◌≡◌, ℕ, zero, suc, List, [], ◌∷◌, ◌++◌, Option, Some, None, true, false}
use Rattle.semver.specs.Grammar.{is_pre_release}
use Rattle.pn_ranges.specs.declared.edge.Edge.{Edge}
use Rattle.pn_ranges.specs.declared.edge.Edges.{Edges}
use Rattle.pn_ranges.specs.declared.fault.Stop.{Stop}
use Rattle.pn_ranges.specs.declared.fault.Stop.TheVariants.{Number}
use Rattle.pn_ranges.specs.declared.partial.Partial.{Partial}
use Rattle.pn_ranges.specs.Limits.{Limit}
use Rattle.pn_ranges.specs.Table.{Named, all_fit, full, named}

abbrev pub limit_of : Edge → Limit
limit_of e = record { comparison = e.comparison; major = e.major; minor = e.minor; patch = e.patch; pre = e.pre.now }

abbrev pub limits_of : Option Edge → List Limit
limits_of None = []
limits_of (Some e) = limit_of e ∷ []

abbrev pub all_limits_of : Edges → List Limit
all_limits_of es = limits_of es.low ++ limits_of es.high

-- a pre-release is in the form of SemVer
abbrev pub HasPre : Named → Type 0
HasPre (full a b c pre) = is_pre_release pre ≡ true
HasPre n = Unit {0}

abbrev pub EdgeHasPre : Option Edge → Type 0
EdgeHasPre None = Unit {0}
EdgeHasPre (Some e) = is_pre_release e.pre.now ≡ true

abbrev pub EdgesHavePre : Edges → Type 0
EdgesHavePre es = EdgeHasPre es.low × EdgeHasPre es.high

abbrev pub named_by : Partial → Named
named_by p = named p.major p.minor p.patch p.pre.now

-- how many bytes are left from a part on
abbrev pub left_at : ℕ → Partial → ℕ
left_at zero p = p.major_left
left_at (suc zero) p = p.minor_left
left_at (suc (suc k)) p = p.patch_left

-- the refusal of limits of which one would have a number of 2^64: the place of the part that it raises
abbrev pub IsRaised : List Limit → ℕ → Partial → Stop → Type 0
IsRaised ls k p s = (s ≡ Number (left_at k p)) × (all_fit ls ≡ false)
