use Rattle.std.proofs.Common.{◌≡◌, ◌++◌, drop}
use Rattle.pn_lock_shape.specs.Reading.{optional_names}
use Rattle.pn_lock_shape.proofs.packages.optional_names.Given as goal

-- the names so far, and those that are left
abbrev pub invariant-loop-meta : goal.invariant-loop-meta
invariant-loop-meta l = l.names ++ optional_names (drop l.meta-index l.metas) ≡ optional_names l.fn.metas
