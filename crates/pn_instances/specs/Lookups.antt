-- Look-ups among instances.
use Rattle.std.specs.Prelude.{ℕ, List, [], ◌∷◌, Option, Some, None, if◌then◌else◌, slice_get}
use Rattle.std.specs.Str.{bytes_eq}
use Rattle.pn_instances.specs.declared.goal.Goal.{Goal}
use Rattle.pn_instances.specs.declared.links.Link.{Link}

-- what a name leads to
abbrev pub goal_at : List ℕ → List Link → Option Goal
goal_at name [] = None
goal_at name (l ∷ ls) = if bytes_eq l.name name then Some l.to else goal_at name ls

abbrev pub or_none : Option (List Link) → List Link
or_none None = []
or_none (Some links) = links

-- the links at a place
abbrev pub links_at : List (List Link) → ℕ → List Link
links_at lists k = or_none (slice_get lists k)
