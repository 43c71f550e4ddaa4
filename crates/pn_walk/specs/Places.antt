-- The place of each package, under the text of its id.
use Rattle.std.specs.Prelude.{◌≡◌, ℕ, String, Some, if◌then◌else◌}
use Rattle.std.specs.Str.{bytes_eq}
use Rattle.std.specs.BTreeMap.{BTreeMap, get_by_text}
use Rattle.pn_walk.specs.Wants.{Id}
use Rattle.pn_walk.specs.Walks.{place_of}
use Rattle.pn_walk.specs.declared.state.Queue.{Queue}

-- Under each id is the place of the first package with it.
abbrev pub IsTied : Queue → Type 0
IsTied q = (i : Id) → get_by_text q.places i ≡ place_of i q.nodes.items

-- Under an id is this place now, and the others are as they were.
abbrev pub KeepsPlace : {A : Type 0} → BTreeMap (String A) ℕ → BTreeMap (String A) ℕ → Id → ℕ → Type 0
KeepsPlace m n i at = (j : Id) → get_by_text n j ≡ (if bytes_eq i j then Some at else get_by_text m j)
