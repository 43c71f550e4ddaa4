-- What of a manifest and of a package's id isn't built yet.
use Rattle.std.specs.Prelude.{◌≡◌, ◌<◌, ◌≤◌, ℕ, List, [], ◌∷◌, length, codes, Option, Some, None}
use Rattle.pn_text.specs.declared.limits.TheConstants.{ID_LIMIT}
use Rattle.pn_manifest.specs.Said.{Said}
use Rattle.pn_manifest.specs.Values.{or_else}
use Rattle.pn_walk.specs.Wants.{Id}

-- a field's name where its list isn't empty
abbrev pub where_filled : {A : Type 0} → List A → List ℕ → Option (List ℕ)
where_filled [] field = None
where_filled (x ∷ xs) field = Some field

-- the first field that isn't empty and isn't built yet
abbrev pub unbuilt_field : Said → Option (List ℕ)
unbuilt_field m = or_else (where_filled m.overrides (codes "pnpm.overrides")) (where_filled m.peers (codes "peerDependencies"))

-- All that the package needs is built.
pub record IsBuilt (i : Id) (m : Said) : Type 0 where
  pub fields : unbuilt_field m ≡ None
  pub short : length i ≤ ID_LIMIT

-- The first that isn't built is shown by this text.
pub data IsUnbuilt (i : Id) (m : Said) (text : List ℕ) : Type 0 where
  in_field : unbuilt_field m ≡ Some text → IsUnbuilt i m text
  long : unbuilt_field m ≡ None → ID_LIMIT < length i → text ≡ i → IsUnbuilt i m text
