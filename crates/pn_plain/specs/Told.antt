-- What is told of a registry, of a hook and of overrides.
use Rattle.std.specs.Prelude.{◌≡◌, ℕ, List, Option, Some, Result, Ok, Err}
use Rattle.pn_walk.specs.declared.node.Node.{Node}
use Rattle.pn_walk.specs.Wants.{Id}
use Rattle.pn_walk.specs.Walks.{State}
use Rattle.pn_published.specs.Shelves.{Shelf}
use Rattle.pn_plain.specs.Causes.{Cause}
use Rattle.pn_plain.specs.Plains.{Inputs, IsNode, IsPlain, IsUnplain}
use Rattle.pn_manifest.specs.Said.{Said}
use Rattle.pn_plain.specs.Seen.{Hook, Owner, IsSeen}

-- What is told, for each name its versions, and for each id its manifest, or by a number why not; and what a hook and
-- overrides make of a manifest.
pub record Told : Type 0 where
  pub shelf : List ℕ → Result Shelf ℕ
  pub manifest : Id → Result Said ℕ
  pub hook : Hook
  pub overridden : Said → Option Said

abbrev pub IsToldShelf : Told → List ℕ → Shelf → Type 0
IsToldShelf told n p = told.shelf n ≡ Ok p

abbrev pub IsGap : Told → List ℕ → ℕ → Type 0
IsGap told n x = told.shelf n ≡ Err x

abbrev pub IsToldManifest : Told → Id → Said → Type 0
IsToldManifest told i m = told.manifest i ≡ Ok m

abbrev pub IsUnread : Told → Id → ℕ → Type 0
IsUnread told i x = told.manifest i ≡ Err x

abbrev pub IsOverridden : Told → Said → Said → Type 0
IsOverridden told m s = told.overridden m ≡ Some s

abbrev pub IsToldSeen : Told → Owner → Said → Said → Type 0
IsToldSeen told owner m s = IsSeen told.hook (IsOverridden told) owner m s

abbrev pub IsToldNode : Told → Node → Type 0
IsToldNode told n = IsNode (IsToldManifest told) told.hook (IsOverridden told) n

abbrev pub IsToldPlain : Told → Inputs → State → Type 0
IsToldPlain told i t = IsPlain (IsToldShelf told) (IsToldManifest told) told.hook (IsOverridden told) i t

abbrev pub IsToldUnplain : Told → Inputs → State → Cause ℕ → Type 0
IsToldUnplain told i t f = IsUnplain (IsToldShelf told) (IsGap told) (IsToldManifest told) (IsUnread told) told.hook (IsOverridden told) i t f
