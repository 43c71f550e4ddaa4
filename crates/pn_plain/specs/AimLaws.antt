-- What a wish for a package leads to, in the words of the choice.
use Rattle.std.specs.Prelude.{◌≡◌, ℕ, Bool, true, false, List, [], ◌∷◌, Option, Some, None, Ok, slice_get}
use Rattle.semver.specs.Parse.{Parts}
use Rattle.pn_ranges.specs.Limits.{Limit}
use Rattle.pn_spec.specs.declared.want.Want.TheVariants as want
use Rattle.pn_walk.specs.declared.wish.Aim.{Aim}
use Rattle.pn_walk.specs.declared.wish.Aim.TheVariants.{Project as to_project, Package as to_package}
use Rattle.pn_walk.specs.Wants.{Id}
use Rattle.pn_published.specs.Choice.{fits, is_held, IsChoice, NonePasses}
use Rattle.pn_published.specs.Shelves.{Shelf}
use Rattle.pn_published.specs.Versions.{IsRising}
use Rattle.pn_plain.specs.Aims.{ReadingLeads, id_at}
use Rattle.pn_plain.specs.Causes.{no_version, ReadingRefused}
use Rattle.pn_plain.specs.Given.{Given, held_of, tag_place}
use Rattle.pn_plain.specs.Readings.{of_package}
use Rattle.pn_plain.specs.Told.{Told, IsToldShelf, IsGap}

-- The package is that of the version that is chosen: of those that satisfy the range the greatest held, else the latest, else
-- the greatest.
pub record IsChosen (shelf : Shelf) (held : List Parts) (n : List ℕ) (r : List (List Limit)) (i : Id) : Type 0 where
  pub place : ℕ
  pub version : Parts
  pub choice : IsChoice (fits (r ∷ [])) (is_held held) shelf.versions shelf.latest (Some place)
  pub there : slice_get shelf.versions place ≡ Some version
  pub is : i ≡ id_at n version

abbrev pub RangeAim : Shelf → List Parts → Bool → List ℕ → List (List Limit) → Option Aim → Type 0
RangeAim shelf held optional n r None = (optional ≡ true) × NonePasses (fits (r ∷ [])) shelf.versions
RangeAim shelf held optional n r (Some (to_project q)) = ⊥
RangeAim shelf held optional n r (Some (to_package i)) = IsChosen shelf held n r i

-- The package is that of the tag's version.
pub record IsTagged (shelf : Shelf) (n tag : List ℕ) (i : Id) : Type 0 where
  pub place : ℕ
  pub version : Parts
  pub tagged : tag_place shelf tag ≡ Some place
  pub there : slice_get shelf.versions place ≡ Some version
  pub is : i ≡ id_at n version

-- no published version has the tag
abbrev pub IsUntagged : Shelf → List ℕ → Type 0
IsUntagged shelf tag = (k : ℕ) (v : Parts) → tag_place shelf tag ≡ Some k → slice_get shelf.versions k ≡ Some v → ⊥

abbrev pub TagAim : Shelf → Bool → List ℕ → List ℕ → Option Aim → Type 0
TagAim shelf optional n tag None = (optional ≡ true) × IsUntagged shelf tag
TagAim shelf optional n tag (Some (to_project q)) = ⊥
TagAim shelf optional n tag (Some (to_package i)) = IsTagged shelf n tag i

-- A wish for a range leads to the package of the chosen version; it comes to nothing, or is refused, only where no version
-- satisfies the range. A wish for a tag leads to the package of the tag's version, and else has none.
pub record AimLaw (told : Told) : Type 0 where
  pub range : (g : Given) (optional : Bool) (n : List ℕ) (r : List (List Limit)) (shelf : Shelf) (aim : Option Aim) → told.shelf n ≡ Ok shelf → IsRising shelf.versions
      → ReadingLeads (IsToldShelf told) g optional (of_package n (want.Range r)) aim → RangeAim shelf (held_of n g.held) optional n r aim
  pub tag : (g : Given) (optional : Bool) (n x : List ℕ) (shelf : Shelf) (aim : Option Aim) → told.shelf n ≡ Ok shelf
      → ReadingLeads (IsToldShelf told) g optional (of_package n (want.Tag x)) aim → TagAim shelf optional n x aim
  pub no_range : (g : Given) (optional : Bool) (n : List ℕ) (r : List (List Limit)) (shelf : Shelf) → told.shelf n ≡ Ok shelf → IsRising shelf.versions
      → ReadingRefused (IsToldShelf told) (IsGap told) g optional (of_package n (want.Range r)) no_version → (optional ≡ false) × NonePasses (fits (r ∷ [])) shelf.versions
  pub no_tag : (g : Given) (optional : Bool) (n x : List ℕ) (shelf : Shelf) → told.shelf n ≡ Ok shelf
      → ReadingRefused (IsToldShelf told) (IsGap told) g optional (of_package n (want.Tag x)) no_version → (optional ≡ false) × IsUntagged shelf x
