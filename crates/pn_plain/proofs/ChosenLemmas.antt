-- The version that is chosen is that of the choice.
use Rattle.std.proofs.Common.{◌≡◌, ℕ, Bool, List, [], ◌∷◌, Option, Some, None, refl, sym, ap, ◌∙◌, subst}
use Rattle.std.specs.Prelude.{Result, Ok, slice_get, option_and_then}
use Rattle.std.proofs.lemmas.Option.{none-some}
use Rattle.semver.specs.Parse.{Parts}
use Rattle.pn_ranges.specs.Limits.{Limit}
use Rattle.pn_spec.specs.declared.want.Want.{Want}
use Rattle.pn_spec.specs.declared.want.Want.TheVariants as want
use Rattle.pn_walk.specs.declared.wish.Aim.{Aim}
use Rattle.pn_published.specs.Choice.{chosen, fits, is_held, IsChoice, greatest_held, the_latest, the_greatest, none, NonePasses, ChoiceLaw}
use Rattle.pn_published.specs.Shelves.{Shelf}
use Rattle.pn_published.specs.Versions.{IsRising}
use Rattle.pn_plain.specs.AimLaws.{IsChosen, RangeAim, IsTagged, IsUntagged, TagAim, AimLaw}
use Rattle.pn_plain.specs.Aims.{Chooses, Found, id_at}
use Rattle.pn_plain.specs.Given.{Given, held_of, tag_place, version_of}
use Rattle.pn_plain.specs.Told.{Told, IsToldShelf}

some_none : {A : Type 0} (o : Option A) (a : A) → o ≡ Some a → o ≡ None → ⊥
some_none o a x y = cc

-- the version at a place
at_place : (vs : List Parts) (o : Option ℕ) (v : Parts) → option_and_then (slice_get vs) o ≡ Some v → (k : ℕ) × (o ≡ Some k) × (slice_get vs k ≡ Some v)
at_place vs None v h = absurd (none-some v h)
at_place vs (Some k) v h = (k, refl, h)

no_place : (vs : List Parts) (o : Option ℕ) → option_and_then (slice_get vs) o ≡ None → (k : ℕ) (v : Parts) → o ≡ Some k → slice_get vs k ≡ Some v → ⊥
no_place vs None h k v e there = none-some k e
no_place vs (Some j) h k v e there = let same : j ≡ k = cc in some_none (slice_get vs j) v (ap (slice_get vs) same ∙ there) h

-- where the choice has no version, no version passes
none_chosen : (test held : Parts → Bool) (vs : List Parts) (latest : Option ℕ) (o : Option ℕ) → IsChoice test held vs latest o → option_and_then (slice_get vs) o ≡ None → NonePasses test vs
none_chosen test held vs latest _ (greatest_held k g) h = absurd (some_none (slice_get vs k) g.version g.there h)
none_chosen test held vs latest _ (the_latest k n g) h = absurd (some_none (slice_get vs k) g.version g.there h)
none_chosen test held vs latest _ (the_greatest k n l g) h = absurd (some_none (slice_get vs k) g.version g.there h)
none_chosen test held vs latest _ (none n) h = n

range_found : ChoiceLaw → (shelf : Shelf) (held : List Parts) (n : List ℕ) (r : List (List Limit)) (v : Parts) → IsRising shelf.versions → version_of shelf held (want.Range r) ≡ Some v → IsChosen shelf held n r (id_at n v)
range_found choice_law shelf held n r v rising h =
    let o = chosen shelf.versions shelf.latest held (r ∷ []) in
    let p = at_place shelf.versions o v h in
    record {
      place = p.0;
      version = v;
      choice = subst (λ (q : Option ℕ). IsChoice (fits (r ∷ [])) (is_held held) shelf.versions shelf.latest q) p.1 (choice_law shelf.versions shelf.latest held (r ∷ []) rising);
      there = p.2;
      is = refl;
    }

range_none : ChoiceLaw → (shelf : Shelf) (held : List Parts) (r : List (List Limit)) → IsRising shelf.versions → version_of shelf held (want.Range r) ≡ None → NonePasses (fits (r ∷ [])) shelf.versions
range_none choice_law shelf held r rising h =
    none_chosen (fits (r ∷ [])) (is_held held) shelf.versions shelf.latest (chosen shelf.versions shelf.latest held (r ∷ [])) (choice_law shelf.versions shelf.latest held (r ∷ []) rising) h

tag_found : (shelf : Shelf) (held : List Parts) (n x : List ℕ) (v : Parts) → version_of shelf held (want.Tag x) ≡ Some v → IsTagged shelf n x (id_at n v)
tag_found shelf held n x v h =
    let p = at_place shelf.versions (tag_place shelf x) v h in
    record { place = p.0; version = v; tagged = p.1; there = p.2; is = refl }

tag_none : (shelf : Shelf) (held : List Parts) (x : List ℕ) → version_of shelf held (want.Tag x) ≡ None → IsUntagged shelf x
tag_none shelf held x h k v e there = no_place shelf.versions (tag_place shelf x) h k v e there

-- what was found is that of the shelf that is told
found_is : (t : Told) (g : Given) (n : List ℕ) (w : Want) (shelf : Shelf) (found : Option Parts) → t.shelf n ≡ Ok shelf → Chooses (IsToldShelf t) g n w found → version_of shelf (held_of n g.held) w ≡ found
found_is t g n w shelf found told c =
    let same : shelf ≡ c.shelf = one_ok (t.shelf n) shelf c.shelf told c.shows in
    ap (λ (s : Shelf). version_of s (held_of n g.held) w) same ∙ sym c.is
  where
    one_ok : {A E : Type 0} (r : Result A E) (a b : A) → r ≡ Ok a → r ≡ Ok b → a ≡ b
    one_ok r a b x y = cc

range_aim : ChoiceLaw → (shelf : Shelf) (held : List Parts) (o : Bool) (n : List ℕ) (r : List (List Limit)) (found : Option Parts) (aim : Option Aim) → IsRising shelf.versions
    → version_of shelf held (want.Range r) ≡ found → Found n o found aim → RangeAim shelf held o n r aim
range_aim choice_law shelf held o n r None aim rising h f = subst (λ (a : Option Aim). RangeAim shelf held o n r a) (sym f.1) (f.0, range_none choice_law shelf held r rising h)
range_aim choice_law shelf held o n r (Some v) aim rising h f = subst (λ (a : Option Aim). RangeAim shelf held o n r a) (sym f) (range_found choice_law shelf held n r v rising h)

tag_aim : (shelf : Shelf) (held : List Parts) (o : Bool) (n x : List ℕ) (found : Option Parts) (aim : Option Aim) → version_of shelf held (want.Tag x) ≡ found → Found n o found aim → TagAim shelf o n x aim
tag_aim shelf held o n x None aim h f = subst (λ (a : Option Aim). TagAim shelf o n x a) (sym f.1) (f.0, tag_none shelf held x h)
tag_aim shelf held o n x (Some v) aim h f = subst (λ (a : Option Aim). TagAim shelf o n x a) (sym f) (tag_found shelf held n x v h)

pub aim_law : ChoiceLaw → (t : Told) → AimLaw t
aim_law choice_law t = record {
  range = λ g o n r shelf aim told rising h. range_aim choice_law shelf (held_of n g.held) o n r h.0 aim rising (found_is t g n (want.Range r) shelf h.0 told h.1) h.2;
  tag = λ g o n x shelf aim told h. tag_aim shelf (held_of n g.held) o n x h.0 aim (found_is t g n (want.Tag x) shelf h.0 told h.1) h.2;
  no_range = λ g o n r shelf told rising h. (h.1, range_none choice_law shelf (held_of n g.held) r rising (found_is t g n (want.Range r) shelf None told h.0));
  no_tag = λ g o n x shelf told h. (h.1, tag_none shelf (held_of n g.held) x (found_is t g n (want.Tag x) shelf None told h.0));
}
