-- A lock fits where no difference is found.
use Rattle.std.proofs.Common.{◌≡◌, ℕ, Bool, true, false, cond, List, [], ◌∷◌, option_map, refl, sym, ap, ◌∙◌, inl, inr}
use Rattle.std.specs.Prelude.{◌⊎◌, ◌||◌, ◌&&◌, not, Option, Some, None}
use Rattle.std.specs.List.{AllByRecursion}
use Rattle.std.proofs.lemmas.Bool.{cases_Bool}
use Rattle.pn_text.proofs.Bools.{and_false, right_false, not_false}
use Rattle.pn_lock.specs.declared.lists.LockImporter.{LockImporter}
use Rattle.pn_lock.specs.Links.{or_else}
use Rattle.pn_lock.specs.Locks.{Locked, folders_of}
use Rattle.pn_asked.specs.declared.asked.AskedProject.{AskedProject}
use Rattle.pn_asked.specs.declared.difference.Difference.TheVariants as difference
use Rattle.pn_asked.specs.declared.spots.Spot.{Spot}
use Rattle.pn_asked.specs.Asked.{AskedLists, project_folders}
use Rattle.pn_asked.specs.Differences.{alias_differs, first_of, has_alias, importer_differs, override_differs, override_rows, project_at, project_differs, rows_of, setting_differs, specifier_differs, spot_difference}
use Rattle.pn_asked.specs.Fits.{Fits, FitsFound, FitsLaw, FitsProject}
use Rattle.pn_asked.specs.Rows.{Row, agree, at_key, first_missing, first_other, is_in, keys}
use Rattle.pn_asked.specs.Spots.{fits_at, least_spot, lesser_spot, locked_spots, spot_below, spots_of, worst_spot}
use Rattle.pn_asked.proofs.FindLemmas.{agree_same, find_none, lesser_none, no_key, no_missing, no_other, none_find, none_lesser, same_agree, same_keys, same_rows}

-- ---- choices

pub or_none : {A : Type 0} (a b : Option A) → or_else a b ≡ None → (a ≡ None) × (b ≡ None)
or_none None b h = (refl, h)
or_none (Some x) b h = absurd (cc h)

pub none_or : {A : Type 0} (a b : Option A) → a ≡ None → b ≡ None → or_else a b ≡ None
none_or a b p q = ap (λ x. or_else x b) p ∙ q

unmapped : {A B : Type 0} (f : A → B) (o : Option A) → option_map f o ≡ None → o ≡ None
unmapped f None h = refl
unmapped f (Some x) h = absurd (cc h)

setting_same : (a b : Bool) → setting_differs a b ≡ None → a ≡ b
setting_same true true h = refl
setting_same false false h = refl
setting_same true false h = absurd (cc h)
setting_same false true h = absurd (cc h)

same_setting : (a b : Bool) → a ≡ b → setting_differs a b ≡ None
same_setting true true h = refl
same_setting false false h = refl
same_setting true false h = absurd (cc h)
same_setting false true h = absurd (cc h)

-- ---- entries of catalogs

lesser_spot_none : (a b : Option Spot) → lesser_spot a b ≡ None → (a ≡ None) × (b ≡ None)
lesser_spot_none None b h = (refl, h)
lesser_spot_none (Some x) None h = absurd (cc h)
lesser_spot_none (Some x) (Some y) h = (elim (spot_below y x) as (λ o. cond o (Some y) (Some x) ≡ None → (Some x ≡ None) × (Some y ≡ None)) [ true ↦ λ g. absurd (cc g) | false ↦ λ g. absurd (cc g) ]) h

good_spot : (o : Bool) (s : Spot) → cond o None (Some s) ≡ None → o ≡ true
good_spot true s h = refl
good_spot false s h = absurd (cc h)

spots_good : (good : Spot → Bool) (best : Option Spot) (ss : List Spot) → least_spot good best ss ≡ None → (best ≡ None) × AllByRecursion (λ s. good s ≡ true) ss
spots_good good best [] h = (h, tt)
spots_good good best (s ∷ ss) h =
    let r = spots_good good (lesser_spot best (cond (good s) None (Some s))) ss h in
    let b = lesser_spot_none best (cond (good s) None (Some s)) r.0 in
    (b.0, (good_spot (good s) s b.1, r.1))

good_spots : (good : Spot → Bool) (best : Option Spot) (ss : List Spot) → best ≡ None → AllByRecursion (λ s. good s ≡ true) ss → least_spot good best ss ≡ None
good_spots good best [] b h = b
good_spots good best (s ∷ ss) b h = good_spots good (lesser_spot best (cond (good s) None (Some s))) ss (ap (λ x. lesser_spot x (cond (good s) None (Some s))) b ∙ ap (λ o. cond o None (Some s)) h.0) h.1

-- ---- projects

abbrev Known : LockImporter → List Row → List ℕ → Bool
Known i rows = λ k. not (agree (at_key k rows) (at_key k (rows_of i.optional))) && has_alias i k

allowed : (a b : Bool) → (not a && b) ≡ false → (a ≡ true) ⊎ (b ≡ false)
allowed true b h = inl refl
allowed false b h = inr h

known_here : (i : LockImporter) (k : List ℕ) → is_in (keys (rows_of i.optional)) k ≡ true → has_alias i k ≡ false → ⊥
known_here i k h n = cc (h, right_false (is_in (keys (rows_of i.dev)) k) (is_in (keys (rows_of i.optional)) k) (right_false (is_in (keys (rows_of i.dependencies)) k) (is_in (keys (rows_of i.dev)) k || is_in (keys (rows_of i.optional)) k) n))

project_same : (i : LockImporter) (p : AskedProject) → project_differs i p ≡ None → FitsProject i p
project_same i p h =
    let a = lesser_none (first_other (rows_of i.dependencies) p.dependencies) _ h in
    let b = lesser_none (first_other (rows_of i.dev) p.dev) _ a.1 in
    let c = lesser_none (first_other (rows_of i.optional) p.optional) _ b.1 in
    let d = lesser_none (first_other p.dependencies (rows_of i.dependencies)) _ c.1 in
    let e = lesser_none (first_other p.dev (rows_of i.dev)) _ d.1 in
    record {
      dependencies = same_rows (rows_of i.dependencies) p.dependencies a.0 d.0;
      dev = same_rows (rows_of i.dev) p.dev b.0 e.0;
      optional = λ k. elim (cases_Bool (is_in (keys (rows_of i.optional)) k)) [
        | inl q ↦ inl (agree_same (at_key k (rows_of i.optional)) (at_key k p.optional) (not_false _ (find_none (λ k. not (agree (at_key k (rows_of i.optional)) (at_key k p.optional))) (keys (rows_of i.optional)) c.0 k q)))
        | inr n ↦ elim (cases_Bool (is_in (keys p.optional) k)) [
          | inl q ↦ elim (allowed (agree (at_key k p.optional) (at_key k (rows_of i.optional))) (has_alias i k) (find_none (Known i p.optional) (keys p.optional) e.1 k q)) [
            | inl s ↦ inl (sym (agree_same (at_key k p.optional) (at_key k (rows_of i.optional)) s))
            | inr s ↦ inr s
          ]
          | inr m ↦ inl (no_key k (rows_of i.optional) n ∙ sym (no_key k p.optional m))
        ]
      ];
    }

same_project : (i : LockImporter) (p : AskedProject) → FitsProject i p → project_differs i p ≡ None
same_project i p f =
    none_lesser (first_other (rows_of i.dependencies) p.dependencies) _ (no_other (rows_of i.dependencies) p.dependencies f.dependencies)
    (none_lesser (first_other (rows_of i.dev) p.dev) _ (no_other (rows_of i.dev) p.dev f.dev)
    (none_lesser (first_other (rows_of i.optional) p.optional) _
    (none_find (λ k. not (agree (at_key k (rows_of i.optional)) (at_key k p.optional))) (keys (rows_of i.optional)) (λ k q. elim (f.optional k) [
      | inl e ↦ ap not (same_agree (at_key k (rows_of i.optional)) (at_key k p.optional) e)
      | inr n ↦ absurd (known_here i k q n)
    ]))
    (none_lesser (first_other p.dependencies (rows_of i.dependencies)) _ (no_other p.dependencies (rows_of i.dependencies) (λ k. sym (f.dependencies k)))
    (none_lesser (first_other p.dev (rows_of i.dev)) _ (no_other p.dev (rows_of i.dev) (λ k. sym (f.dev k)))
    (none_find (Known i p.optional) (keys p.optional) (λ k q. elim (f.optional k) [
      | inl e ↦ ap (λ o. not o && has_alias i k) (same_agree (at_key k p.optional) (at_key k (rows_of i.optional)) (sym e))
      | inr n ↦ ap (λ o. not (agree (at_key k p.optional) (at_key k (rows_of i.optional))) && o) n ∙ and_false (not (agree (at_key k p.optional) (at_key k (rows_of i.optional))))
    ]))))))

found_same : (i : LockImporter) (o : Option AskedProject) → alias_differs i o ≡ None → FitsFound i o
found_same i None h = tt
found_same i (Some p) h = project_same i p h

same_found : (i : LockImporter) (o : Option AskedProject) → FitsFound i o → alias_differs i o ≡ None
same_found i None h = refl
same_found i (Some p) h = same_project i p h

abbrev AllFit : List LockImporter → List AskedProject → Type 0
AllFit is ps = AllByRecursion (λ (i : LockImporter). FitsFound i (project_at i.folder ps)) is

all_fit : (is : List LockImporter) (ps : List AskedProject) → specifier_differs is ps ≡ None → AllFit is ps
all_fit [] ps h = tt
all_fit (i ∷ is) ps h =
    let o = or_none (option_map (difference.Specifier i.folder) (alias_differs i (project_at i.folder ps))) (specifier_differs is ps) h in
    (found_same i (project_at i.folder ps) (unmapped (difference.Specifier i.folder) (alias_differs i (project_at i.folder ps)) o.0), all_fit is ps o.1)

fit_all : (is : List LockImporter) (ps : List AskedProject) → AllFit is ps → specifier_differs is ps ≡ None
fit_all [] ps h = refl
fit_all (i ∷ is) ps h =
    none_or (option_map (difference.Specifier i.folder) (alias_differs i (project_at i.folder ps))) (specifier_differs is ps)
    (ap (option_map (difference.Specifier i.folder)) (same_found i (project_at i.folder ps) h.0)) (fit_all is ps h.1)

-- ---- the whole

there : (l : Locked) (a : AskedLists) → first_of l a ≡ None → Fits l a
there l a h =
    let s = or_none (setting_differs l.auto a.auto) _ h in
    let o = or_none (option_map difference.Override (override_differs l.overrides a.overrides)) _ s.1 in
    let c = or_none (option_map spot_difference (worst_spot l.catalogs l.importers a.catalogs)) _ o.1 in
    let i = or_none (option_map difference.Importer (importer_differs l.importers a.projects)) _ c.1 in
    let rows = lesser_none (first_other (override_rows l.overrides) a.overrides) _ (unmapped difference.Override (override_differs l.overrides a.overrides) o.0) in
    let folders = lesser_none (first_missing (folders_of l.importers) (project_folders a.projects)) _ (unmapped difference.Importer (importer_differs l.importers a.projects) i.0) in
    let good = fits_at l.catalogs a.catalogs in
    let named = spots_good good (least_spot good None (locked_spots l.catalogs)) (spots_of l.importers) (unmapped spot_difference (worst_spot l.catalogs l.importers a.catalogs) c.0) in
    record {
      setting = setting_same l.auto a.auto s.0;
      overrides = same_rows (override_rows l.overrides) a.overrides rows.0 rows.1;
      entries = (spots_good good None (locked_spots l.catalogs) named.0).1;
      named = named.1;
      folders = same_keys (folders_of l.importers) (project_folders a.projects) folders.0 folders.1;
      projects = all_fit l.importers a.projects i.1;
    }

back : (l : Locked) (a : AskedLists) → Fits l a → first_of l a ≡ None
back l a f =
    let good = fits_at l.catalogs a.catalogs in
    none_or (setting_differs l.auto a.auto) _ (same_setting l.auto a.auto f.setting)
    (none_or (option_map difference.Override (override_differs l.overrides a.overrides)) _
    (ap (option_map difference.Override) (none_lesser (first_other (override_rows l.overrides) a.overrides) _ (no_other (override_rows l.overrides) a.overrides f.overrides) (no_other a.overrides (override_rows l.overrides) (λ k. sym (f.overrides k)))))
    (none_or (option_map spot_difference (worst_spot l.catalogs l.importers a.catalogs)) _
    (ap (option_map spot_difference) (good_spots good (least_spot good None (locked_spots l.catalogs)) (spots_of l.importers) (good_spots good None (locked_spots l.catalogs) refl f.entries) f.named))
    (none_or (option_map difference.Importer (importer_differs l.importers a.projects)) _
    (ap (option_map difference.Importer) (none_lesser (first_missing (folders_of l.importers) (project_folders a.projects)) _ (no_missing (folders_of l.importers) (project_folders a.projects) f.folders) (no_missing (project_folders a.projects) (folders_of l.importers) (λ k. sym (f.folders k)))))
    (fit_all l.importers a.projects f.projects))))

pub law : FitsLaw
law l a = (there l a, back l a)
