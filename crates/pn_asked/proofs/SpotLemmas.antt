-- The catalogs that specifiers name, and entries of catalogs.
use Rattle.std.proofs.Common.{◌≡◌, ℕ, ◌+◌, ◌<◌, length, get_or, ◌+◌, Bool, true, cond, List, [], ◌∷◌, ◌++◌, drop, refl, sym, ap, ◌∙◌, inl, inr}
use Rattle.std.specs.Prelude.{◌==◌, ◌&&◌, Option, Some, None, codes}
use Rattle.std.proofs.lemmas.Bool.{cases_Bool}
use Rattle.std.proofs.lemmas.List.{drop_more}
use Rattle.std.proofs.lemmas.Map.Views.{exact_unsigned_eq}
use Rattle.pn_text.proofs.Paths.{and_left, and_right}
use Rattle.pn_deppath.specs.Paths.{begins}
use Rattle.pn_spec.specs.declared.spec.Spec.{Spec}
use Rattle.pn_spec.specs.declared.spec.Spec.TheVariants as spec
use Rattle.pn_spec.specs.Forms.{IsSpec}
use Rattle.pn_spec.specs.Refusals.{FitsNoForm}
use Rattle.pn_spec.specs.SpecTexts.{trimmed}
use Rattle.pn_spec.specs.Tags.{is_catalog, or_default}
use Rattle.pn_spec.proofs.OneReading.{readings}
use Rattle.pn_lock.specs.declared.lists.LockImporter.{LockImporter}
use Rattle.pn_asked.specs.declared.spots.Spot.{Spot}
use Rattle.pn_asked.specs.Spots.{catalog_named, catalog_of, least_spot, lesser_spot, named_by, project_spots, spots_of}

-- ---- the catalog of a specifier

begun : (part t : List ℕ) → begins part t ≡ true → (rest : List ℕ) × (t ≡ part ++ rest)
begun [] t h = (t, refl)
begun (b ∷ bs) [] h = absurd (cc h)
begun (b ∷ bs) (c ∷ t) h =
    let r = begun bs t (and_right (c == b) (begins bs t) h) in
    (r.0, ap (λ x. x ∷ t) (exact_unsigned_eq c b (and_left (c == b) (begins bs t) h)) ∙ ap (λ x. b ∷ x) r.1)

is_named : (text c : List ℕ) → IsSpec text (spec.Catalog c) → Some c ≡ catalog_named text
is_named text c h = ap Some h.2.1 ∙ sym (ap named_by h.1 ∙ ap (λ o. cond o (Some (or_default h.0)) None) h.2.0)

named_is : (text c : List ℕ) → catalog_named text ≡ Some c → IsSpec text (spec.Catalog c)
named_is text c g = elim (cases_Bool (begins (codes "catalog:") (trimmed text) && is_catalog (drop 8 (trimmed text)))) [
  | inl e ↦
      let r = begun (codes "catalog:") (trimmed text) (and_left (begins (codes "catalog:") (trimmed text)) (is_catalog (drop 8 (trimmed text))) e) in
      let d : drop 8 (trimmed text) ≡ r.0 = ap (drop 8) r.1 in
      let good = and_right (begins (codes "catalog:") (trimmed text)) (is_catalog (drop 8 (trimmed text))) e in
      let one : Some (or_default (drop 8 (trimmed text))) ≡ Some c = sym (ap (λ o. cond o (Some (or_default (drop 8 (trimmed text)))) None) e) ∙ g in
      (r.0, r.1, (ap is_catalog (sym d) ∙ good, same_some (or_default (drop 8 (trimmed text))) c one ∙ ap or_default d))
  | inr e ↦ absurd (cc (g, ap (λ o. cond o (Some (or_default (drop 8 (trimmed text)))) None) e))
] where
  same_some : (x y : List ℕ) → Some x ≡ Some y → y ≡ x
  same_some x y h = cc

not_named : (text : List ℕ) → ((c : List ℕ) → IsSpec text (spec.Catalog c) → ⊥) → None ≡ catalog_named text
not_named text n = (elim (catalog_named text) as (λ o. catalog_named text ≡ o → None ≡ o) [
  | None ↦ λ e. refl
  | Some c ↦ λ e. absurd (n c (named_is text c e))
]) refl

pub read_named : (text : List ℕ) (s : Spec) → IsSpec text s → catalog_of s ≡ catalog_named text
read_named text (spec.Catalog c) h = is_named text c h
read_named text (spec.Range r) h = not_named text (λ c k. let e = readings.one text (spec.Range r) (spec.Catalog c) h k in cc)
read_named text (spec.Tag t) h = not_named text (λ c k. let e = readings.one text (spec.Tag t) (spec.Catalog c) h k in cc)
read_named text (spec.Alias n w) h = not_named text (λ c k. let e = readings.one text (spec.Alias n w) (spec.Catalog c) h k in cc)
read_named text (spec.Workspace w) h = not_named text (λ c k. let e = readings.one text (spec.Workspace w) (spec.Catalog c) h k in cc)

pub refused_named : (text : List ℕ) → FitsNoForm (trimmed text) → None ≡ catalog_named text
refused_named text h = not_named text (λ c k. readings.none text (spec.Catalog c) h k)

-- ---- the least of some entries

pub lesser_spot_same : (a : Option Spot) → a ≡ lesser_spot a None
lesser_spot_same None = refl
lesser_spot_same (Some a) = refl

pub least_append : (good : Spot → Bool) (best : Option Spot) (xs ys : List Spot) → least_spot good best (xs ++ ys) ≡ least_spot good (least_spot good best xs) ys
least_append good best [] ys = refl
least_append good best (x ∷ xs) ys = least_append good (lesser_spot best (cond (good x) None (Some x))) xs ys

-- the specifiers of a project, one map after the other
pub spots_three : (good : Spot → Bool) (a b c : List Spot) (found first second third : Option Spot) → first ≡ least_spot good found a → second ≡ least_spot good first b → third ≡ least_spot good second c
    → third ≡ least_spot good found (a ++ (b ++ c))
spots_three good a b c found first second third p q r =
    r ∙ ap (λ o. least_spot good o c) (q ∙ ap (λ o. least_spot good o b) p) ∙ sym (least_append good (least_spot good found a) b c) ∙ sym (least_append good found a (b ++ c))

pub spots_next : (good : Spot → Bool) (is : List LockImporter) (n : ℕ) (i : LockImporter) (old new whole : Option Spot) → n < length is → i ≡ get_or is n i → new ≡ least_spot good old (project_spots i)
    → least_spot good old (spots_of (drop n is)) ≡ whole → least_spot good new (spots_of (drop (n + 1) is)) ≡ whole
spots_next good is n i old new whole lt item more so_far =
    let rest = spots_of (drop (n + 1) is) in
    let here : drop n is ≡ i ∷ drop (n + 1) is = drop_more is n i lt ∙ ap (λ j. j ∷ drop (n + 1) is) (sym item) in
    ap (λ o. least_spot good o rest) more ∙ sym (least_append good old (project_spots i) rest) ∙ ap (λ js. least_spot good old (spots_of js)) (sym here) ∙ so_far
