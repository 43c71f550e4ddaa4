-- The texts of dep paths, whole and without a name.
use Rattle.std.proofs.Common.{◌≡◌, ℕ, suc, true, false, cond, List, [], ◌∷◌, ◌++◌, length, drop, refl, sym, ap, ◌∙◌, inl, inr, append_assoc, append-nil}
use Rattle.std.specs.Prelude.{◌==◌, ◌&&◌, ◌||◌, not}
use Rattle.std.proofs.lemmas.Bool.{cases_Bool, eqb-true}
use Rattle.std.proofs.lemmas.List.Folds.{list_any-append}
use Rattle.pn_text.specs.Ids.{after_at, id_name, is_id, is_version}
use Rattle.pn_text.specs.Name.{is_name}
use Rattle.pn_text.proofs.Bools.{and_left, and_right, left_false, right_false}
use Rattle.pn_text.proofs.IdTexts.{name_of_id}
use Rattle.pn_deppath.specs.Cuts.{before, has_byte}
use Rattle.pn_deppath.specs.PathLaw.{IsCut}
use Rattle.pn_deppath.specs.Paths.{are_groups, begins, group_part, holds, id_part, is_dep_path, patch_mark}
use Rattle.pn_deppath.proofs.IdBytes.{is_id_byte, name_bytes, without}
use Rattle.pn_deppath.proofs.PathLemmas.{before_front, groups_begin}
use Rattle.pn_deppath.proofs.VersionBytes.{is_version_byte, version_bytes, version_some}
use Rattle.pn_lock_shape.specs.Targets.{link_mark, is_whole, whole_path}

pub own_name : (path : List ℕ) (c : IsCut path) → id_name (id_part path) ≡ c.name
own_name path c = ap id_name c.id ∙ name_of_id c.name c.version c.named

-- ---- no target's text begins a link

begun : (part t : List ℕ) → begins part t ≡ true → (rest : List ℕ) × (t ≡ part ++ rest)
begun [] t h = (t, refl)
begun (b ∷ bs) [] h = absurd (cc h)
begun (b ∷ bs) (c ∷ t) h =
    let r = begun bs t (and_right (c == b) (begins bs t) h) in
    (r.0, ap (λ x. x ∷ t) (eqb-true c b (and_left (c == b) (begins bs t) h)) ∙ ap (λ x. b ∷ x) r.1)

no_link : (t front : List ℕ) → before 40 t ≡ front → has_byte 58 front ≡ false → begins link_mark t ≡ false
no_link t front e n = elim (cases_Bool (begins link_mark t)) [
  | inl h ↦ let r = begun link_mark t h in absurd (cc (n, ap (has_byte 58) (sym e ∙ ap (before 40) r.1)))
  | inr h ↦ h
]

has_between : (c b : ℕ) (x y : List ℕ) → has_byte c x ≡ false → (b == c) ≡ false → has_byte c y ≡ false → has_byte c (x ++ b ∷ y) ≡ false
has_between c b x y p q r = list_any-append (λ z. z == c) x (b ∷ y) ∙ ap (λ o. o || ((b == c) || has_byte c y)) p ∙ ap (λ o. o || has_byte c y) q ∙ r

front_of : (v g : List ℕ) → has_byte 40 v ≡ false → are_groups 0 g ≡ true → before 40 (v ++ g) ≡ v
front_of v g n h = before_front 40 v g n ∙ ap (λ t. v ++ t) (groups_begin g h).0 ∙ append-nil v

version_has : (b : ℕ) (v : List ℕ) → is_version v ≡ true → is_version_byte b ≡ false → has_byte b v ≡ false
version_has b v h n = without is_version_byte b v (version_bytes v h) n

-- the text without the name
pub short_link : (path : List ℕ) (c : IsCut path) → begins link_mark (c.version ++ c.groups) ≡ false
short_link path c = no_link (c.version ++ c.groups) c.version (front_of c.version c.groups (version_has 40 c.version c.versioned refl) c.grouped) (version_has 58 c.version c.versioned refl)

not_whole : (v g : List ℕ) → has_byte 40 v ≡ false → has_byte 64 v ≡ false → are_groups 0 g ≡ true → (b : ℕ) × (rest : List ℕ) × (v ≡ b ∷ rest) → is_whole (v ++ g) ≡ false
not_whole [] g m n h some = absurd (cc some.2)
not_whole (b ∷ v) g m n h some = ap (has_byte 64) (front_of v g (right_false (b == 40) (has_byte 40 v) m) h) ∙ right_false (b == 64) (has_byte 64 v) n

pub short_back : (path : List ℕ) (c : IsCut path) → whole_path c.name (c.version ++ c.groups) ≡ path
short_back path c =
    ap (λ o. cond o (c.version ++ c.groups) (c.name ++ 64 ∷ (c.version ++ c.groups)))
    (not_whole c.version c.groups (version_has 40 c.version c.versioned refl) (version_has 64 c.version c.versioned refl) c.grouped (version_some c.version c.versioned))
    ∙ sym (c.whole ∙ append_assoc c.name (64 ∷ c.version) c.groups)

dropped : (a t : List ℕ) → drop (suc (length a)) (a ++ 64 ∷ t) ≡ t
dropped [] t = refl
dropped (b ∷ a) t = dropped a t

pub short_text : (alias path : List ℕ) (c : IsCut path) → c.name ≡ alias → drop (suc (length alias)) path ≡ c.version ++ c.groups
short_text alias path c e =
    ap (λ a. drop (suc (length a)) path) (sym e) ∙ ap (drop (suc (length c.name))) (c.whole ∙ append_assoc c.name (64 ∷ c.version) c.groups) ∙ dropped c.name (c.version ++ c.groups)

-- the whole text
pub whole_link : (path : List ℕ) (c : IsCut path) → begins link_mark path ≡ false
whole_link path c = no_link path (c.name ++ 64 ∷ c.version) c.id
    (has_between 58 64 c.name c.version (without is_id_byte 58 c.name (name_bytes c.name c.named) refl) refl (version_has 58 c.version c.versioned refl))

none_after : (t : List ℕ) → has_byte 64 t ≡ false → after_at t ≡ []
none_after [] h = refl
none_after (b ∷ t) h = ap (λ o. cond o t (after_at t)) (left_false (b == 64) (has_byte 64 t) h) ∙ none_after t (right_false (b == 64) (has_byte 64 t) h)

pub whole_back : (path : List ℕ) → is_dep_path path ≡ true → is_whole path ≡ true
whole_back [] h = absurd (cc h)
whole_back (b ∷ r) h = (elim (b == 40) as (λ o. is_id (cond o [] (b ∷ before 40 r)) ≡ true → has_byte 64 (before 40 r) ≡ true) [
  | true ↦ λ i. absurd (cc i)
  | false ↦ λ i. elim (cases_Bool (has_byte 64 (before 40 r))) [
    | inl e ↦ e
    | inr e ↦ absurd (let v = and_right (is_name (id_name (b ∷ before 40 r))) (is_version (after_at (before 40 r))) i in cc (v, ap is_version (none_after (before 40 r) e)))
  ]
]) (and_left (is_id (id_part (b ∷ r))) (are_groups 0 (group_part (b ∷ r)) && not (holds patch_mark (b ∷ r))) h)
