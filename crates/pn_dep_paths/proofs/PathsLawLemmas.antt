-- The base texts of instances, told apart by ordinals, are dep paths.
use Rattle.std.proofs.Common.{map, ◌≡◌, ◌<◌, ◌≤◌, ◌^◌, ℕ, zero, suc, ◌+◌, ◌%◌, List, [], ◌∷◌, ◌++◌, length, Bool, true, false, cond, refl, sym, ap, ◌∙◌, subst, inl, inr, arith, append_assoc}
use Rattle.std.specs.Prelude.{◌==◌, ◌||◌, bytes_eq}
use Rattle.std.specs.Fmt.{decimal}
use Rattle.std.specs.List.{All, Contains, concat, list_all}
use Rattle.std.specs.Cmp.Derive.{both_true}
use Rattle.std.proofs.lemmas.Bool.{cases_Bool, cases_lt, eqb-true}
use Rattle.std.proofs.lemmas.Bool.Decides.{nat_tests}
use Rattle.std.proofs.lemmas.Fmt.{decimal_by_steps}
use Rattle.std.proofs.lemmas.List.Elements.{All-contains, All-from_get_or, All-head, All-tail}
use Rattle.pn_text.specs.Ids.{id_name, id_version, is_id, is_version}
use Rattle.pn_text.specs.Name.{is_name}
use Rattle.pn_text.proofs.Bools.{and_left, and_right}
use Rattle.pn_text.proofs.IdTexts.{text_again}
use Rattle.pn_text.proofs.Members.{all-append, none_in}
use Rattle.pn_deppath.specs.Cuts.{before, has_byte}
use Rattle.pn_deppath.specs.Groups.{shortened}
use Rattle.pn_deppath.specs.Ordinals.{OrdinalLaw, numbered_behind, times, with_ordinals, with_place}
use Rattle.pn_deppath.specs.Paths.{are_groups, begins, holds, id_part, is_dep_path, patch_mark}
use Rattle.pn_deppath.proofs.IdBytes.{all_weaker, id_bytes, is_id_byte, without}
use Rattle.pn_deppath.proofs.PathLemmas.{before_front, groups_begin, is_made}
use Rattle.pn_outer.specs.declared.instance.Instance.{Instance}
use Rattle.pn_outer.specs.declared.instance.Link.{Link}
use Rattle.pn_outer.specs.Instances.{peers_at}
use Rattle.pn_outer.specs.Outer.{IsOuter, below, provided}
use Rattle.pn_dep_paths.specs.BaseTexts.{AreBaseTexts, Holds, IsBaseText, IsGroup, apart, id_at, in_parentheses, project, text_at, together}
use Rattle.pn_dep_paths.specs.PathsLaw.{ArePathsOf, HasNames, PathsLaw}
use Rattle.pn_dep_paths.specs.Relation.{AreTogether, LeadsOut}
use Rattle.pn_dep_paths.proofs.BalancedLemmas.{HasGroups, IsBalanced, IsHeld, all_groups, both_balanced, held_both, held_groups, held_id, held_project, in_group, inside_bytes, is_base_byte, is_inner_byte, is_path_byte, one_group, short_groups}
use Rattle.pn_dep_paths.proofs.LawLemmas.{by_components}

nil : (xs : List ℕ) → xs ++ [] ≡ xs
nil [] = refl
nil (x ∷ xs) = ap (λ (t : List ℕ). x ∷ t) (nil xs)

-- ---- names of instances

pub id_there : (instances : List Instance) (i : ℕ) → All HasNames instances → i < length instances → is_id (id_at instances i) ≡ true
id_there [] i h lt = absurd (omega (arith, lt))
id_there (x ∷ instances) zero h lt = (All-head HasNames x instances h).id
id_there (x ∷ instances) (suc i) h lt = id_there instances i (All-tail HasNames x instances h) (omega (arith, lt))

no_id : (instances : List Instance) (i : ℕ) → length instances ≤ i → id_at instances i ≡ []
no_id [] i h = refl
no_id (x ∷ instances) zero h = absurd (omega (arith, h))
no_id (x ∷ instances) (suc i) h = no_id instances i (omega (arith, h))

no_text : (texts : List (List ℕ)) (i : ℕ) → length texts ≤ i → text_at texts i ≡ []
no_text [] zero h = refl
no_text [] (suc i) h = refl
no_text (t ∷ texts) zero h = absurd (omega (arith, h))
no_text (t ∷ texts) (suc i) h = no_text texts i (omega (arith, h))

held_none : IsHeld []
held_none = held_id [] refl

held_id_at : (instances : List Instance) (i : ℕ) → All HasNames instances → IsHeld (id_at instances i)
held_id_at instances i h = elim (cases_lt i (length instances)) [
  | inl lt ↦ held_id (id_at instances i) (id_bytes (id_at instances i) (id_there instances i h lt))
  | inr le ↦ subst IsHeld (sym (no_id instances i le)) held_none
]

peer_name : (instances : List Instance) (i : ℕ) (pair : Link) → All HasNames instances → Contains (peers_at instances i) pair → is_name pair.name ≡ true
peer_name [] i pair h c = absurd (none_in pair c)
peer_name (x ∷ instances) zero pair h c = All-contains (λ (l : Link). is_name l.name ≡ true) x.peers pair (All-head HasNames x instances h).peers c
peer_name (x ∷ instances) (suc i) pair h c = peer_name instances i pair (All-tail HasNames x instances h) c

outer_name : (instances : List Instance) (pair : Link) (i : ℕ) → All HasNames instances → IsOuter instances pair i → is_name pair.name ≡ true
outer_name instances pair _ h (provided i c) = peer_name instances i pair h c
outer_name instances pair _ h (below i j d n o) = outer_name instances pair j h o

-- ---- base texts

module _ (folders : List (List ℕ)) (instances : List Instance) (texts : List (List ℕ)) (named : All HasNames instances) (base : AreBaseTexts folders instances texts) where
  -- what a group holds, where the texts of those that don't lead back are known
  held_by : (i : ℕ) (pair : Link) (text : List ℕ) → ((j : ℕ) → LeadsOut instances i j → (AreTogether instances i j → ⊥) → IsHeld (text_at texts j)) → IsOuter instances pair i
      → Holds folders instances texts i pair text → IsHeld text
  held_by i pair text known o (project q e is) = subst IsHeld (sym is) (held_project pair.name (text_at folders q.0) (outer_name instances pair i named o))
  held_by i pair text known o (together j e t is) = subst IsHeld (sym is) (held_id_at instances j.0 named)
  held_by i pair text known o (apart j e n is) = subst IsHeld (sym is) (known j.0 (record { pair = pair; outer = o; to = e }) n)

  group_by : (i : ℕ) (g : List ℕ) → ((j : ℕ) → LeadsOut instances i j → (AreTogether instances i j → ⊥) → IsHeld (text_at texts j)) → IsGroup folders instances texts i g → HasGroups g
  group_by i g known h = subst HasGroups (sym h.is) (one_group h.text (held_by i h.pair h.text known h.outer h.holds))

  groups_by : (i : ℕ) (text : List ℕ) → ((j : ℕ) → LeadsOut instances i j → (AreTogether instances i j → ⊥) → IsHeld (text_at texts j)) → (h : IsBaseText folders instances texts i text)
      → HasGroups (shortened (concat h.groups))
  groups_by i text known h = short_groups (concat h.groups) (all_groups h.groups (λ g c. group_by i g known (h.are.right g c)))

  held_at : (i : ℕ) → IsHeld (text_at texts i)
  held_at = by_components (LeadsOut instances) (length instances) (λ i. IsHeld (text_at texts i))
      (λ i high. let long = base.count in subst IsHeld (sym (no_text texts i (omega (arith, long, high)))) held_none)
      (λ i lt known.
      let h = base.each i lt in
      subst IsHeld (sym h.is) (held_both (id_at instances i) (shortened (concat h.groups)) (held_id_at instances i named) (held_groups (shortened (concat h.groups)) (groups_by i (text_at texts i) known h))))

  plain : All (λ (t : List ℕ). has_byte 126 t ≡ false) texts
  plain = All-from_get_or (λ (t : List ℕ). has_byte 126 t ≡ false) texts [] (λ i lt. without is_base_byte 126 (text_at texts i) (held_at i).bytes refl)

  groups_at : (i : ℕ) (lt : i < length instances) → HasGroups (shortened (concat (base.each i lt).groups))
  groups_at i lt = groups_by i (text_at texts i) (λ j l n. held_at j) (base.each i lt)

-- ---- ordinals

inner_digit : (k : ℕ) → k < 10 → is_inner_byte (48 + k) ≡ true
inner_digit k h = grind (arith, nat_tests)

decimal_inner : (n : ℕ) → n < 2 ^ 64 → list_all is_inner_byte (decimal n) ≡ true
decimal_inner n fits = decimal_by_steps (λ n ds. list_all is_inner_byte ds ≡ true)
    (λ k h. both_true (inner_digit k h) refl)
    (λ k ds h done. all-append is_inner_byte ds ((48 + k % 10) ∷ []) done (both_true (inner_digit (k % 10) (omega arith)) refl)) n fits

-- What follows the id in a dep path.
record IsTail (t : List ℕ) : Type 0 where
  balanced : IsBalanced t
  bytes : list_all is_path_byte t ≡ true

base_path : (b : ℕ) → is_base_byte b ≡ true → is_path_byte b ≡ true
base_path b h = grind (arith, nat_tests)

inner_path : (b : ℕ) → is_inner_byte b ≡ true → is_path_byte b ≡ true
inner_path b h = grind (arith, nat_tests)

groups_tail : (t : List ℕ) → HasGroups t → IsTail t
groups_tail t h = record { balanced = h.balanced; bytes = all_weaker is_base_byte is_path_byte base_path t h.bytes }

ordinal_tail : (n : ℕ) → n < 2 ^ 64 → IsTail (in_parentheses (126 ∷ decimal n))
ordinal_tail n fits =
    let inner : list_all is_inner_byte (126 ∷ decimal n) ≡ true = decimal_inner n fits in
    record {
      balanced = in_group (126 ∷ decimal n) (inside_bytes (126 ∷ decimal n) inner);
      bytes = all-append is_path_byte (126 ∷ decimal n) (41 ∷ []) (all_weaker is_inner_byte is_path_byte inner_path (126 ∷ decimal n) inner) refl;
    }

-- A path is that text and a tail.
record IsWith (id path : List ℕ) : Type 0 where
  tail : List ℕ
  is : path ≡ id ++ tail
  good : IsTail tail

with_tail : (id g : List ℕ) (k : ℕ) → k < 2 ^ 32 → HasGroups g → IsWith id (with_place (id ++ g) k)
with_tail id g zero lt h = record { tail = g; is = refl; good = groups_tail g h }
with_tail id g (suc k) lt h =
    let o = in_parentheses (126 ∷ decimal (suc k + 1)) in
    let t = groups_tail g h in
    let u = ordinal_tail (suc k + 1) (omega (arith, lt)) in
    record { tail = g ++ o; is = append_assoc id g o; good = record { balanced = both_balanced g o t.balanced u.balanced; bytes = all-append is_path_byte g o t.bytes u.bytes } }

times_few : (before : List (List ℕ)) (t : List ℕ) → times before t ≤ length before
times_few [] t = omega arith
times_few (x ∷ before) t =
    let r = times_few before t in
    elim (bytes_eq x t) as (λ b. cond b (suc (times before t)) (times before t) ≤ suc (length before)) [ true ↦ omega (arith, r) | false ↦ omega (arith, r) ]

-- The text at a place has one of the first ordinals.
record IsPlaced (text path : List ℕ) (most : ℕ) : Type 0 where
  place : ℕ
  few : place ≤ most
  is : path ≡ with_place text place

length-more : (xs : List (List ℕ)) (t : List ℕ) → length (xs ++ t ∷ []) ≡ length xs + 1
length-more [] t = refl
length-more (x ∷ xs) t = let r = length-more xs t in omega (arith, r)

placed : (before ts : List (List ℕ)) (i : ℕ) → i < length ts → IsPlaced (text_at ts i) (text_at (numbered_behind before ts) i) (length before + i)
placed before [] i lt = absurd (omega (arith, lt))
placed before (t ∷ ts) zero lt = record { place = times before t; few = (let r = times_few before t in omega (arith, r)); is = refl }
placed before (t ∷ ts) (suc i) lt =
    let r = placed (before ++ t ∷ []) ts i (omega (arith, lt)) in
    let few = r.few in
    let more = length-more before t in
    record { place = r.place; few = omega (arith, few, more); is = r.is }

length-numbered : (before ts : List (List ℕ)) → length (numbered_behind before ts) ≡ length ts
length-numbered before [] = refl
length-numbered before (t ∷ ts) = ap suc (length-numbered (before ++ t ∷ []) ts)

-- ---- dep paths

begins_has : (part t : List ℕ) (b : ℕ) → begins part t ≡ true → has_byte b part ≡ true → has_byte b t ≡ true
begins_has [] t b h k = absurd (cc k)
begins_has (p ∷ part) [] b h k = absurd (cc h)
begins_has (p ∷ part) (c ∷ t) b h k =
    let same = eqb-true c p (and_left (c == p) (begins part t) h) in
    elim (cases_Bool (p == b)) [
      | inl e ↦ ap (λ (x : ℕ). (x == b) || has_byte b t) same ∙ ap (λ (o : Bool). o || has_byte b t) e
      | inr e ↦ or_right (c == b) (has_byte b t) (begins_has part t b (and_right (c == p) (begins part t) h) (sym (ap (λ (o : Bool). o || has_byte b part) e) ∙ k))
    ] where
      or_right : (x y : Bool) → y ≡ true → (x || y) ≡ true
      or_right true y h = refl
      or_right false y h = h

no_begin : (t : List ℕ) → has_byte 61 t ≡ false → begins patch_mark t ≡ false
no_begin t h = elim (cases_Bool (begins patch_mark t)) [
  | inl e ↦ absurd (let k = begins_has patch_mark t 61 e refl in cc (h, k))
  | inr e ↦ e
]

right_false : (x y : Bool) → (x || y) ≡ false → y ≡ false
right_false true y h = absurd (cc h)
right_false false y h = h

no_mark : (t : List ℕ) → has_byte 61 t ≡ false → holds patch_mark t ≡ false
no_mark [] h = refl
no_mark (b ∷ t) h = ap (λ (o : Bool). o || holds patch_mark t) (no_begin (b ∷ t) h) ∙ no_mark t (right_false (b == 61) (has_byte 61 t) h)

grouped : (t : List ℕ) → IsTail t → are_groups 0 t ≡ true
grouped t h = sym (ap (are_groups 0) (nil t)) ∙ h.balanced 0 []

dep_path : (id path : List ℕ) → is_id id ≡ true → IsWith id path → (is_dep_path path ≡ true) × (id_part path ≡ id)
dep_path id path h w =
    let named = and_left (is_name (id_name id)) (is_version (id_version id)) h in
    let versioned = and_right (is_name (id_name id)) (is_version (id_version id)) h in
    let groups = grouped w.tail w.good in
    let made = is_made (id_name id) (id_version id) w.tail named versioned groups (no_mark w.tail (without is_path_byte 61 w.tail w.good.bytes refl)) in (
      ap is_dep_path (w.is ∙ ap (λ (t : List ℕ). t ++ w.tail) (sym (text_again id versioned))) ∙ made,
      ap id_part w.is ∙ before_front 40 id w.tail (without is_id_byte 40 id (id_bytes id h) refl) ∙ ap (λ (t : List ℕ). id ++ t) (groups_begin w.tail groups).0 ∙ nil id,
    )

at_place : (folders : List (List ℕ)) (instances : List Instance) (texts : List (List ℕ)) → length instances < 2 ^ 32 → All HasNames instances → AreBaseTexts folders instances texts → (i : ℕ) → i < length instances
    → (is_dep_path (text_at (with_ordinals texts) i) ≡ true) × (id_part (text_at (with_ordinals texts) i) ≡ id_at instances i)
at_place folders instances texts few named base i lt =
    let long = base.count in
    let p = placed [] texts i (omega (arith, lt, long)) in
    let most = p.few in
    let h = base.each i lt in
    let id = id_at instances i in
    let w = with_tail id (shortened (concat h.groups)) p.place (omega (arith, most, lt, few)) (groups_at folders instances texts named base i lt) in
    dep_path id (text_at (with_ordinals texts) i) (id_there instances i named lt) (subst (IsWith id) (sym (p.is ∙ ap (λ (t : List ℕ). with_place t p.place) h.is)) w)

pub law : OrdinalLaw → PathsLaw
law o = record {
  paths = λ folders instances texts few named base. record {
    count = length-numbered [] texts ∙ base.count;
    path = λ i lt. (at_place folders instances texts few named base i lt).0;
    id = λ i lt. (at_place folders instances texts few named base i lt).1;
    distinct = o.distinct texts (let long = base.count in omega (arith, few, long)) (plain folders instances texts named base);
  };
}

pub all_paths : (instances : List Instance) (paths : List (List ℕ)) → ArePathsOf instances paths → All (λ (p : List ℕ). is_dep_path p ≡ true) paths
all_paths instances paths h = All-from_get_or (λ (p : List ℕ). is_dep_path p ≡ true) paths [] (λ i lt. let long = h.count in h.path i (omega (arith, lt, long)))

ids_by : (instances : List Instance) (paths : List (List ℕ)) → length paths ≡ length instances → ((i : ℕ) → i < length instances → id_part (text_at paths i) ≡ id_at instances i)
    → map id_part paths ≡ map (λ (i : Instance). i.id) instances
ids_by [] [] e h = refl
ids_by [] (p ∷ paths) e h = absurd (omega (arith, e))
ids_by (x ∷ instances) [] e h = absurd (omega (arith, e))
ids_by (x ∷ instances) (p ∷ paths) e h =
    ap (λ (t : List ℕ). t ∷ map id_part paths) (h 0 (omega arith))
    ∙ ap (λ (l : List (List ℕ)). x.id ∷ l) (ids_by instances paths (omega (arith, e)) (λ i lt. h (suc i) (omega (arith, lt))))

pub path_ids : (instances : List Instance) (paths : List (List ℕ)) → ArePathsOf instances paths → map id_part paths ≡ map (λ (i : Instance). i.id) instances
path_ids instances paths h = ids_by instances paths h.count h.id
