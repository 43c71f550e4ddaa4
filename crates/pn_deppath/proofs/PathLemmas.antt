-- What dep paths are made of.
use Rattle.std.proofs.Common.{◌≡◌, ◌<◌, ◌≤◌, ℕ, zero, suc, ◌+◌, ◌-◌, length, get_or, drop, Some, None, List, [], ◌∷◌, ◌++◌, Bool, true, false, cond, refl, sym, ap, ◌∙◌, subst, arith}
use Rattle.std.specs.Prelude.{◌==◌, ◌&&◌, ◌||◌, nat_le, not, is_some, Option}
use Rattle.std.specs.List.{list_all}
use Rattle.std.specs.Cmp.Derive.{both_true}
use Rattle.std.proofs.lemmas.Bool.{eqb-true, ne_eqb}
use Rattle.std.proofs.lemmas.Bool.Decides.{nat_tests}
use Rattle.std.proofs.lemmas.List.{drop_more}
use Rattle.pn_text.specs.Ids.{id_text, id_name, id_version, is_id, is_version}
use Rattle.pn_text.specs.Name.{is_name}
use Rattle.pn_text.proofs.Bools.{and_left, and_right, left_false, right_false}
use Rattle.pn_text.proofs.IdTexts.{name_of_id, text_again, version_of_id}
use Rattle.pn_text.proofs.Members.{all-append}
use Rattle.pn_deppath.specs.Cuts.{before, from, has_byte}
use Rattle.pn_deppath.specs.Folders.{is_ascii}
use Rattle.pn_deppath.specs.Paths.{are_groups, begins, group_part, holds, id_part, is_dep_path, next_open, patch_mark}
use Rattle.pn_deppath.specs.PathLaw.{IsCut, PathLaw}
use Rattle.pn_deppath.proofs.IdBytes.{all_weaker, id_ascii, id_text_bytes, is_id_byte, without}

pub cut_whole : (b : ℕ) (t : List ℕ) → t ≡ before b t ++ from b t
cut_whole b [] = refl
cut_whole b (c ∷ rest) = elim (c == b) as (λ o. c ∷ rest ≡ cond o [] (c ∷ before b rest) ++ cond o (c ∷ rest) (from b rest)) [
  | true ↦ refl
  | false ↦ ap (λ t. c ∷ t) (cut_whole b rest)
]

-- a front without the byte is passed over
pub before_front : (b : ℕ) (v g : List ℕ) → has_byte b v ≡ false → before b (v ++ g) ≡ v ++ before b g
before_front b [] g h = refl
before_front b (c ∷ v) g h =
    ap (λ (o : Bool). cond o [] (c ∷ before b (v ++ g))) (left_false (c == b) (has_byte b v) h) ∙ ap (λ t. c ∷ t) (before_front b v g (right_false (c == b) (has_byte b v) h))

pub from_front : (b : ℕ) (v g : List ℕ) → has_byte b v ≡ false → from b (v ++ g) ≡ from b g
from_front b [] g h = refl
from_front b (c ∷ v) g h =
    ap (λ (o : Bool). cond o (c ∷ (v ++ g)) (from b (v ++ g))) (left_false (c == b) (has_byte b v) h) ∙ from_front b v g (right_false (c == b) (has_byte b v) h)

-- groups begin with the parenthesis, or there are none
pub groups_begin : (g : List ℕ) → are_groups 0 g ≡ true → (before 40 g ≡ []) × (from 40 g ≡ g)
groups_begin [] h = (refl, refl)
groups_begin (b ∷ rest) h =
    let first = and_left (b == 40) (are_groups 1 rest) h in
    (ap (λ (o : Bool). cond o [] (b ∷ before 40 rest)) first, ap (λ (o : Bool). cond o (b ∷ rest) (from 40 rest)) first)

-- bytes before the first parenthesis begin no group
no_begin : (b : ℕ) (bs : List ℕ) → (b == 40) ≡ false → begins patch_mark (b ∷ bs) ≡ false
no_begin b bs h = ap (λ (o : Bool). o && begins (112 ∷ 97 ∷ 116 ∷ 99 ∷ 104 ∷ 95 ∷ 104 ∷ 97 ∷ 115 ∷ 104 ∷ 61 ∷ []) bs) h

pub holds_front : (v g : List ℕ) → has_byte 40 v ≡ false → holds patch_mark (v ++ g) ≡ holds patch_mark g
holds_front [] g h = refl
holds_front (b ∷ v) g h =
    ap (λ (o : Bool). o || holds patch_mark (v ++ g)) (no_begin b (v ++ g) (left_false (b == 40) (has_byte 40 v) h)) ∙ holds_front v g (right_false (b == 40) (has_byte 40 v) h)

id_plain : (name version : List ℕ) → is_name name ≡ true → is_version version ≡ true → has_byte 40 (id_text name version) ≡ false
id_plain name version h k = without is_id_byte 40 (id_text name version) (id_text_bytes name version h k) refl

pub is_cut : (path : List ℕ) → is_dep_path path ≡ true → IsCut path
is_cut path h =
    let id = id_part path in
    let good : is_id id ≡ true = and_left (is_id id) (are_groups 0 (group_part path) && not (holds patch_mark path)) h in
    let versioned : is_version (id_version id) ≡ true = and_right (is_name (id_name id)) (is_version (id_version id)) good in
    record {
      name = id_name id;
      version = id_version id;
      groups = group_part path;
      named = and_left (is_name (id_name id)) (is_version (id_version id)) good;
      versioned = versioned;
      grouped = and_left (are_groups 0 (group_part path)) (not (holds patch_mark path)) (and_right (is_id id) (are_groups 0 (group_part path) && not (holds patch_mark path)) h);
      id = sym (text_again id versioned);
      whole = cut_whole 40 path ∙ ap (λ (t : List ℕ). t ++ group_part path) (sym (text_again id versioned));
    }

made_id : (name version : List ℕ) → is_name name ≡ true → is_version version ≡ true → is_id (id_text name version) ≡ true
made_id name version h k = both_true (ap is_name (name_of_id name version h) ∙ h) (ap is_version (version_of_id name version h) ∙ k)

pub is_made : (name version groups : List ℕ) → is_name name ≡ true → is_version version ≡ true → are_groups 0 groups ≡ true → holds patch_mark groups ≡ false → is_dep_path (id_text name version ++ groups) ≡ true
is_made name version groups h k g p =
    let id = id_text name version in
    let plain = id_plain name version h k in
    let begin = groups_begin groups g in
    let front : id_part (id ++ groups) ≡ id = before_front 40 id groups plain ∙ ap (λ (t : List ℕ). id ++ t) begin.0 ∙ nil id in
    let rest : group_part (id ++ groups) ≡ groups = from_front 40 id groups plain ∙ begin.1 in
    both_true (ap is_id front ∙ made_id name version h k) (both_true (ap (are_groups 0) rest ∙ g) (ap not (holds_front id groups plain ∙ p))) where
      nil : (xs : List ℕ) → xs ++ [] ≡ xs
      nil [] = refl
      nil (x ∷ xs) = ap (λ (t : List ℕ). x ∷ t) (nil xs)

-- ---- bytes below 128

shown_ascii : (b : ℕ) → (nat_le 33 b && nat_le b 126) ≡ true → is_ascii b ≡ true
shown_ascii b h = grind (arith, nat_tests)

pub groups_ascii : (n : ℕ) (g : List ℕ) → are_groups n g ≡ true → list_all is_ascii g ≡ true
groups_ascii zero [] h = refl
groups_ascii (suc n) [] h = (cc)
groups_ascii zero (b ∷ rest) h =
    both_true (ap is_ascii (eqb-true b 40 (and_left (b == 40) (are_groups 1 rest) h))) (groups_ascii 1 rest (and_right (b == 40) (are_groups 1 rest) h))
groups_ascii (suc n) (b ∷ rest) h =
    both_true (shown_ascii b (and_left (nat_le 33 b && nat_le b 126) _ h))
    ((elim (b == 40) as (λ p. cond p (are_groups (suc (suc n)) rest) (cond (b == 41) (are_groups n rest) (are_groups (suc n) rest)) ≡ true → list_all is_ascii rest ≡ true) [
      | true ↦ λ e. groups_ascii (suc (suc n)) rest e
      | false ↦ elim (b == 41) as (λ q. cond q (are_groups n rest) (are_groups (suc n) rest) ≡ true → list_all is_ascii rest ≡ true) [
        | true ↦ λ e. groups_ascii n rest e
        | false ↦ λ e. groups_ascii (suc n) rest e
      ]
    ]) (and_right (nat_le 33 b && nat_le b 126) _ h))

pub path_ascii : (path : List ℕ) → is_dep_path path ≡ true → list_all is_ascii path ≡ true
path_ascii path h =
    let c = is_cut path h in
    subst (λ (t : List ℕ). list_all is_ascii t ≡ true) (sym c.whole)
    (all-append is_ascii (id_text c.name c.version) c.groups (all_weaker is_id_byte is_ascii id_ascii (id_text c.name c.version) (id_text_bytes c.name c.version c.named c.versioned)) (groups_ascii 0 c.groups c.grouped))

pub law : PathLaw
law = record { cut = is_cut; made = is_made; ascii = path_ascii }

-- ---- the grammar, byte by byte

opened : Option ℕ → List ℕ → Bool
opened None rest = false
opened (Some n) rest = are_groups n rest

step_open : (n b : ℕ) (rest : List ℕ) → are_groups n (b ∷ rest) ≡ opened (next_open n b) rest
unfolding opened
step_open zero b rest = elim (b == 40) as (λ o. (o && are_groups 1 rest) ≡ opened (cond o (Some 1) None) rest) [ true ↦ refl | false ↦ refl ]
step_open (suc n) b rest =
    (elim (nat_le 33 b && nat_le b 126) as (λ o. (o && cond (b == 40) (are_groups (suc (suc n)) rest) (cond (b == 41) (are_groups n rest) (are_groups (suc n) rest)))
    ≡ opened (cond o (cond (b == 40) (Some (suc n + 1)) (cond (b == 41) (Some (suc n - 1)) (Some (suc n)))) None) rest) [
      | true ↦ (elim (b == 40) as (λ p. cond p (are_groups (suc (suc n)) rest) (cond (b == 41) (are_groups n rest) (are_groups (suc n) rest))
          ≡ opened (cond p (Some (suc n + 1)) (cond (b == 41) (Some (suc n - 1)) (Some (suc n)))) rest) [
            | true ↦ ap (λ (k : ℕ). are_groups k rest) (up n)
            | false ↦ elim (b == 41) as (λ q. cond q (are_groups n rest) (are_groups (suc n) rest) ≡ opened (cond q (Some (suc n - 1)) (Some (suc n))) rest) [
              | true ↦ ap (λ (k : ℕ). are_groups k rest) (down n)
              | false ↦ refl
            ]
          ])
      | false ↦ refl
    ]) ∙ ap (λ (o : Option ℕ). opened o rest) (sym (ap (λ (z : Bool). cond z (cond (b == 40) (Some 1) None)
    (cond (nat_le 33 b && nat_le b 126) (cond (b == 40) (Some (suc n + 1)) (cond (b == 41) (Some (suc n - 1)) (Some (suc n)))) None)) (ne_eqb (suc n) 0 (λ e. absurd (omega (arith, e)))))) where
      up : (k : ℕ) → suc (suc k) ≡ suc k + 1
      up k = omega arith

      down : (k : ℕ) → k ≡ suc k - 1
      down k = omega arith

pub open_more : (text : List ℕ) (i n m : ℕ) → i < length text → next_open n (get_or text i 0) ≡ Some m → are_groups n (drop i text) ≡ are_groups m (drop (i + 1) text)
unfolding opened
open_more text i n m lt is =
    ap (are_groups n) (drop_more text i 0 lt) ∙ step_open n (get_or text i 0) (drop (i + 1) text) ∙ ap (λ (o : Option ℕ). opened o (drop (i + 1) text)) is

pub open_none : (text : List ℕ) (i n : ℕ) → i < length text → next_open n (get_or text i 0) ≡ None → are_groups n (drop i text) ≡ false
unfolding opened
open_none text i n lt is =
    ap (are_groups n) (drop_more text i 0 lt) ∙ step_open n (get_or text i 0) (drop (i + 1) text) ∙ ap (λ (o : Option ℕ). opened o (drop (i + 1) text)) is

pub open_end : (n : ℕ) → are_groups n [] ≡ (n == 0)
open_end zero = refl
open_end (suc n) = sym (ne_eqb (suc n) 0 (λ e. absurd (omega (arith, e))))

pub few_open : (n b m : ℕ) → next_open n b ≡ Some m → m ≤ n + 1
few_open n b m is = grind (arith, nat_tests)

-- ---- a part of a text

pub holds_here : (part t : List ℕ) → begins part t ≡ true → holds part t ≡ true
holds_here part [] h = h
holds_here part (b ∷ t) h = ap (λ (o : Bool). o || holds part t) h

pub holds_later : (part text : List ℕ) (i : ℕ) → i < length text → begins part (drop i text) ≡ false → holds part (drop i text) ≡ holds part (drop (i + 1) text)
holds_later part text i lt h =
    let e = drop_more text i 0 lt in
    ap (holds part) e ∙ ap (λ (o : Bool). o || holds part (drop (i + 1) text)) (ap (begins part) (sym e) ∙ h)

-- ---- the whole

pub some_is : (b : Bool) (text : List ℕ) → is_some (cond b (Some text) None) ≡ b
some_is true text = refl
some_is false text = refl

pub no_groups : (path groups : List ℕ) → groups ≡ group_part path → are_groups 0 groups ≡ false → false ≡ is_dep_path path
no_groups path groups e h = sym (ap (λ (b : Bool). is_id (id_part path) && (b && not (holds patch_mark path))) (ap (are_groups 0) (sym e) ∙ h) ∙ none (is_id (id_part path))) where
  none : (a : Bool) → (a && false) ≡ false
  none true = refl
  none false = refl

pub all_three : (path id groups : List ℕ) (held : Bool) → id ≡ id_part path → groups ≡ group_part path → is_id id ≡ true → are_groups 0 groups ≡ true → held ≡ holds patch_mark path → not held ≡ is_dep_path path
all_three path id groups held e f g h k =
    ap not k ∙ sym (ap (λ (a : Bool). a && (are_groups 0 (group_part path) && not (holds patch_mark path))) (ap is_id (sym e) ∙ g)
    ∙ ap (λ (b : Bool). b && not (holds patch_mark path)) (ap (are_groups 0) (sym f) ∙ h))
