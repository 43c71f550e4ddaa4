-- Texts between parentheses, which leave no group open, and their bytes.
use Rattle.std.proofs.Common.{◌≡◌, ◌<◌, ℕ, zero, suc, ◌/◌, ◌%◌, List, [], ◌∷◌, ◌++◌, length, map, take, Bool, true, false, cond, refl, ap, ◌∙◌, arith, append_assoc}
use Rattle.std.specs.Prelude.{◌==◌, ◌&&◌, ◌||◌, nat_le, nat_lt, slice_index}
use Rattle.std.specs.Int.{to_be_bytes, w32}
use Rattle.std.specs.List.{Contains, concat, list_all}
use Rattle.std.specs.Cmp.Derive.{both_true}
use Rattle.std.proofs.lemmas.Bool.{ltb-true}
use Rattle.std.proofs.lemmas.Bool.Decides.{nat_tests}
use Rattle.hex.specs.Hex.{encode_lower, encode_with, lower_digits}
use Rattle.sha2.specs.Sha256.{digest_bytes, sha256}
use Rattle.pn_text.specs.Name.{is_name, is_name_byte}
use Rattle.pn_text.proofs.Bools.{and_left, and_right}
use Rattle.pn_text.proofs.Members.{all-append, here, there}
use Rattle.pn_deppath.specs.Groups.{folder_byte, project_text, shortened}
use Rattle.pn_deppath.specs.Paths.{are_groups}
use Rattle.pn_deppath.proofs.IdBytes.{all_weaker, is_id_byte, name_bytes}
use Rattle.pn_dep_paths.specs.BaseTexts.{in_parentheses}

-- a byte of an id or of a project's text, or `~`
abbrev pub is_inner_byte : ℕ → Bool
is_inner_byte b = is_id_byte b || (b == 58) || (b == 126)

-- a byte of a base text
abbrev pub is_base_byte : ℕ → Bool
is_base_byte b = is_id_byte b || (b == 58) || (b == 40) || (b == 41)

-- a byte of a dep path
abbrev pub is_path_byte : ℕ → Bool
is_path_byte b = is_base_byte b || (b == 126)

-- between parentheses the text leaves as many open as before it
abbrev pub IsInside : List ℕ → Type 0
IsInside t = (n : ℕ) (rest : List ℕ) → are_groups (suc n) (t ++ rest) ≡ are_groups (suc n) rest

-- and so it does anywhere
abbrev pub IsBalanced : List ℕ → Type 0
IsBalanced t = (n : ℕ) (rest : List ℕ) → are_groups n (t ++ rest) ≡ are_groups n rest

passed : (s o c : Bool) (x y z : Bool) → s ≡ true → o ≡ false → c ≡ false → (s && cond o x (cond c y z)) ≡ z
passed true false false x y z h k l = refl
passed false o c x y z h k l = (cc)
passed true true c x y z h k l = (cc)
passed true false true x y z h k l = (cc)

shown : (b : ℕ) → is_inner_byte b ≡ true → (nat_le 33 b && nat_le b 126) ≡ true
shown b h = grind (arith, nat_tests)

no_open : (b : ℕ) → is_inner_byte b ≡ true → (b == 40) ≡ false
no_open b h = grind (arith, nat_tests)

no_close : (b : ℕ) → is_inner_byte b ≡ true → (b == 41) ≡ false
no_close b h = grind (arith, nat_tests)

pub inside_bytes : (t : List ℕ) → list_all is_inner_byte t ≡ true → IsInside t
inside_bytes [] h n rest = refl
inside_bytes (b ∷ t) h n rest =
    let one = and_left (is_inner_byte b) (list_all is_inner_byte t) h in
    passed (nat_le 33 b && nat_le b 126) (b == 40) (b == 41) _ _ (are_groups (suc n) (t ++ rest)) (shown b one) (no_open b one) (no_close b one)
    ∙ inside_bytes t (and_right (is_inner_byte b) (list_all is_inner_byte t) h) n rest

pub in_group : (t : List ℕ) → IsInside t → IsBalanced (in_parentheses t)
in_group t h zero rest = ap (are_groups 1) (append_assoc t (41 ∷ []) rest) ∙ h 0 (41 ∷ rest)
in_group t h (suc n) rest = ap (are_groups (suc (suc n))) (append_assoc t (41 ∷ []) rest) ∙ h (suc n) (41 ∷ rest)

pub both_balanced : (s t : List ℕ) → IsBalanced s → IsBalanced t → IsBalanced (s ++ t)
both_balanced s t h k n rest = ap (are_groups n) (append_assoc s t rest) ∙ h n (t ++ rest) ∙ k n rest

pub both_inside : (s t : List ℕ) → IsInside s → IsInside t → IsInside (s ++ t)
both_inside s t h k n rest = ap (are_groups (suc n)) (append_assoc s t rest) ∙ h n (t ++ rest) ∙ k n rest

inner_byte : (b : ℕ) → is_id_byte b ≡ true → is_inner_byte b ≡ true
inner_byte b h = grind (arith, nat_tests)

base_byte : (b : ℕ) → is_id_byte b ≡ true → is_base_byte b ≡ true
base_byte b h = grind (arith, nat_tests)

-- A text that may stand between parentheses in a base text.
pub record IsHeld (t : List ℕ) : Type 0 where
  pub inside : IsInside t
  pub bytes : list_all is_base_byte t ≡ true

-- Groups of a base text.
pub record HasGroups (t : List ℕ) : Type 0 where
  pub balanced : IsBalanced t
  pub bytes : list_all is_base_byte t ≡ true

pub held_id : (t : List ℕ) → list_all is_id_byte t ≡ true → IsHeld t
held_id t h = record { inside = inside_bytes t (all_weaker is_id_byte is_inner_byte inner_byte t h); bytes = all_weaker is_id_byte is_base_byte base_byte t h }

pub held_both : (s t : List ℕ) → IsHeld s → IsHeld t → IsHeld (s ++ t)
held_both s t h k = record { inside = both_inside s t h.inside k.inside; bytes = all-append is_base_byte s t h.bytes k.bytes }

pub held_groups : (t : List ℕ) → HasGroups t → IsHeld t
held_groups t h = record { inside = λ n rest. h.balanced (suc n) rest; bytes = h.bytes }

pub one_group : (t : List ℕ) → IsHeld t → HasGroups (in_parentheses t)
one_group t h = record { balanced = in_group t h.inside; bytes = all-append is_base_byte t (41 ∷ []) h.bytes refl }

pub all_groups : (gs : List (List ℕ)) → ((g : List ℕ) → Contains gs g → HasGroups g) → HasGroups (concat gs)
all_groups [] h = record { balanced = λ n rest. refl; bytes = refl }
all_groups (g ∷ gs) h =
    let one = h g (here g gs) in
    let more = all_groups gs (λ x c. h x (there g gs x c)) in
    record { balanced = both_balanced g (concat gs) one.balanced more.balanced; bytes = all-append is_base_byte g (concat gs) one.bytes more.bytes }

-- ---- a project's text

mapped : (b : ℕ) → is_id_byte (folder_byte b) ≡ true
mapped b = (elim (is_name_byte b) as (λ o. is_name_byte b ≡ o → is_id_byte (cond o b 43) ≡ true) [ true ↦ λ e. named b e | false ↦ λ e. refl ]) refl where
  named : (b : ℕ) → is_name_byte b ≡ true → is_id_byte b ≡ true
  named b h = grind (arith, nat_tests)

folder_bytes : (xs : List ℕ) → list_all is_id_byte (map folder_byte xs) ≡ true
folder_bytes [] = refl
folder_bytes (b ∷ xs) = both_true (mapped b) (folder_bytes xs)

link_held : IsHeld (64 ∷ 108 ∷ 105 ∷ 110 ∷ 107 ∷ 58 ∷ [])
link_held = record { inside = inside_bytes (64 ∷ 108 ∷ 105 ∷ 110 ∷ 107 ∷ 58 ∷ []) refl; bytes = refl }

pub held_project : (name folder : List ℕ) → is_name name ≡ true → IsHeld (project_text name folder)
held_project name folder h =
    let tail = map folder_byte folder in
    held_both name (64 ∷ 108 ∷ 105 ∷ 110 ∷ 107 ∷ 58 ∷ tail) (held_id name (name_bytes name h)) (held_both (64 ∷ 108 ∷ 105 ∷ 110 ∷ 107 ∷ 58 ∷ []) tail link_held (held_id tail (folder_bytes folder)))

-- ---- shortened groups

abbrev is_byte : ℕ → Bool
is_byte b = nat_lt b 256

word_bytes : (n : ℕ) → list_all is_byte (to_be_bytes w32 n) ≡ true
word_bytes n = grind (arith, nat_tests)

digest_all : (h : List ℕ) (n : ℕ) → list_all is_byte (digest_bytes h n) ≡ true
unfolding digest_bytes
digest_all h zero = refl
digest_all h (suc n) = all-append is_byte (digest_bytes h n) (to_be_bytes w32 (slice_index h n)) (digest_all h n) (word_bytes (slice_index h n))

sha_bytes : (m : List ℕ) → list_all is_byte (sha256 m) ≡ true
unfolding sha256
sha_bytes m = digest_all _ 8

digit : (d : ℕ) → d < 16 → is_id_byte (slice_index lower_digits d) ≡ true
digit d h = grind (arith, nat_tests)

high : (b : ℕ) → b < 256 → b / 16 < 16
high b h = omega (arith, h)

low : (b : ℕ) → b % 16 < 16
low b = omega arith

hex_bytes : (xs : List ℕ) → list_all is_byte xs ≡ true → list_all is_id_byte (encode_with lower_digits xs) ≡ true
unfolding encode_with
hex_bytes [] h = refl
hex_bytes (b ∷ xs) h =
    both_true (digit (b / 16) (high b (ltb-true b 256 (and_left (is_byte b) (list_all is_byte xs) h))))
    (both_true (digit (b % 16) (low b)) (hex_bytes xs (and_right (is_byte b) (list_all is_byte xs) h)))

taken : (n : ℕ) (xs : List ℕ) → list_all is_id_byte xs ≡ true → list_all is_id_byte (take n xs) ≡ true
taken zero xs h = refl
taken (suc n) [] h = refl
taken (suc n) (x ∷ xs) h = both_true (and_left (is_id_byte x) (list_all is_id_byte xs) h) (taken n xs (and_right (is_id_byte x) (list_all is_id_byte xs) h))

pub short_groups : (t : List ℕ) → HasGroups t → HasGroups (shortened t)
unfolding shortened
short_groups t h =
    let digits = take 32 (encode_lower (sha256 t)) in
    elim (nat_lt 1000 (length t)) as (λ o. HasGroups (cond o (in_parentheses digits) t)) [
      | true ↦ one_group digits (held_id digits (taken 32 (encode_lower (sha256 t)) (hex_bytes (sha256 t) (sha_bytes t))))
      | false ↦ h
    ]
