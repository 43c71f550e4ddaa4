-- Names are bytes below 128.
use Rattle.std.proofs.Common.{◌≡◌, ◌<◌, ℕ, zero, suc, List, [], ◌∷◌, ◌++◌, length, get_or, map, take, true, false, cond, refl, arith}
use Rattle.std.specs.Prelude.{◌==◌, ◌&&◌, ◌||◌, nat_lt}
use Rattle.std.specs.List.{list_all}
use Rattle.std.specs.Str.{IsAscii}
use Rattle.std.specs.Cmp.Derive.{both_true}
use Rattle.std.proofs.lemmas.Bool.{lt-ltb, ltb-true}
use Rattle.std.proofs.lemmas.Bool.Decides.{nat_tests}
use Rattle.hex.specs.Hex.{encode_lower, lower_digits}
use Rattle.hex.proofs.HexLemmas.{IsAscii-encode_with}
use Rattle.sha2.specs.Sha256.{sha256}
use Rattle.pn_text.specs.declared.limits.TheConstants.{ID_LIMIT}
use Rattle.pn_text.specs.Name.{is_name_byte}
use Rattle.pn_deppath.specs.Groups.{folder_byte}
use Rattle.pn_text.proofs.Bools.{and_left, and_right}
use Rattle.pn_text.proofs.Members.{all-append}
use Rattle.pn_deppath.specs.Folders.{fitted, is_ascii, plain_name, spelled, spelled_behind, spelled_byte, without_last_close}

pub all_below : (xs : List ℕ) → IsAscii xs → list_all is_ascii xs ≡ true
all_below [] h = refl
all_below (x ∷ xs) h = both_true (lt-ltb x 128 (h 0)) (all_below xs (λ i. h (suc i)))

pub below_all : (xs : List ℕ) (i : ℕ) → list_all is_ascii xs ≡ true → i < length xs → get_or xs i 0 < 128
below_all [] i h lt = absurd (omega arith)
below_all (x ∷ xs) zero h lt = ltb-true x 128 (and_left (is_ascii x) (list_all is_ascii xs) h)
below_all (x ∷ xs) (suc i) h lt = below_all xs i (and_right (is_ascii x) (list_all is_ascii xs) h) (omega arith)

take_ascii : (n : ℕ) (xs : List ℕ) → list_all is_ascii xs ≡ true → list_all is_ascii (take n xs) ≡ true
take_ascii zero xs h = refl
take_ascii (suc n) [] h = refl
take_ascii (suc n) (x ∷ xs) h = both_true (and_left (is_ascii x) (list_all is_ascii xs) h) (take_ascii n xs (and_right (is_ascii x) (list_all is_ascii xs) h))

close_ascii : (xs : List ℕ) → list_all is_ascii xs ≡ true → list_all is_ascii (without_last_close xs) ≡ true
close_ascii [] h = refl
close_ascii (b ∷ []) h = elim (b == 41) as (λ o. list_all is_ascii (cond o [] (b ∷ [])) ≡ true) [ true ↦ refl | false ↦ h ]
close_ascii (b ∷ c ∷ rest) h = both_true (and_left (is_ascii b) (list_all is_ascii (c ∷ rest)) h) (close_ascii (c ∷ rest) (and_right (is_ascii b) (list_all is_ascii (c ∷ rest)) h))

byte_ascii : (b : ℕ) → is_ascii b ≡ true → is_ascii (spelled_byte b) ≡ true
byte_ascii b h = elim ((b == 40) || (b == 41)) as (λ o. is_ascii (cond o 95 (cond ((b == 47) || (b == 58)) 43 b)) ≡ true) [
  | true ↦ refl
  | false ↦ elim ((b == 47) || (b == 58)) as (λ o. is_ascii (cond o 43 b) ≡ true) [ true ↦ refl | false ↦ h ]
]

spelled_ascii : (before : ℕ) (xs : List ℕ) → list_all is_ascii xs ≡ true → list_all is_ascii (spelled_behind before xs) ≡ true
spelled_ascii before [] h = refl
spelled_ascii before (b ∷ rest) h =
    let more = spelled_ascii b rest (and_right (is_ascii b) (list_all is_ascii rest) h) in
    elim ((before == 41) && (b == 40)) as (λ o. list_all is_ascii (cond o (spelled_behind b rest) (spelled_byte b ∷ spelled_behind b rest)) ≡ true) [
      | true ↦ more
      | false ↦ both_true (byte_ascii b (and_left (is_ascii b) (list_all is_ascii rest) h)) more
    ]

digits_ascii : IsAscii lower_digits
digits_ascii i = grind (arith, nat_tests)

-- the first digits of a SHA-256
pub hash_ascii : (bytes : List ℕ) → list_all is_ascii (take 32 (encode_lower (sha256 bytes))) ≡ true
hash_ascii bytes = take_ascii 32 (encode_lower (sha256 bytes)) (all_below (encode_lower (sha256 bytes)) (IsAscii-encode_with lower_digits (sha256 bytes) digits_ascii))

fitted_ascii : (path name : List ℕ) → list_all is_ascii name ≡ true → list_all is_ascii (fitted path name) ≡ true
unfolding fitted
fitted_ascii path name h =
    let digits = hash_ascii path in
    elim (nat_lt ID_LIMIT (length name)) as (λ o. list_all is_ascii (cond o (take 87 name ++ 95 ∷ take 32 (encode_lower (sha256 path))) name) ≡ true) [
      | true ↦ all-append is_ascii (take 87 name) (95 ∷ take 32 (encode_lower (sha256 path))) (take_ascii 87 name h) digits
      | false ↦ h
    ]

pub plain_ascii : (path : List ℕ) → list_all is_ascii path ≡ true → list_all is_ascii (plain_name path) ≡ true
unfolding plain_name
plain_ascii path h = fitted_ascii path (spelled (without_last_close path)) (spelled_ascii 0 (without_last_close path) (close_ascii path h))

-- ---- a folder in a project's text

name_ascii : (b : ℕ) → is_name_byte b ≡ true → is_ascii b ≡ true
name_ascii b h = grind (arith, nat_tests)

folder_byte_ascii : (b : ℕ) → is_ascii (folder_byte b) ≡ true
folder_byte_ascii b = (elim (is_name_byte b) as (λ o. is_name_byte b ≡ o → is_ascii (cond o b 43) ≡ true) [ true ↦ λ e. name_ascii b e | false ↦ λ e. refl ]) refl

pub folder_ascii : (xs : List ℕ) → list_all is_ascii (map folder_byte xs) ≡ true
folder_ascii [] = refl
folder_ascii (b ∷ xs) = both_true (folder_byte_ascii b) (folder_ascii xs)
