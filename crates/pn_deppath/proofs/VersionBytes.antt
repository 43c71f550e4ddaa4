-- The bytes of SemVer versions: letters, digits, dots, dashes and pluses.
use Rattle.std.proofs.Common.{◌≡◌, ◌<◌, ◌^◌, ℕ, ◌+◌, ◌%◌, List, [], ◌∷◌, ◌++◌, Bool, true, refl, subst, arith, Ok, Err}
use Rattle.std.specs.Prelude.{◌==◌, ◌&&◌, ◌||◌, nat_le, is_some, Result}
use Rattle.std.specs.List.{list_all}
use Rattle.std.specs.Fmt.{decimal}
use Rattle.std.proofs.lemmas.Fmt.{decimal_by_steps}
use Rattle.std.proofs.lemmas.Bool.Decides.{nat_tests}
use Rattle.semver.specs.Grammar.{is_identifier_byte, is_build_identifier, is_pre_identifier, is_pre_release, is_build, IsValid}
use Rattle.semver.specs.Identifiers.{marked, parts_text}
use Rattle.semver.specs.Order.{parts}
use Rattle.semver.specs.OrderLaws.{join-parts, join_dots}
use Rattle.semver.specs.Parse.{version_parts, Parts}
use Rattle.semver.specs.declared.error.Error.{Error}
use Rattle.semver.proofs.Grammar.{version_parts-sound}
use Rattle.pn_text.specs.Ids.{is_version, ok_of}
use Rattle.pn_text.proofs.Bools.{and_left, and_right}
use Rattle.pn_text.proofs.Members.{all-append}

-- a letter, a digit, `.`, `-` or `+`
abbrev pub is_version_byte : ℕ → Bool
is_version_byte b = (nat_le 97 b && nat_le b 122) || (nat_le 65 b && nat_le b 90) || (nat_le 48 b && nat_le b 57) || (b == 45) || (b == 46) || (b == 43)

digit_byte : (k : ℕ) → k < 10 → is_version_byte (48 + k) ≡ true
digit_byte k h = grind (arith, nat_tests)

one_byte : (b : ℕ) → is_version_byte b ≡ true → list_all is_version_byte (b ∷ []) ≡ true
one_byte b h = rw h refl

decimal_bytes : (n : ℕ) → n < 2 ^ 64 → list_all is_version_byte (decimal n) ≡ true
decimal_bytes n fits = decimal_by_steps (λ n ds. list_all is_version_byte ds ≡ true)
    (λ k h. one_byte (48 + k) (digit_byte k h))
    (λ k ds h done. all-append is_version_byte ds ((48 + k % 10) ∷ []) done (one_byte (48 + k % 10) (digit_byte (k % 10) (omega arith)))) n fits

identifier_byte : (b : ℕ) → is_identifier_byte b ≡ true → is_version_byte b ≡ true
identifier_byte b h = grind (arith, nat_tests)

identifier_bytes : (xs : List ℕ) → list_all is_identifier_byte xs ≡ true → list_all is_version_byte xs ≡ true
identifier_bytes [] h = refl
identifier_bytes (b ∷ xs) h =
    rw (identifier_byte b (and_left (is_identifier_byte b) (list_all is_identifier_byte xs) h)) (identifier_bytes xs (and_right (is_identifier_byte b) (list_all is_identifier_byte xs) h))

build_part : (p : List ℕ) → is_build_identifier p ≡ true → list_all is_version_byte p ≡ true
build_part p h = identifier_bytes p (and_right _ (list_all is_identifier_byte p) h)

-- parts joined by dots
joined_bytes : (ps : List (List ℕ)) → list_all is_build_identifier ps ≡ true → list_all is_version_byte (join_dots ps) ≡ true
unfolding join_dots
joined_bytes [] h = refl
joined_bytes (p ∷ []) h = build_part p (and_left (is_build_identifier p) true h)
joined_bytes (p ∷ q ∷ ps) h =
    all-append is_version_byte p (46 ∷ join_dots (q ∷ ps)) (build_part p (and_left (is_build_identifier p) (list_all is_build_identifier (q ∷ ps)) h))
    (joined_bytes (q ∷ ps) (and_right (is_build_identifier p) (list_all is_build_identifier (q ∷ ps)) h))

build_parts : (ps : List (List ℕ)) → list_all is_pre_identifier ps ≡ true → list_all is_build_identifier ps ≡ true
build_parts [] h = refl
build_parts (p ∷ ps) h =
    rw (and_left (is_build_identifier p) _ (and_left (is_pre_identifier p) (list_all is_pre_identifier ps) h)) (build_parts ps (and_right (is_pre_identifier p) (list_all is_pre_identifier ps) h))

pre_bytes : (pre : List ℕ) → is_pre_release pre ≡ true → list_all is_version_byte (marked 45 pre) ≡ true
pre_bytes [] h = refl
pre_bytes (b ∷ pre) h = subst (λ x. list_all is_version_byte x ≡ true) (join-parts (b ∷ pre)) (joined_bytes (parts (b ∷ pre)) (build_parts (parts (b ∷ pre)) h))

build_bytes : (build : List ℕ) → is_build build ≡ true → list_all is_version_byte (marked 43 build) ≡ true
build_bytes [] h = refl
build_bytes (b ∷ build) h = subst (λ x. list_all is_version_byte x ≡ true) (join-parts (b ∷ build)) (joined_bytes (parts (b ∷ build)) h)

valid_bytes : (p : Parts) → IsValid p → list_all is_version_byte (parts_text p) ≡ true
valid_bytes p v =
    all-append is_version_byte (decimal p.0) (46 ∷ (decimal p.1 ++ (46 ∷ (decimal p.2 ++ (marked 45 p.3 ++ marked 43 p.4))))) (decimal_bytes p.0 v.0)
    (all-append is_version_byte (decimal p.1) (46 ∷ (decimal p.2 ++ (marked 45 p.3 ++ marked 43 p.4))) (decimal_bytes p.1 v.1)
    (all-append is_version_byte (decimal p.2) (marked 45 p.3 ++ marked 43 p.4) (decimal_bytes p.2 v.2)
    (all-append is_version_byte (marked 45 p.3) (marked 43 p.4) (pre_bytes p.3 v.3) (build_bytes p.4 v.4))))

parsed_bytes : (text : List ℕ) (r : Result Parts Error) → version_parts text ≡ r → is_some (ok_of r) ≡ true → list_all is_version_byte text ≡ true
parsed_bytes text (Ok p) is h =
    let sound = version_parts-sound text p is in
    subst (λ x. list_all is_version_byte x ≡ true) sound.0 (valid_bytes p sound.1)
parsed_bytes text (Err e) is h = (cc)

pub version_bytes : (text : List ℕ) → is_version text ≡ true → list_all is_version_byte text ≡ true
version_bytes text h = parsed_bytes text (version_parts text) refl h

pub version_some : (text : List ℕ) → is_version text ≡ true → (b : ℕ) × (rest : List ℕ) × (text ≡ b ∷ rest)
version_some [] h = absurd (cc h)
version_some (b ∷ rest) h = (b, rest, refl)
