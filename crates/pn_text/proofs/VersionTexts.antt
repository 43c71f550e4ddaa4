-- A SemVer version is one part of a path.
use Rattle.std.proofs.Common.{◌≡◌, ◌<◌, ◌^◌, ℕ, ◌+◌, ◌%◌, List, [], ◌∷◌, ◌++◌, true, false, IsTrue, refl, ap, ◌∙◌, subst, arith, Ok}
use Rattle.std.specs.Prelude.{◌==◌}
use Rattle.std.specs.List.{list_all, list_any}
use Rattle.std.specs.Fmt.{decimal}
use Rattle.std.proofs.lemmas.Fmt.{decimal_by_steps}
use Rattle.std.proofs.lemmas.Bool.Decides.{nat_tests}
use Rattle.semver.specs.Grammar.{is_identifier_byte, is_build_identifier, is_pre_identifier, is_pre_release, is_build, IsValid}
use Rattle.semver.specs.Identifiers.{marked}
use Rattle.semver.specs.Order.{parts}
use Rattle.semver.specs.OrderLaws.{join-parts, join_dots}
use Rattle.semver.specs.Parse.{version_parts, Parts}
use Rattle.semver.proofs.Grammar.{version_parts-sound}
use Rattle.semver.specs.Identifiers.{parts_text}
use Rattle.pn_text.specs.Path.{is_filled, is_part}
use Rattle.pn_text.proofs.Bools.{and_left, and_right}
use Rattle.pn_text.proofs.Bytes.{both_flat}

digit_flat : (k : ℕ) → k < 10 → (48 + k == 47) ≡ false
digit_flat k h = grind (arith, nat_tests)

one_flat : (b : ℕ) → (b == 47) ≡ false → list_any (λ b. b == 47) (b ∷ []) ≡ false
one_flat b h = rw h refl

decimal_flat : (n : ℕ) → n < 2 ^ 64 → list_any (λ b. b == 47) (decimal n) ≡ false
decimal_flat n fits = decimal_by_steps (λ n ds. list_any (λ b. b == 47) ds ≡ false)
    (λ k h. one_flat (48 + k) (digit_flat k h))
    (λ k ds h done. both_flat ds ((48 + k % 10) ∷ []) done (one_flat (48 + k % 10) (digit_flat (k % 10) (omega arith)))) n fits

identifier_flat : (b : ℕ) → is_identifier_byte b ≡ true → (b == 47) ≡ false
identifier_flat b h = grind (arith, nat_tests)

bytes_flat : (xs : List ℕ) → list_all is_identifier_byte xs ≡ true → list_any (λ b. b == 47) xs ≡ false
bytes_flat [] h = refl
bytes_flat (b ∷ xs) h =
    rw (identifier_flat b (and_left (is_identifier_byte b) (list_all is_identifier_byte xs) h)) (bytes_flat xs (and_right (is_identifier_byte b) (list_all is_identifier_byte xs) h))

build_part_flat : (p : List ℕ) → is_build_identifier p ≡ true → list_any (λ b. b == 47) p ≡ false
build_part_flat p h = bytes_flat p (and_right _ (list_all is_identifier_byte p) h)

-- parts without a slash, joined by dots
joined_flat : (ps : List (List ℕ)) → list_all is_build_identifier ps ≡ true → list_any (λ b. b == 47) (join_dots ps) ≡ false
unfolding join_dots
joined_flat [] h = refl
joined_flat (p ∷ []) h = build_part_flat p (and_left (is_build_identifier p) true h)
joined_flat (p ∷ q ∷ ps) h =
    both_flat p (46 ∷ join_dots (q ∷ ps)) (build_part_flat p (and_left (is_build_identifier p) (list_all is_build_identifier (q ∷ ps)) h))
    (joined_flat (q ∷ ps) (and_right (is_build_identifier p) (list_all is_build_identifier (q ∷ ps)) h))

build_parts : (ps : List (List ℕ)) → list_all is_pre_identifier ps ≡ true → list_all is_build_identifier ps ≡ true
build_parts [] h = refl
build_parts (p ∷ ps) h =
    rw (and_left (is_build_identifier p) _ (and_left (is_pre_identifier p) (list_all is_pre_identifier ps) h)) (build_parts ps (and_right (is_pre_identifier p) (list_all is_pre_identifier ps) h))

pre_flat : (pre : List ℕ) → is_pre_release pre ≡ true → list_any (λ b. b == 47) (marked 45 pre) ≡ false
pre_flat [] h = refl
pre_flat (b ∷ pre) h = subst (λ x. list_any (λ b. b == 47) x ≡ false) (join-parts (b ∷ pre)) (joined_flat (parts (b ∷ pre)) (build_parts (parts (b ∷ pre)) h))

build_flat : (build : List ℕ) → is_build build ≡ true → list_any (λ b. b == 47) (marked 43 build) ≡ false
build_flat [] h = refl
build_flat (b ∷ build) h = subst (λ x. list_any (λ b. b == 47) x ≡ false) (join-parts (b ∷ build)) (joined_flat (parts (b ∷ build)) h)

version_flat : (p : Parts) → IsValid p → list_any (λ b. b == 47) (parts_text p) ≡ false
version_flat p v =
    both_flat (decimal p.0) (46 ∷ (decimal p.1 ++ (46 ∷ (decimal p.2 ++ (marked 45 p.3 ++ marked 43 p.4))))) (decimal_flat p.0 v.0)
    (both_flat (decimal p.1) (46 ∷ (decimal p.2 ++ (marked 45 p.3 ++ marked 43 p.4))) (decimal_flat p.1 v.1)
    (both_flat (decimal p.2) (marked 45 p.3 ++ marked 43 p.4) (decimal_flat p.2 v.2)
    (both_flat (marked 45 p.3) (marked 43 p.4) (pre_flat p.3 v.3) (build_flat p.4 v.4))))

-- a text whose first byte is no dot
filled_first : (b : ℕ) (xs : List ℕ) → (b == 46) ≡ false → is_filled (b ∷ xs) ≡ true
filled_first b [] h = rw h refl
filled_first b (c ∷ []) h = rw h refl
filled_first b (c ∷ d ∷ xs) h = refl

BeginsOk : List ℕ → Type 0
BeginsOk ds = (b : ℕ) × (rest : List ℕ) × (ds ≡ b ∷ rest) × ((b == 46) ≡ false)

decimal_begins : (n : ℕ) → n < 2 ^ 64 → BeginsOk (decimal n)
unfolding BeginsOk
decimal_begins n fits = decimal_by_steps (λ n ds. BeginsOk ds)
    (λ k h. (48 + k, [], refl, grind (arith, nat_tests)))
    (λ k ds h done. (done.0, done.1 ++ ((48 + k % 10) ∷ []), ap (λ x. x ++ ((48 + k % 10) ∷ [])) done.2, done.3)) n fits

filled_on : (ds rest : List ℕ) → BeginsOk ds → is_filled (ds ++ rest) ≡ true
unfolding BeginsOk
filled_on ds rest h = ap (λ x. is_filled (x ++ rest)) h.2 ∙ filled_first h.0 (h.1 ++ rest) h.3

good_part : (xs : List ℕ) → list_any (λ b. b == 47) xs ≡ false → is_filled xs ≡ true → IsTrue (is_part xs)
good_part xs flat filled = rw (flat, filled) refl

pub version_is_part : (text : List ℕ) (p : Parts) → version_parts text ≡ Ok p → IsTrue (is_part text)
version_is_part text p is =
    let sound = version_parts-sound text p is in
    subst (λ x. IsTrue (is_part x)) sound.0
    (good_part (parts_text p) (version_flat p sound.1)
    (filled_on (decimal p.0) (46 ∷ (decimal p.1 ++ (46 ∷ (decimal p.2 ++ (marked 45 p.3 ++ marked 43 p.4))))) (decimal_begins p.0 sound.1.0)))
