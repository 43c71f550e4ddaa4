-- The bytes of versions.
use Rattle.std.proofs.Common.{◌≡◌, ◌≢◌, ◌<◌, ◌^◌, ℕ, ◌+◌, ◌%◌, List, [], ◌∷◌, ◌++◌, true, false, refl, subst, arith, Ok, Err}
use Rattle.std.specs.Prelude.{Bool, Result, is_some}
use Rattle.std.specs.List.{list_all}
use Rattle.std.specs.Fmt.{decimal}
use Rattle.std.proofs.lemmas.Fmt.{decimal_by_steps}
use Rattle.semver.specs.Grammar.{is_identifier_byte, is_build_identifier, is_pre_identifier, is_pre_release, is_build, IsValid}
use Rattle.semver.specs.Identifiers.{marked, parts_text}
use Rattle.semver.specs.Order.{parts}
use Rattle.semver.specs.OrderLaws.{join-parts, join_dots}
use Rattle.semver.specs.Parse.{version_parts, Parts}
use Rattle.semver.specs.declared.error.Error.{Error}
use Rattle.semver.proofs.Grammar.{version_parts-sound}
use Rattle.semver.proofs.Segments.{and-left, and-right}
use Rattle.pn_text.specs.Ids.{ok_of, is_version}
use Rattle.pn_layout.proofs.Bytes.{Lacks, lacks-append, lacks_by}

-- a byte that no version has
pub record IsForeign (c : ℕ) : Type 0 where
  pub digits : (k : ℕ) → k < 10 → 48 + k ≢ c
  pub letters : is_identifier_byte c ≡ false
  pub dot : 46 ≢ c
  pub dash : 45 ≢ c
  pub plus : 43 ≢ c

decimal_lacks : (c : ℕ) → IsForeign c → (n : ℕ) → n < 2 ^ 64 → Lacks c (decimal n)
decimal_lacks c f n fits = decimal_by_steps (λ n ds. Lacks c ds)
    (λ k h. (f.digits k h, tt))
    (λ k ds h done. lacks-append c ds ((48 + k % 10) ∷ []) done (f.digits (k % 10) (omega arith), tt)) n fits

build_part_lacks : (c : ℕ) → IsForeign c → (p : List ℕ) → is_build_identifier p ≡ true → Lacks c p
build_part_lacks c f p h = lacks_by is_identifier_byte c f.letters p (and-right _ (list_all is_identifier_byte p) h)

part_lacks : (c : ℕ) → IsForeign c → (p : List ℕ) → is_pre_identifier p ≡ true → Lacks c p
part_lacks c f p h = build_part_lacks c f p (and-left (is_build_identifier p) _ h)

-- parts without the byte, joined by dots
joined_lacks : (c : ℕ) → IsForeign c → (test : List ℕ → Bool) → ((p : List ℕ) → test p ≡ true → Lacks c p) → (ps : List (List ℕ)) → list_all test ps ≡ true → Lacks c (join_dots ps)
unfolding join_dots
joined_lacks c f test each [] h = tt
joined_lacks c f test each (p ∷ []) h = each p (and-left (test p) true h)
joined_lacks c f test each (p ∷ q ∷ ps) h =
    lacks-append c p (46 ∷ join_dots (q ∷ ps)) (each p (and-left (test p) (list_all test (q ∷ ps)) h))
    (f.dot, joined_lacks c f test each (q ∷ ps) (and-right (test p) (list_all test (q ∷ ps)) h))

pre_lacks : (c : ℕ) → IsForeign c → (pre : List ℕ) → is_pre_release pre ≡ true → Lacks c (marked 45 pre)
pre_lacks c f [] h = tt
pre_lacks c f (b ∷ pre) h = (f.dash, subst (Lacks c) (join-parts (b ∷ pre)) (joined_lacks c f is_pre_identifier (part_lacks c f) (parts (b ∷ pre)) h))

build_lacks : (c : ℕ) → IsForeign c → (build : List ℕ) → is_build build ≡ true → Lacks c (marked 43 build)
build_lacks c f [] h = tt
build_lacks c f (b ∷ build) h = (f.plus, subst (Lacks c) (join-parts (b ∷ build)) (joined_lacks c f is_build_identifier (build_part_lacks c f) (parts (b ∷ build)) h))

parts_lack : (c : ℕ) → IsForeign c → (p : Parts) → IsValid p → Lacks c (parts_text p)
parts_lack c f p v =
    lacks-append c (decimal p.0) (46 ∷ (decimal p.1 ++ (46 ∷ (decimal p.2 ++ (marked 45 p.3 ++ marked 43 p.4))))) (decimal_lacks c f p.0 v.0) (
      f.dot,
      lacks-append c (decimal p.1) (46 ∷ (decimal p.2 ++ (marked 45 p.3 ++ marked 43 p.4))) (decimal_lacks c f p.1 v.1) (
        f.dot,
        lacks-append c (decimal p.2) (marked 45 p.3 ++ marked 43 p.4) (decimal_lacks c f p.2 v.2)
            (lacks-append c (marked 45 p.3) (marked 43 p.4) (pre_lacks c f p.3 v.3) (build_lacks c f p.4 v.4)),
      ),
    )

read_lacks : (c : ℕ) → IsForeign c → (text : List ℕ) (r : Result Parts Error) → version_parts text ≡ r → is_some (ok_of r) ≡ true → Lacks c text
read_lacks c f text (Err e) is h = cc h
read_lacks c f text (Ok p) is h =
    let sound = version_parts-sound text p is in
    subst (Lacks c) sound.0 (parts_lack c f p sound.1)

at : IsForeign 64
at = record { digits = λ k h e. omega (arith, h, e); letters = refl; dot = λ e. cc; dash = λ e. cc; plus = λ e. cc }

-- a version has no `@`
pub no_at : (text : List ℕ) → is_version text ≡ true → Lacks 64 text
no_at text h = read_lacks 64 at text (version_parts text) refl h
