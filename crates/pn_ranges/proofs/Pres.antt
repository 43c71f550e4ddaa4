-- Pre-releases, which are ASCII and in the form of SemVer.
use Rattle.std.proofs.Common.{◌≡◌, ℕ, ◌==◌, true, List, length, take, Result, Ok, Err, IfOk, IfErr, sym, subst, arith, inl, inr}
use Rattle.std.specs.Prelude.{if◌then◌else◌, ◌⊎◌}
use Rattle.std.specs.Str.{IsAscii, IsUtf8}
use Rattle.std.proofs.lemmas.Str.{IsUtf8-from_ascii}
use Rattle.std.proofs.lemmas.Bool.{cases_Bool, eqb-true}
use Rattle.std.proofs.lemmas.List.{take_all}
use Rattle.semver.specs.Grammar.{is_pre_release}
use Rattle.semver.specs.Identifiers.{pre_text}
use Rattle.semver.specs.Parse.{fail, identifier_len, memory_error, only_identifier}
use Rattle.semver.specs.declared.error.Error.{Error}
use Rattle.semver.specs.declared.error.ErrorKind.TheVariants as kind
use Rattle.semver.specs.declared.error.Position.TheVariants as place
use Rattle.semver.specs.declared.Prerelease.{Prerelease}
use Rattle.semver.proofs.Grammar.{bind-ok, is_pre_release-only}
use Rattle.semver.proofs.Readers.{identifier_ascii}

taken : (n : ℕ) (xs : List ℕ) → (if n == length xs then Ok xs else fail (kind.IllegalCharacter place.Pre)) ≡ Ok xs → IsAscii (take n xs) → IsAscii xs
taken n xs h a = elim (cases_Bool (n == length xs)) [
  | inl all ↦ subst IsAscii (take_all n xs (let e = eqb-true n (length xs) all in omega arith)) a
  | inr other ↦ absurd (let e : fail (kind.IllegalCharacter place.Pre) ≡ Ok xs = rw other at h in cc)
]

pre-ascii : (xs : List ℕ) → is_pre_release xs ≡ true → IsAscii xs
pre-ascii xs h =
    let b = bind-ok (identifier_len place.Pre xs) _ xs (is_pre_release-only xs h) in
    taken b.0 xs b.2 (identifier_ascii (Ok b.0) place.Pre xs (sym b.1))

pub pre-utf8 : (xs : List ℕ) → is_pre_release xs ≡ true → IsUtf8 xs
pre-utf8 xs h = IsUtf8-from_ascii xs (pre-ascii xs h)

pub new-ok : (r : Result Prerelease Error) (text bytes : List ℕ) → text ≡ bytes → is_pre_release bytes ≡ true
    → IfOk r (λ p. only_identifier place.Pre text ≡ Ok (pre_text p)) → IfOk r (λ p. pre_text p ≡ bytes)
new-ok (Ok p) text bytes t h k = let e : only_identifier place.Pre bytes ≡ Ok (pre_text p) = subst (λ x. only_identifier place.Pre x ≡ Ok (pre_text p)) t k in let o = is_pre_release-only bytes h in cc
new-ok (Err e) text bytes t h k = tt

pub new-err : (r : Result Prerelease Error) (text bytes : List ℕ) → text ≡ bytes → is_pre_release bytes ≡ true
    → IfErr r (λ e. (e ≡ memory_error) ⊎ (only_identifier place.Pre text ≡ Err e)) → IfErr r (λ e. e ≡ memory_error)
new-err (Ok p) text bytes t h k = tt
new-err (Err e) text bytes t h k = elim k [
  | inl m ↦ m
  | inr f ↦ absurd (let x : only_identifier place.Pre bytes ≡ Err e = subst (λ y. only_identifier place.Pre y ≡ Err e) t f in let o = is_pre_release-only bytes h in cc)
]
