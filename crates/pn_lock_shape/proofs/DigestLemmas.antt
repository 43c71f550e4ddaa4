-- The digest that a text is the integrity of.
use Rattle.std.proofs.Common.{◌≡◌, ℕ, zero, suc, ◌<◌, Bool, true, false, cond, List, [], ◌∷◌, length, get_or, drop, refl, sym, ap, ◌∙◌, subst, arith, Some, None, Ok, Err}
use Rattle.std.specs.Prelude.{◌==◌, ◌&&◌, ◌↔◌, nat_lt, bytes_eq, Option, Result}
use Rattle.std.specs.Cmp.Derive.{both_true}
use Rattle.std.proofs.lemmas.Bool.{eqb-true}
use Rattle.std.proofs.lemmas.Bool.Decides.{nat_tests}
use Rattle.std.proofs.lemmas.Slice.Eq.{bytes_eq-Decides}
use Rattle.base64.specs.Engines.{standard}
use Rattle.base64.specs.GeneralPurpose.{IsBytes, decode_of, encode_of}
use Rattle.base64.specs.declared.decode.DecodeError.{DecodeError}
use Rattle.pn_text.proofs.Bools.{and_left, and_right}
use Rattle.pn_digest.specs.Digests.{IsDigest, integrity_text}
use Rattle.pn_digest.proofs.IntegrityTextLemmas.{digest_decodes}
use Rattle.pn_lock.proofs.KeptLemmas.{itself}
use Rattle.pn_lock_shape.specs.Reading.{are_bytes, checked, digest_of}

below_256 : (b : ℕ) → b < 256 → nat_lt b 256 ≡ true
below_256 b h = grind (arith, nat_tests)

under_256 : (b : ℕ) → nat_lt b 256 ≡ true → b < 256
under_256 b h = grind (arith, nat_tests)

bytes_true : (d : List ℕ) → IsBytes d → are_bytes d ≡ true
bytes_true [] h = refl
bytes_true (b ∷ d) h = both_true (below_256 b (h 0)) (bytes_true d (λ i. h (suc i)))

true_bytes : (d : List ℕ) → are_bytes d ≡ true → (i : ℕ) → get_or d i 0 < 256
true_bytes [] h i = omega arith
true_bytes (b ∷ d) h zero = under_256 b (and_left (nat_lt b 256) (are_bytes d) h)
true_bytes (b ∷ d) h (suc i) = true_bytes d (and_right (nat_lt b 256) (are_bytes d) h) i

-- an integrity's text gives its digest
pub digest_back : (d : List ℕ) → IsDigest d → digest_of (integrity_text d) ≡ Some d
digest_back d h =
    ap (checked (integrity_text d)) (digest_decodes (encode_of standard d) d refl h)
    ∙ ap (λ (b : Bool). cond b (Some d) None) (both_true (itself (integrity_text d)) (both_true (ap (λ n. n == 64) h.0) (bytes_true d h.1)))

abbrev Found : List ℕ → List ℕ → Type 0
Found text d = (text ≡ integrity_text d) × IsDigest d

tested : (text x d : List ℕ) (b : Bool) → (bytes_eq (integrity_text x) text && (length x == 64 && are_bytes x)) ≡ b → cond b (Some x) None ≡ Some d → Found text d
tested text x d true t h =
    let rest = and_right (bytes_eq (integrity_text x) text) (length x == 64 && are_bytes x) t in
    let same : x ≡ d = cc h in
    subst (Found text) same (
      sym ((bytes_eq-Decides (integrity_text x) text).0 (and_left (bytes_eq (integrity_text x) text) (length x == 64 && are_bytes x) t)),
      (eqb-true (length x) 64 (and_left (length x == 64) (are_bytes x) rest), true_bytes x (and_right (length x == 64) (are_bytes x) rest)),
    )
tested text x d false t h = absurd (cc h)

pub digest_found : (text d : List ℕ) → digest_of text ≡ Some d → Found text d
digest_found text d h = go (decode_of standard (drop 7 text)) h where
  go : (r : Result (List ℕ) DecodeError) → checked text r ≡ Some d → Found text d
  go (Ok x) g = tested text x d (bytes_eq (integrity_text x) text && (length x == 64 && are_bytes x)) refl g
  go (Err e) g = absurd (cc g)

pub digest_exact : (text : List ℕ) (r : Option (List ℕ)) → ((d : List ℕ) → (r ≡ Some d) ↔ ((text ≡ integrity_text d) × IsDigest d)) → r ≡ digest_of text
digest_exact text (Some d) h = let f = (h d).0 refl in sym (ap digest_of f.0 ∙ digest_back d f.1)
digest_exact text None h = go (digest_of text) refl where
  go : (o : Option (List ℕ)) → digest_of text ≡ o → None ≡ o
  go None e = refl
  go (Some d) e = absurd (let w = (h d).1 (digest_found text d e) in cc w)
