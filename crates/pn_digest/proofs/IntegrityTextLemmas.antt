-- What the base64 of a digest decodes to.
use Rattle.std.proofs.Common.{◌≡◌, ◌↔◌, ℕ, ◌≤◌, List, length, take, None, Some, Result, Ok, Err, refl, sym, subst, ap, ◌∙◌, length-append}
use Rattle.std.proofs.lemmas.List.{length-take-le}
use Rattle.base64.specs.Engines.{standard}
use Rattle.base64.specs.GeneralPurpose.{IsBytes, encode_of, decode_of}
use Rattle.base64.specs.declared.decode.DecodeError.{DecodeError}
use Rattle.base64.proofs.EngineFacts.{decode_of-encode_of, decode_of_strict}
use Rattle.base64.proofs.RoundTrip.{length-encode_symbols}
use Rattle.pn_digest.specs.Digests.{IsDigest}

pub digest_decodes : (s d : List ℕ) → s ≡ encode_of standard d → IsDigest d → decode_of standard s ≡ Ok d
digest_decodes s d is digest = rw is (decode_of-encode_of standard d refl digest.1)

pub length-encoded : (s d : List ℕ) → s ≡ encode_of standard d → IsDigest d → length s ≡ 88
length-encoded s d is digest =
    let symbols = length-encode_symbols standard.encode_table d in
    rw (is, length-append, symbols, digest.0) refl

same_ok : (r : Result (List ℕ) DecodeError) (a b : List ℕ) → r ≡ Ok a → r ≡ Ok b → a ≡ b
same_ok r a b x y = cc (x, y)

not_both : (r : Result (List ℕ) DecodeError) (a : List ℕ) (e : DecodeError) → r ≡ Ok a → r ≡ Err e → ⊥
not_both r a e x y = cc (x, y)

pub decoded_exact : (s b : List ℕ) → IsBytes s → IsDigest b → decode_of standard s ≡ Ok b
    → (d : List ℕ) → (Some b ≡ Some d) ↔ ((s ≡ encode_of standard d) × IsDigest d)
decoded_exact s b bytes digest ok d = (
  λ same.
      let is : b ≡ d = cc same in
      subst (λ x. (s ≡ encode_of standard x) × IsDigest x) is (decode_of_strict standard s b (refl, refl) bytes ok, digest),
  λ h. ap Some (same_ok _ b d ok (digest_decodes s d h.0 h.1)),
)

pub none_exact : (s : List ℕ) → ((d : List ℕ) → s ≡ encode_of standard d → IsDigest d → ⊥)
    → (d : List ℕ) → (None ≡ Some d) ↔ ((s ≡ encode_of standard d) × IsDigest d)
none_exact s never d = (λ same. cc same, λ h. absurd (never d h.0 h.1))

pub other_size : (s new d : List ℕ) (n : ℕ) → n ≤ length new → decode_of standard s ≡ Ok (take n new) → s ≡ encode_of standard d → IsDigest d → n ≡ 64
other_size s new d n fits ok is digest =
    let same = same_ok _ (take n new) d ok (digest_decodes s d is digest) in
    let size : length (take n new) ≡ n = length-take-le n new fits in
    sym size ∙ (ap (λ (x : List ℕ). length x) same ∙ digest.0)

pub refused : (s d : List ℕ) (e : DecodeError) → decode_of standard s ≡ Err e → s ≡ encode_of standard d → IsDigest d → ⊥
refused s d e err is digest = not_both _ d e (digest_decodes s d is digest) err

pub one_digest : (a b : List ℕ) → IsDigest a → IsDigest b → encode_of standard a ≡ encode_of standard b → a ≡ b
one_digest a b da db same =
    same_ok _ a b (digest_decodes _ a refl da) (digest_decodes _ b same db)
