-- Digests and their hex digits.
use Rattle.std.proofs.Common.{◌≡◌, ◌↔◌, ℕ, ◌/◌, ◌%◌, List, [], ◌∷◌, length, None, Some, Result, Ok, refl, sym, subst, ap, ◌∙◌, arith, true, false}
use Rattle.std.specs.Prelude.{MatchResult, is_err, ◌==◌, slice_index, zero, suc}
use Rattle.hex.specs.Hex.{encode_lower, encode_with, lower_digits, decode_sized, decode_pairs}
use Rattle.hex.specs.declared.error.FromHexError.{FromHexError}
use Rattle.hex.proofs.HexLemmas.{length-encode_with, decode_pairs-encode_with, IsDigits-lower_digits}
use Rattle.hex.proofs.Pairs.{decode_sized-pairs}
use Rattle.pn_digest.specs.Digests.{IsDigest}
use Rattle.pn_digest.specs.Listing.{has_feed}
use Rattle.pn_text.proofs.Bools.{both_false, left_false, right_false}

pub length-hex : (d : List ℕ) → IsDigest d → length (encode_lower d) ≡ 128
length-hex d digest = let e = length-encode_with lower_digits d in omega (arith, e, digest.0)

pub hex_decodes : (s d : List ℕ) (n : ℕ) → n ≡ 64 → s ≡ encode_lower d → IsDigest d → decode_sized s n ≡ Ok d
hex_decodes s d n sized is digest =
    let len : length s ≡ 128 = ap length is ∙ length-hex d digest in
    decode_sized-pairs s n (omega (arith, len)) (omega (arith, len, sized)) ∙ ap (decode_pairs 0) is ∙ decode_pairs-encode_with lower_digits IsDigits-lower_digits 0 d digest.1

same_ok : (r : Result (List ℕ) FromHexError) (a b : List ℕ) → r ≡ Ok a → r ≡ Ok b → a ≡ b
same_ok r a b x y = cc (x, y)

pub one_hex : (a b : List ℕ) → IsDigest a → IsDigest b → encode_lower a ≡ encode_lower b → a ≡ b
one_hex a b da db same = same_ok (decode_sized (encode_lower a) 64) a b (hex_decodes (encode_lower a) a 64 refl refl da) (hex_decodes (encode_lower a) b 64 refl same db)

-- what the decoder answers at the digits of a digest
pub decoded : (s d : List ℕ) (n : ℕ) (P : List ℕ → Type 0) (Q : FromHexError → Type 0) → n ≡ 64 → s ≡ encode_lower d → IsDigest d
    → MatchResult (decode_sized s n) P Q → P d
decoded s d n P Q sized is digest m = subst (λ r. MatchResult r P Q) (hex_decodes s d n sized is digest) m

pub none_exact : (s : List ℕ) → ((d : List ℕ) → s ≡ encode_lower d → IsDigest d → ⊥)
    → (d : List ℕ) → (None ≡ Some d) ↔ ((s ≡ encode_lower d) × IsDigest d)
none_exact s never d = (λ same. cc same, λ h. absurd (never d h.0 h.1))

pub some_exact : (s x : List ℕ) → s ≡ encode_lower x → IsDigest x → (d : List ℕ) → (Some x ≡ Some d) ↔ ((s ≡ encode_lower d) × IsDigest d)
some_exact s x is digest d = (
  λ same.
      let e : x ≡ d = cc same in
      subst (λ z. (s ≡ encode_lower z) × IsDigest z) e (is, digest),
  λ h. ap Some (one_hex x d digest h.1 (sym is ∙ h.0)),
)

no_feed_at : (xs : List ℕ) (k : ℕ) → has_feed xs ≡ false → (slice_index xs k == 10) ≡ false
no_feed_at [] k h = refl
no_feed_at (x ∷ xs) zero h = left_false (x == 10) (has_feed xs) h
no_feed_at (x ∷ xs) (suc k) h = no_feed_at xs k (right_false (x == 10) (has_feed xs) h)

pub no_feed_hex : (d : List ℕ) → has_feed (encode_lower d) ≡ false
unfolding encode_with
no_feed_hex [] = refl
no_feed_hex (b ∷ d) =
    both_false _ _ (no_feed_at lower_digits (b / 16) refl) (both_false _ _ (no_feed_at lower_digits (b % 16) refl) (no_feed_hex d))

pub not_error : (r : Result (Unit {0}) FromHexError) → r ≡ Ok tt → is_err r ≡ true → ⊥
not_error r ok err = let f : false ≡ true = ap is_err (sym ok) ∙ err in cc
