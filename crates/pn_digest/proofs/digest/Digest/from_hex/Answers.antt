use Rattle.std.proofs.Common.{◌≡◌, ◌∙◌, ap, sym, refl, true, false}
use Rattle.std.proofs.lemmas.Slice.Eq.{bytes_eq-Decides}
use Rattle.hex.specs.Hex.{encode_lower}
use Rattle.pn_digest.proofs.IsDigestLemmas.{decoded, none_exact, some_exact, not_error}
use Rattle.pn_digest.proofs.digest.Digest.from_hex.Goals as goal

pub returns-then-is_err : goal.returns-then-is_err
returns-then-is_err c = record {
  exact = none_exact c.args.digits.now (λ d is digest. not_error c.decode_to_slice.result (decoded c.args.digits.now d _ _ _ refl is digest c.decode_to_slice.ensures.value).0 (sym c.is_err.ensures.value ∙ c.if-is_err.true));
}

pub returns-then-eq : goal.returns-then-eq
returns-then-eq c =
    let digest = c.of-digest.result in
    let same = (bytes_eq-Decides c.as_slice.result.now c.args.digits.now).0 (sym c.eq.ensures ∙ c.if-eq.true) in
    record { exact = some_exact c.args.digits.now digest (sym same ∙ c.as_slice.ensures ∙ c.hex_digits.ensures) c.of-digest.ensures.digest }

pub returns-else-eq : goal.returns-else-eq
returns-else-eq c = record {
  exact = none_exact c.args.digits.now (λ d is digest.
      let new = (decoded c.args.digits.now d _ _ _ refl is digest c.decode_to_slice.ensures.value).1 in
      let same : c.as_slice.result.now ≡ c.args.digits.now = c.as_slice.ensures ∙ c.hex_digits.ensures ∙ ap encode_lower (c.of-digest.ensures.bytes ∙ new) ∙ sym is in
      let yes = (bytes_eq-Decides c.as_slice.result.now c.args.digits.now).1 same in
      let f : true ≡ false = sym yes ∙ sym c.eq.ensures ∙ c.if-eq.false in
      cc);
}
