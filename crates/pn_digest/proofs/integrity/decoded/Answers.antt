use Rattle.std.proofs.Common.{arith}
use Rattle.pn_digest.proofs.IntegrityTextLemmas.{none_exact, length-encoded, decoded_exact, other_size, refused}
use Rattle.pn_digest.proofs.integrity.decoded.Goals as goal

pub returns-then-text-ne88 : goal.returns-then-text-ne88
returns-then-text-ne88 c = record {
  exact = none_exact c.args.text.now (λ d is digest. c.if-text-ne88.true (length-encoded c.args.text.now d is digest));
}

pub returns-in_default : goal.returns-in_default
returns-in_default c = record {
  exact = none_exact c.args.text.now (λ d is digest. refused c.args.text.now d _ c.in_default.ensures.err is digest);
}

pub returns-then-size-ne64 : goal.returns-then-size-ne64
returns-then-size-ne64 c = record {
  exact = none_exact c.args.text.now (λ d is digest. c.if-size-ne64.true (other_size c.args.text.now c.decode_slice_unchecked.new.output d c.in-Ok.size (omega (arith, c.in-Ok.ensures.ok.2, c.decode_slice_unchecked.auto.output)) c.in-Ok.ensures.ok.0 is digest));
}

pub returns : goal.returns
returns c = record {
  exact = decoded_exact c.args.text.now c.first_64.result (λ i. let f = c.type_inv.text i in omega arith) c.first_64.ensures.digest (rw (c.first_64.ensures.bytes, ← c.if-size-ne64.false) c.in-Ok.ensures.ok.0);
}
