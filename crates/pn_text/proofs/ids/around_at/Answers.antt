use Rattle.std.proofs.Common.{◌+◌, arith, subst}
use Rattle.std.specs.Str.{IsCharBoundary}
use Rattle.std.proofs.lemmas.Str.{IsCharBoundary-after_ascii}
use Rattle.pn_text.proofs.ids.around_at.Goals as goal

pub split_at-requires-in-Some : goal.split_at-requires-in-Some
split_at-requires-in-Some c =
    let at = c.in-Some.at in
    let sign = c.in-Some.ensures in
    subst (λ t. IsCharBoundary t (at + 1)) c.as_bytes.ensures.value (IsCharBoundary-after_ascii c.as_bytes.result.now at c.as_bytes.ensures.utf8 sign.within (omega (arith, sign.sign)))
