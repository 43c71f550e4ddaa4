use Rattle.std.proofs.Common.{◌++◌, ◌∷◌, [], ℕ, List, ap, sym, ◌∙◌, append_assoc}
use Rattle.pn_glob.proofs.Gaps.{eq-false, eq-true}
use Rattle.pn_glob.proofs.PartsLemmas.{at_slash, flat-more, parts-front}
use Rattle.pn_glob.specs.Bytes.{parts}
use Rattle.pn_glob.proofs.parts.behind_part.Goals as goal

pub bytes-preserved : goal.bytes-preserved
bytes-preserved c =
    let i = c.bytes.invariant in
    (i.0 ++ c.in-Some.b ∷ [], i.1 ∙ ap (λ (y : List ℕ). i.0 ++ y) c.in-Some.ensures ∙ sym (append_assoc i.0 (c.in-Some.b ∷ []) c.in-Some.behind.now), flat-more i.0 c.in-Some.b i.2 (eq-false c.in-Some.b 47 c.if-b-eq47.false))

pub returns-then-b-eq47 : goal.returns-then-b-eq47
returns-then-b-eq47 c =
    let i = c.bytes.invariant in
    (i.0, i.1, ap parts i.1 ∙ parts-front i.0 c.bytes.rest.now i.2 (ap at_slash c.in-Some.ensures ∙ eq-true c.in-Some.b 47 c.if-b-eq47.true))

pub returns-in_default : goal.returns-in_default
returns-in_default c =
    let i = c.bytes.invariant in
    (i.0, i.1, ap parts i.1 ∙ parts-front i.0 c.bytes.rest.now i.2 (ap at_slash c.in_default.ensures))
