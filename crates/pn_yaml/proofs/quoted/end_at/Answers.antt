use Rattle.std.proofs.Common.{ℕ, List, ◌++◌, ◌∷◌, [], sym, ap, ◌∙◌, append_assoc}
use Rattle.pn_yaml.proofs.Quotes.{free_more}
use Rattle.pn_yaml.proofs.quoted.end_at.Goals as goal

pub bytes-preserved : goal.bytes-preserved
bytes-preserved c =
    let i = c.bytes.invariant in (
      i.0 ++ c.in-Some.c ∷ [],
      i.1 ∙ ap (λ (y : List ℕ). i.0 ++ y) c.in-Some.ensures ∙ sym (append_assoc i.0 (c.in-Some.c ∷ []) c.in-Some.behind.now),
      free_more c.args.a c.args.b i.0 c.in-Some.c i.2 c.if-c-a.false c.if-c-b.false,
    )
