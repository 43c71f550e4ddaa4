use Rattle.std.proofs.Common.{◌++◌, ◌∷◌, [], sym, ◌∙◌}
use Rattle.pn_yaml.proofs.Plains.{plain_more}
use Rattle.pn_yaml.proofs.plain.plain_end.Goals as goal

pub bytes-preserved : goal.bytes-preserved
bytes-preserved c =
    let i = c.bytes.invariant in
    (i.0 ++ c.in-Some.b ∷ [], plain_more c.args.place c.args.text.now i.0 c.bytes.rest.now c.in-Some.b c.in-Some.behind.now i.1 c.in-Some.ensures (sym c.ends_plain.ensures ∙ c.if-ends_plain.false))
