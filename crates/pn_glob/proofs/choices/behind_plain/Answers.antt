use Rattle.std.proofs.Common.{◌++◌, ◌∷◌, [], ℕ, List, ap, sym, ◌∙◌, append_assoc}
use Rattle.std.specs.Prelude.{not}
use Rattle.pn_glob.specs.Grammar.{is_plain}
use Rattle.pn_glob.proofs.Braces.{front-more}
use Rattle.pn_glob.proofs.choices.behind_plain.Goals as goal

pub bytes-preserved : goal.bytes-preserved
bytes-preserved c =
    let i = c.bytes.invariant in
    (i.0 ++ c.in-Some.b ∷ [], i.1 ∙ ap (λ (y : List ℕ). i.0 ++ y) c.in-Some.ensures ∙ sym (append_assoc i.0 (c.in-Some.b ∷ []) c.in-Some.behind.now), front-more is_plain i.0 c.in-Some.b i.2 (ap not (sym c.if-is_bracket.ensures)))
