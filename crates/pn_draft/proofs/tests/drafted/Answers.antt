use Rattle.std.proofs.Common.{◌≡◌, ◌∙◌, ap, sym, subst, List, [], ◌∷◌, ◌++◌, length}
use Rattle.std.specs.Prelude.{codes}
use Rattle.pn_text.specs.Path.{Path}
use Rattle.pn_draft.specs.Drawing.{AreApart}
use Rattle.pn_draft.proofs.TopLemmas.{siblings_apart}
use Rattle.pn_draft.proofs.tests.drafted.Goals as goal

pub new-requires : goal.new-requires
new-requires c =
    let first : c.in_ok-child.field-0 ≡ codes "m" ∷ c.in_ok-above.above = c.in_ok-child.ensures.ok in
    let second : c.in_ok-child-2.field-0 ≡ codes "m-b" ∷ c.in_ok-above.above = c.in_ok-child-2.ensures.ok in
    let items : c.deref.result.now ≡ (codes "m" ∷ c.in_ok-above.above) ∷ (codes "m-b" ∷ c.in_ok-above.above) ∷ [] =
    c.deref.ensures.value ∙ c.in_ok-push-2.ensures.items ∙ ap (λ (l : List Path). l ++ c.in_ok-child-2.field-0 ∷ []) (c.in_ok-push.ensures.items ∙ ap (λ (l : List Path). l ++ c.in_ok-child.field-0 ∷ []) c.new-all.ensures.items)
    ∙ (λ i. first i ∷ second i ∷ []) in
    subst AreApart (sym items) (siblings_apart (codes "m") (codes "m-b") c.in_ok-above.above (λ e. let clash : 1 ≡ 3 = ap length e in cc))
