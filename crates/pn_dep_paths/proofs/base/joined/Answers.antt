use Rattle.std.proofs.Common.{◌≡◌, ◌++◌, ℕ, List, [], ◌∷◌, get_or, take, refl, sym, ap, ◌∙◌}
use Rattle.std.specs.List.{concat}
use Rattle.std.proofs.lemmas.List.{get_or_default, take_more}
use Rattle.std.proofs.lemmas.List.Folds.{concat-append}
use Rattle.pn_dep_paths.proofs.base.joined.Goals as goal

nil : (xs : List ℕ) → xs ++ [] ≡ xs
nil [] = refl
nil (x ∷ xs) = ap (λ (t : List ℕ). x ∷ t) (nil xs)

pub loop-group-preserved : goal.loop-group-preserved
loop-group-preserved c =
    let groups = c.args.groups.now in
    let i = c.loop-group.group-index in
    let g = get_or groups i [] in
    let front = concat (take i groups) in
    let at : c.group-item.result ≡ g = c.group-item.is ∙ sym (get_or_default groups i [] c.group-item.result c.loop-group-test.true) in
    c.in_ok-push_str.ensures.bytes ∙ ap (λ (t : List ℕ). t ++ c.as_str.result.now) c.loop-group.invariant ∙ ap (λ (t : List ℕ). front ++ t) (c.as_str.ensures ∙ at)
    ∙ ap (λ (t : List ℕ). front ++ t) (sym (nil g)) ∙ sym (concat-append (take i groups) (g ∷ [])) ∙ ap concat (sym (take_more groups i [] c.loop-group-test.true))
