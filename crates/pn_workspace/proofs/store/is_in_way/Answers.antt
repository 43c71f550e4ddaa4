use Rattle.std.proofs.Common.{◌≡◌, ◌∷◌, sym, ap, ◌∙◌, true, false}
use Rattle.std.specs.Prelude.{not, ◌&&◌, ◌||◌}
use Rattle.pn_draft.specs.Drawing.{is_within}
use Rattle.pn_workspace.specs.Stores.{modules_name}
use Rattle.pn_workspace.proofs.store.is_in_way.Goals as goal

pub returns-then-inside : goal.returns-then-inside
returns-then-inside c =
    let d = c.args.is_default in
    let s = c.args.store.now in
    let p = c.args.project.now in
    let above : is_within s p ≡ false = sym c.in_ok-is_within.ensures ∙ c.if-branch.false in
    let inside : is_within (modules_name ∷ p) s ≡ true = sym c.in_ok-inside.ensures ∙ c.if-inside.true in
    sym (ap (λ x. x || (is_within (modules_name ∷ p) s && not d)) above ∙ ap (λ x. x && not d) inside)

pub returns-else-inside : goal.returns-else-inside
returns-else-inside c =
    let d = c.args.is_default in
    let s = c.args.store.now in
    let p = c.args.project.now in
    let above : is_within s p ≡ false = sym c.in_ok-is_within.ensures ∙ c.if-branch.false in
    let outside : is_within (modules_name ∷ p) s ≡ false = sym c.in_ok-inside.ensures ∙ c.if-inside.false in
    c.if-inside.false ∙ sym (ap (λ x. x || (is_within (modules_name ∷ p) s && not d)) above ∙ ap (λ x. x && not d) outside)
