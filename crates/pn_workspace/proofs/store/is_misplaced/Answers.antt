use Rattle.std.proofs.Common.{◌≡◌, ◌∷◌, sym, ◌∙◌, codes, false}
use Rattle.pn_text.proofs.Results.{if_ok}
use Rattle.pn_draft.specs.Drawing.{is_within}
use Rattle.pn_workspace.specs.Stores.{is_named, modules_name}
use Rattle.pn_workspace.proofs.PlaceLemmas.{last_of_five}
use Rattle.pn_workspace.proofs.store.is_misplaced.Goals as goal

pub returns : goal.returns
returns c =
    let s = c.args.store.now in
    let root = c.args.root.now in
    let named : is_named modules_name s ≡ false = sym c.is_named.ensures ∙ c.if-is_named.false in
    let lock : is_within (codes "pnpm-lock.yaml" ∷ root) s ≡ false = sym c.in_ok-is_within_entry.ensures ∙ c.if-branch.false in
    let new_lock : is_within (codes "pnpm-lock.yaml.pnpm-rs" ∷ root) s ≡ false = sym c.in_ok-is_within_entry-2.ensures ∙ c.if-branch-2.false in
    let manifest : is_within (codes "package.json.pnpm-rs" ∷ c.args.place.now) s ≡ false = sym c.in_ok-is_within_entry-3.ensures ∙ c.if-branch-3.false in
    if_ok c.some_in_way.result (λ b is. is ∙ sym (last_of_five _ _ _ _ _ named lock new_lock manifest)) c.some_in_way.ensures
