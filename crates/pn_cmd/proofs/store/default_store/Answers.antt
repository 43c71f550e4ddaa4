use Rattle.std.proofs.Common.{◌∷◌, [], sym, ◌∙◌, subst}
use Rattle.pn_text.specs.Path.{Path}
use Rattle.pn_workspace.specs.Stores.{IsPlaced, NoPlace}
use Rattle.pn_cmd.specs.Known.{space_of}
use Rattle.pn_cmd.proofs.StoreLemmas.{at_default, displaced, elsewhere}
use Rattle.pn_cmd.proofs.store.default_store.Goals as goal

pub returns-in-Err-Misplaced-clause-refused : goal.returns-in-Err-Misplaced-clause-refused
returns-in-Err-Misplaced-clause-refused c w =
    let place = c.args.place.now in
    let workspace = c.args.workspace.now in
    displaced c.misplaced.result (space_of place workspace) w (c.misplaced.ensures workspace) (subst (NoPlace workspace place (place ∷ [])) c.in-Err-Misplaced.field-0-is
    (subst (λ (p : Path). NoPlace workspace place (p ∷ []) c.in-Err-Misplaced.field-0) c.in_ok-copy.ensures c.in-Err-Misplaced.ensures.refused))

pub returns-then-branch-clause-passed : goal.returns-then-branch-clause-passed
returns-then-branch-clause-passed c =
    let place = c.args.place.now in
    let workspace = c.args.workspace.now in
    at_default (space_of place workspace) c.in-Ok.store (subst (λ (p : Path). IsPlaced workspace place (p ∷ []) c.in-Ok.store) c.in_ok-copy.ensures c.in-Ok.ensures.placed) (sym c.in_ok-is_default_store.ensures ∙ c.if-branch.true)

pub returns-clause-refused : goal.returns-clause-refused
returns-clause-refused c w =
    let place = c.args.place.now in
    let workspace = c.args.workspace.now in
    elsewhere c.not_yet.result (space_of place workspace) w c.in-Ok.store (subst (λ (p : Path). IsPlaced workspace place (p ∷ []) c.in-Ok.store) c.in_ok-copy.ensures c.in-Ok.ensures.placed)
    (sym c.in_ok-is_default_store.ensures ∙ c.if-branch.false) c.not_yet.ensures
