use Rattle.std.proofs.Common.{◌++◌, ◌∷◌, [], List, ℕ, set, ap, ◌∙◌, Vec, Global}
use Rattle.std.proofs.lemmas.List.{map-set}
use Rattle.pn_components.specs.Rows.{rows_of}
use Rattle.pn_components.proofs.StepLemmas.{row_at}
use Rattle.pn_components.proofs.rows.add.Goals as goal

pub returns : goal.returns
returns c =
    let rows = c.args.rows.now.items in
    let row = row_at rows c.args.from c.index_mut.result.now c.requires c.index_mut.ensures.value in
    map-set (λ (r : Vec ℕ Global). r.items) rows c.args.from c.push.new.self
    ∙ ap (set (rows_of rows) c.args.from) (c.in_ok-push.ensures.items ∙ ap (λ (r : List ℕ). r ++ c.args.to ∷ []) row)
