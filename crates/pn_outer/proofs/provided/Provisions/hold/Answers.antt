use Rattle.std.proofs.Common.{◌++◌, ◌∷◌, [], List, ℕ, set, sym, ap, ◌∙◌, Vec, Global}
use Rattle.std.proofs.lemmas.List.{map-set}
use Rattle.pn_components.specs.Rows.{rows_of}
use Rattle.pn_outer.proofs.PairLemmas.{row_at}
use Rattle.pn_outer.proofs.provided.Provisions.hold.Goals as goal

pub returns-clause-holders : goal.returns-clause-holders
returns-clause-holders c =
    let rows = c.args.self.now.holders.items in
    let row = sym (row_at rows c.args.place c.index_mut.result.now c.requires c.index_mut.ensures.value) in
    map-set (λ (r : Vec ℕ Global). r.items) rows c.args.place c.push.new.self
    ∙ ap (set (rows_of rows) c.args.place) (c.in_ok-push.ensures.items ∙ ap (λ (r : List ℕ). r ++ c.args.to ∷ []) row)
