use Rattle.std.proofs.Common.{◌≡◌, ◌<◌, ◌++◌, ◌∷◌, [], List, ℕ, length, set, sym, ap, ◌∙◌, subst, Vec, Global}
use Rattle.std.proofs.lemmas.List.{length-map, map-set}
use Rattle.pn_components.specs.Rows.{rows_of}
use Rattle.pn_outer.proofs.PairLemmas.{one_pair, row_at}
use Rattle.pn_outer.proofs.outer.push.Goals as goal

pub returns-clause-adds : goal.returns-clause-adds
returns-clause-adds c =
    let rows = c.args.rows.now.items in
    let at = c.args.at in
    let row = sym (row_at rows at c.index_mut.result.now c.requires c.index_mut.ensures.value) in
    let is = map-set (λ (r : Vec ℕ Global). r.items) rows at c.push.new.self
    ∙ ap (set (rows_of rows) at) (c.in_ok-push.ensures.items ∙ ap (λ (r : List ℕ). r ++ c.args.pair ∷ []) row) in
    let within = subst (λ (n : ℕ). at < n) (sym (length-map rows (λ (r : Vec ℕ Global). r.items))) c.requires in
    one_pair c.args.pair at (rows_of rows) (rows_of (set rows at c.push.new.self)) within is
