use Rattle.std.proofs.Common.{rules, sym}
use Rattle.std.specs.Cmp.Lexicographic.{slice_cmp}
use Rattle.std.specs.Ordering.{nat_cmp}
use Rattle.std.proofs.lemmas.Fn.{always_returns_same}
use Rattle.pn_graph.specs.Graphs.{Dep}
use Rattle.pn_graph.proofs.SearchLemmas.{dep_absent, found_at, none_at}
use Rattle.pn_graph.proofs.find.find.Goals as goal

pub returns-in-Ok : goal.returns-in-Ok
returns-in-Ok c =
    let x = c.args.alias.now in
    let facts = c.in-Ok.ensures in
    let found = facts.position (λ (d : Dep). slice_cmp nat_cmp d.alias x) (always_returns_same _ _ _ (λ a r g called. search rules)) in
    sym (found_at x c.args.deps.now c.in-Ok.at c.index-deps-at.result c.requires facts.bound found)

pub returns-in-Err : goal.returns-in-Err
returns-in-Err c =
    let x = c.args.alias.now in
    let facts = c.in-Err.ensures in
    let parted = facts.position (λ (d : Dep). slice_cmp nat_cmp d.alias x) (always_returns_same _ _ _ (λ a r g called. search rules)) in
    sym (dep_absent x c.args.deps.now (none_at x c.args.deps.now c.in-Err.field-0 c.requires parted))
