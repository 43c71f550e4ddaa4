use Rattle.std.proofs.Common.{rules, sym, ap, ◌∙◌}
use Rattle.std.specs.Cmp.Lexicographic.{slice_cmp}
use Rattle.std.specs.Ordering.{nat_cmp}
use Rattle.std.proofs.lemmas.Fn.{always_returns_same}
use Rattle.pn_text.specs.Path.{path_text}
use Rattle.pn_clear.proofs.RisesLemmas.{found_text, none_found}
use Rattle.pn_clear.proofs.search.find.Goals as goal

pub returns-in-Ok : goal.returns-in-Ok
returns-in-Ok g c =
    let found = c.binary_search_by.ensures.position (λ y. slice_cmp nat_cmp (path_text y.0) c.args.text.now) (always_returns_same _ _ _ (λ a r g called. search rules)) in
    let same = found_text c.args.text.now c.args.list.now c.binary_search_by.result c.in-Ok.at c.in-Ok.is c.requires.rising found c.index-list-at.result in
    ((c.in-Ok.at, c.in-Ok.ensures.bound, sym c.index-list-at.is), record { good = c.as_str-spelled.ensures.text.good; spelled = sym same ∙ ap (λ e. path_text e.0) (sym c.index-list-at.is) })

pub returns-in-Err : goal.returns-in-Err
returns-in-Err g c =
    let found = c.binary_search_by.ensures.position (λ y. slice_cmp nat_cmp (path_text y.0) c.args.text.now) (always_returns_same _ _ _ (λ a r g called. search rules)) in
    none_found c.args.text.now c.args.list.now c.binary_search_by.result c.in-Err.field-0 c.in-Err.is c.requires.rising found
