use Rattle.std.proofs.Common.{rules, sym, subst, ap, ◌∙◌}
use Rattle.std.specs.Cmp.Lexicographic.{slice_cmp}
use Rattle.std.specs.List.{list_any}
use Rattle.std.specs.Ordering.{nat_cmp}
use Rattle.std.specs.Str.{bytes_eq}
use Rattle.std.proofs.lemmas.Fn.{always_returns_same}
use Rattle.pn_manifest.specs.Pairs.{names}
use Rattle.pn_manifest.specs.Said.{AreRising}
use Rattle.pn_manifest.specs.declared.dependencies.Dependency.{Dependency}
use Rattle.pn_seen.proofs.SearchLemmas.{searched, listed_names}
use Rattle.pn_seen.proofs.lookups.has.Goals as goal

pub returns : goal.returns
returns c =
    let key : Dependency → _ = λ d. d.name in
    let list = c.as_slice.result.now in
    let same = sym (ap names c.as_slice.ensures.pairs) ∙ listed_names list in
    let facts = c.binary_search_by.ensures in
    let found = facts.position (λ (d : Dependency). slice_cmp nat_cmp d.name c.args.name.now) (always_returns_same _ _ _ (λ a r g called. search rules)) in
    c.is_ok.ensures.value ∙ searched key list c.args.name.now c.binary_search_by.result (subst AreRising same c.as_slice.ensures.rising) facts.bound found
    ∙ ap (list_any (bytes_eq c.args.name.now)) (sym same)
