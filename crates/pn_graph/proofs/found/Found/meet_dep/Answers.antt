use Rattle.std.proofs.Common.{◌≡◌, ℕ, sym, ap, ◌∙◌}
use Rattle.pn_text.proofs.Results.{on_ok}
use Rattle.pn_graph.specs.Graphs.{to_package}
use Rattle.pn_graph.specs.Founds.{AddsAll}
use Rattle.pn_graph.proofs.FoundLemmas.{adds_same, to_place, IsTo}
use Rattle.pn_graph.proofs.found.Found.meet_dep.Goals as goal

pub meet-requires-clause-within : goal.meet-requires-clause-within
meet-requires-clause-within c = c.requires.within c.in-Package.package.0 c.in-Package.is

pub returns-in-Package-clause-added : goal.returns-in-Package-clause-added
returns-in-Package-clause-added c =
    let at = c.in-Package.package.0 in
    let a = c.args.self.now.order.items in
    let b = c.meet.new.self.order.items in
    on_ok {P = AddsAll (λ k. k ≡ at) a b} {Q = AddsAll (IsTo c.args.dep.now) a b} c.meet.result
    (adds_same (λ k. k ≡ at) (IsTo c.args.dep.now) a b
    (λ k e. c.in-Package.is ∙ ap (λ (j : ℕ). to_package (record { 0 = j })) (sym e))
    (λ k e. to_place c.args.dep.now.to k at e c.in-Package.is))
    c.meet.ensures.added
