use Rattle.std.proofs.Common.{◌≡◌, ℕ, [], ◌∷◌, sym, ◌∙◌}
use Rattle.pn_text.proofs.Results.{on_ok}
use Rattle.pn_outer.specs.Founds.{AddsAll, IsOpen}
use Rattle.pn_outer.proofs.FoundLemmas.{deps_there, opened, shut}
use Rattle.pn_outer.proofs.found.Found.meet_one.Goals as goal

pub returns-then-has_alias-clause-added : goal.returns-then-has_alias-clause-added
returns-then-has_alias-clause-added c =
    let instances = c.args.instances.now in
    let at = c.args.at in
    let is = c.as_slice.ensures ∙ sym (deps_there instances at c.index-instances-at.result c.requires.within) in
    shut instances c.args.name.now at c.as_slice.result.now c.args.self.now.order.items is (sym c.has_alias.ensures ∙ c.if-has_alias.true)

pub returns-clause-added : goal.returns-clause-added
returns-clause-added c =
    let instances = c.args.instances.now in
    let at = c.args.at in
    let name = c.args.name.now in
    let a = c.args.self.now.order.items in
    let b = c.meet.new.self.order.items in
    let is = c.as_slice.ensures ∙ sym (deps_there instances at c.index-instances-at.result c.requires.within) in
    on_ok {P = AddsAll (λ k. k ≡ at) a b} {Q = AddsAll (IsOpen instances name (at ∷ [])) a b} c.meet.result
    (opened instances name at c.as_slice.result.now a b is (sym c.has_alias.ensures ∙ c.if-has_alias.false)) c.meet.ensures.added
