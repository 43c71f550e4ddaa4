use Rattle.std.proofs.Common.{◌≡◌, ◌++◌, ◌∷◌, [], sym, ap, ◌∙◌, subst, append_assoc, IsTrue, rules}
use Rattle.pn_text.specs.Faults.{JoinFault}
use Rattle.pn_text.specs.Path.{is_part, path_text}
use Rattle.pn_config.proofs.WayLemmas.{last_good, long_below}
use Rattle.pn_config.proofs.folder.descend.Goals as goal

pub child-requires : goal.child-requires
child-requires c = subst (λ x. IsTrue (is_part x)) (sym c.as_str.ensures) (last_good c.parts.left.items c.pop.new.self.items c.in-Some.part c.in-Some.ensures.items c.parts.invariant.good).1

pub parts-preserved : goal.parts-preserved
parts-preserved c = record {
  good = (last_good c.parts.left.items c.pop.new.self.items c.in-Some.part c.in-Some.ensures.items c.parts.invariant.good).0;
  same = ap (λ p. c.pop.new.self.items ++ p) (c.in_ok-at.ensures.ok ∙ ap (λ x. x ∷ c.parts.at) c.as_str.ensures)
      ∙ sym (append_assoc c.pop.new.self.items (c.in-Some.part ∷ []) c.parts.at)
      ∙ ap (λ p. p ++ c.parts.at) (sym c.in-Some.ensures.items)
      ∙ c.parts.invariant.same;
}

pub returns-in_err-at-clause-fault : goal.returns-in_err-at-clause-fault
returns-in_err-at-clause-fault c =
    let whole : c.pop.new.self.items ++ c.as_str.result.now ∷ c.parts.at ≡ c.args.parts.items ++ c.args.from =
    ap (λ x. c.pop.new.self.items ++ x ∷ c.parts.at) c.as_str.ensures
    ∙ sym (append_assoc c.pop.new.self.items (c.in-Some.part ∷ []) c.parts.at)
    ∙ ap (λ p. p ++ c.parts.at) (sym c.in-Some.ensures.items)
    ∙ c.parts.invariant.same in
    let fault : JoinFault (path_text (c.args.parts.items ++ c.args.from)) c.in_err-at.field-0.0 = long_below c.pop.new.self.items (c.as_str.result.now ∷ c.parts.at) (c.args.parts.items ++ c.args.from) c.in_err-at.field-0.0 whole c.in_err-at.ensures.fault in
    search (rules, fault)
