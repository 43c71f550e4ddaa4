use Rattle.std.proofs.Common.{ℕ, List, length, ap, arith, sym, ◌∙◌, subst}
use Rattle.pn_glob.specs.ReadLists.{Added, IsBad}
use Rattle.pn_glob.specs.Lists.{Refused}
use Rattle.pn_glob.proofs.Braces.{items_of}
use Rattle.pn_glob.proofs.Heads.{before-next, before-start, refused-at}
use Rattle.pn_glob.proofs.list.add_all.Goals as goal

pub texts-init : goal.texts-init
texts-init c = record {
  read = before-start c.args.kind c.args.texts.now (items_of c.args.positive.now.items) (items_of c.args.negative.now.items) (ap items_of c.requires.none) (ap items_of c.requires.none_negative);
  few = omega arith;
}

pub returns-in-Err-clause-err : goal.returns-in-Err-clause-err
returns-in-Err-clause-err c = subst (Refused c.args.kind c.args.texts.now) (sym c.fault_of.ensures)
    (refused-at c.args.kind c.args.texts.now c.texts.left.now c.texts.index (items_of c.texts.positive.items) (items_of c.texts.negative.items) c.in-Some.text.now c.in-Some.rest.now c.in-Err.bad
    c.texts.invariant.read c.in-Some.ensures
    (subst (λ (y : List ℕ). IsBad c.args.kind y c.in-Err.bad) (c.as_bytes.ensures.value ∙ c.as_str.ensures) c.in-Err.ensures.err))

pub texts-preserved : goal.texts-preserved
texts-preserved c = record {
  read = before-next c.args.kind c.args.texts.now c.texts.left.now c.texts.index (items_of c.texts.positive.items) (items_of c.add.new.positive.items)
      (items_of c.texts.negative.items) (items_of c.add.new.negative.items) c.in-Some.text.now c.in-Some.rest.now c.texts.invariant.read c.in-Some.ensures
      (subst (λ (y : List ℕ). Added c.args.kind y (items_of c.texts.positive.items) (items_of c.add.new.positive.items) (items_of c.texts.negative.items) (items_of c.add.new.negative.items))
      (c.as_bytes.ensures.value ∙ c.as_str.ensures) c.in_default-add.ensures.ok);
  few = let f = c.texts.invariant.few in let e = ap (λ (y : List (List ℕ)). length y) c.in-Some.ensures in omega arith;
}
