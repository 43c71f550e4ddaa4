use Rattle.std.proofs.Common.{sym, ◌∙◌, arith}
use Rattle.std.proofs.lemmas.List.{at_drop_all}
use Rattle.pn_deppath.specs.Paths.{are_groups}
use Rattle.pn_deppath.proofs.PathLemmas.{few_open, open_end, open_more, open_none}
use Rattle.pn_deppath.proofs.path.are_groups.Goals as goal

pub returns-in-None : goal.returns-in-None
returns-in-None c = sym (open_none c.args.text.now c.loop-b.b-index c.loop-b.level c.loop-b-test.true (sym c.next_open.ensures ∙ c.in-None.is)) ∙ c.loop-b.invariant.rest

pub loop-b-preserved : goal.loop-b-preserved
loop-b-preserved c =
    let next = sym c.next_open.ensures ∙ c.in-Some.is in
    let few = c.loop-b.invariant.few in
    record {
      rest = sym (open_more c.args.text.now c.loop-b.b-index c.loop-b.level c.in-Some.next c.loop-b-test.true next) ∙ c.loop-b.invariant.rest;
      few = omega (arith, few, few_open c.loop-b.level _ c.in-Some.next next);
    }

pub returns : goal.returns
returns c = sym (open_end c.loop-b.level) ∙ sym (at_drop_all (are_groups c.loop-b.level) c.args.text.now c.loop-b.b-index c.loop-b-test.false) ∙ c.loop-b.invariant.rest
