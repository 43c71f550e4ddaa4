use Rattle.std.proofs.Common.{◌∙◌, arith}
use Rattle.pn_spec.proofs.Puts.{put-equal, put-greater, put-less}
use Rattle.pn_spec.proofs.catalogs.place.Goals as goal

pub returns-in-Equal-clause-found : goal.returns-in-Equal-clause-found
returns-in-Equal-clause-found c =
    (c.loop-i-test.true, c.loop-i.invariant ∙ put-equal c.args.entry.now c.args.items.now c.loop-i.i c.index-items-i.result c.loop-i-test.true c.index-items-i.is c.in-Equal.ensures)

pub returns-in-Greater-clause-free : goal.returns-in-Greater-clause-free
returns-in-Greater-clause-free c =
    let l = c.loop-i-test.true in
    (omega (arith, l), c.loop-i.invariant ∙ put-greater c.args.entry.now c.args.items.now c.loop-i.i c.index-items-i.result l c.index-items-i.is c.in-Greater.ensures)

pub loop-i-preserved : goal.loop-i-preserved
loop-i-preserved c =
    c.loop-i.invariant ∙ put-less c.args.entry.now c.args.items.now c.loop-i.i c.index-items-i.result c.loop-i-test.true c.index-items-i.is c.in-Less.ensures
