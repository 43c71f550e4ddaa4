use Rattle.std.proofs.Common.{◌∙◌, subst}
use Rattle.std.specs.List.{All}
use Rattle.std.proofs.lemmas.List.{take_all}
use Rattle.std.proofs.lemmas.List.Elements.{All-more}
use Rattle.pn_fs.specs.Calls.{IsEntryName}
use Rattle.pn_real.proofs.names.all_good.Goals as goal

pub loop-name-preserved : goal.loop-name-preserved
loop-name-preserved c =
    All-more (IsEntryName c.args.folder.now) c.args.names.now c.loop-name.name-index c.name-item.result c.loop-name-test.true c.loop-name.invariant
    (subst (IsEntryName c.args.folder.now) (c.as_str.ensures ∙ c.name-item.is) (c.is_good.ensures c.if-not-is_good.false))

pub returns : goal.returns
returns c = λ _. subst (All (IsEntryName c.args.folder.now)) (take_all c.loop-name.name-index c.args.names.now c.loop-name-test.false) c.loop-name.invariant
