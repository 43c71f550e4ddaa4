use Rattle.std.proofs.Common.{sym, ap, ◌∙◌, drop}
use Rattle.pn_deppath.specs.Paths.{begins, patch_mark}
use Rattle.pn_deppath.proofs.PathLemmas.{holds_here, holds_later}
use Rattle.pn_deppath.proofs.path.holds_patch.Goals as goal

pub returns-then-is_patch : goal.returns-then-is_patch
returns-then-is_patch c = sym (holds_here patch_mark (drop c.loop-i.i c.args.text.now) (ap (begins patch_mark) (sym c.split_at.ensures.back) ∙ sym c.is_patch.ensures ∙ c.if-is_patch.true)) ∙ c.loop-i.invariant

pub loop-i-preserved : goal.loop-i-preserved
loop-i-preserved c =
    sym (holds_later patch_mark c.args.text.now c.loop-i.i c.loop-i-test.true (ap (begins patch_mark) (sym c.split_at.ensures.back) ∙ sym c.is_patch.ensures ∙ c.if-is_patch.false)) ∙ c.loop-i.invariant
