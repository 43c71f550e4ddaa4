use Rattle.std.proofs.Common.{sym, ap, ◌∙◌}
use Rattle.pn_deppath.specs.Paths.{holds, patch_mark}
use Rattle.pn_deppath.proofs.PathLemmas.{all_three, no_groups}
use Rattle.pn_deppath.proofs.path.is_dep_path.Goals as goal

pub returns-then-not-are_groups : goal.returns-then-not-are_groups
returns-then-not-are_groups c =
    no_groups c.args.path.now c.as_bytes.result.now (c.as_bytes.ensures.value ∙ c.split_path.ensures.groups) (sym c.are_groups.ensures ∙ c.if-not-are_groups.true)

pub returns : goal.returns
returns c =
    all_three c.args.path.now c.split_path.result.0.now c.as_bytes.result.now c.holds_patch.result c.split_path.ensures.id (c.as_bytes.ensures.value ∙ c.split_path.ensures.groups)
    (sym c.in_ok-known.ensures ∙ c.if-not-known.false) (sym c.are_groups.ensures ∙ c.if-not-are_groups.false) (c.holds_patch.ensures ∙ ap (holds patch_mark) c.as_bytes-2.ensures.value)
