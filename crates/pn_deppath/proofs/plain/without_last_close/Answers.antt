use Rattle.std.proofs.Common.{◌-◌, length, sym, ◌∙◌}
use Rattle.pn_deppath.proofs.SpelledLemmas.{close_at, keep_at, not_empty}
use Rattle.pn_deppath.proofs.plain.without_last_close.Goals as goal

pub returns-then-path-last-eq41 : goal.returns-then-path-last-eq41
returns-then-path-last-eq41 c =
    c.split_at.ensures.front
    ∙ close_at c.args.path.now (length c.args.path.now - 1) (not_empty c.args.path.now (sym c.if-is_empty.false ∙ c.is_empty.ensures)) c.if-path-last-eq41.true

pub returns : goal.returns
returns c = keep_at c.args.path.now (length c.args.path.now - 1) (not_empty c.args.path.now (sym c.if-is_empty.false ∙ c.is_empty.ensures)) c.if-path-last-eq41.false
