use Rattle.std.proofs.Common.{[], ◌∷◌, refl, sym, subst, arith}
use Rattle.std.specs.Prelude.{codes}
use Rattle.pn_text.proofs.Results.{on_ok}
use Rattle.pn_tree.specs.Drawn.{Draws}
use Rattle.pn_tree.proofs.DrawLemmas.{spells_part}
use Rattle.pn_layout.proofs.OuterLemmas.{some_store}
use Rattle.pn_layout.proofs.outer.add_store.Goals as goal

pub add-requires-clause-tail : goal.add-requires-clause-tail
add-requires-clause-tail c = (codes ".pnpm" ∷ [], spells_part (codes ".pnpm") refl)

pub returns-in-len1-up : goal.returns-in-len1-up
returns-in-len1-up c = on_ok c.add.result (λ h. subst (Draws c.args.draft.now c.add.new.draft) (sym (some_store c.args.modules.now c.args.packages.now (omega (arith, c.in-len1-up.len_at_least)))) (h (codes ".pnpm" ∷ []) (spells_part (codes ".pnpm") refl))) c.add.ensures
