use Rattle.std.proofs.Common.{sym, ap, subst, length, arith}
use Rattle.pn_text.specs.Path.{SpellsAbs}
use Rattle.pn_draft.proofs.BadPartLemmas.{not_unslashed, not_bad}
use Rattle.pn_lock_layout.specs.Folders.{home_in}
use Rattle.pn_lock_layout.proofs.HomeLemmas.{near_by}
use Rattle.pn_lock_layout.proofs.homes.home.Goals as goal

pub returns-in-Ok : goal.returns-in-Ok
returns-in-Ok c = near_by c.args.root.now c.args.store.now c.args.dir.now c.args.path.now c.as_str.result.now c.in-Ok.path (subst (λ t. SpellsAbs t (home_in c.args.store.now c.args.dir.now c.args.path.now)) (sym c.as_str.ensures.value) c.in_ok-text.ensures)
    (λ h. omega (arith, h, c.if-len-gt-PATH_LIMIT.false, c.len.ensures, ap length c.as_str.ensures.value)) c.in-Ok.ensures.ok

pub unreachable-requires-in-Err-NotAbsolute : goal.unreachable-requires-in-Err-NotAbsolute
unreachable-requires-in-Err-NotAbsolute c = not_unslashed _ (home_in c.args.store.now c.args.dir.now c.args.path.now) _ (subst (λ t. SpellsAbs t (home_in c.args.store.now c.args.dir.now c.args.path.now)) (sym c.as_str.ensures.value) c.in_ok-text.ensures) c.in-Err-NotAbsolute.ensures.fault c.in-Err-NotAbsolute.field-0-is

pub unreachable-requires-in-Err-BadPart : goal.unreachable-requires-in-Err-BadPart
unreachable-requires-in-Err-BadPart c = not_bad _ (home_in c.args.store.now c.args.dir.now c.args.path.now) _ _ (subst (λ t. SpellsAbs t (home_in c.args.store.now c.args.dir.now c.args.path.now)) (sym c.as_str.ensures.value) c.in_ok-text.ensures) c.in-Err-BadPart.ensures.fault c.in-Err-BadPart.field-0-is
