use Rattle.std.proofs.Common.{◌≡◌, ◌∙◌, ap, sym}
use Rattle.std.specs.Prelude.{Some, None, slice_get}
use Rattle.std.specs.Option.{option_copied}
use Rattle.pn_text.proofs.Results.{if_ok}
use Rattle.pn_lock.specs.declared.lists.LockSnapshot.{LockSnapshot}
use Rattle.pn_lock_print.specs.LockData.{goal_text}
use Rattle.pn_lock_print.specs.TargetTexts.{path_text}
use Rattle.pn_lock_print.proofs.KeyLemmas.{key_found, key_lost}
use Rattle.pn_lock_print.proofs.TargetLemmas.{path_none}
use Rattle.pn_lock_print.proofs.target.goal_text.Goals as goal

pub returns-in-Some : goal.returns-in-Some
returns-in-Some c =
    let l = c.args.lock.now in
    let found : slice_get l.snapshots c.in-Snapshot.n ≡ Some c.in-Some.snapshot.now = ap (λ xs. slice_get xs c.in-Snapshot.n) (sym c.snapshots.ensures.list) ∙ sym c.at.ensures ∙ ap option_copied c.in-Some.is in
    let path = c.as_str.ensures ∙ sym (key_found (λ (s : LockSnapshot). s.path) l.snapshots c.in-Snapshot.n c.in-Some.snapshot.now found) in
    if_ok c.of.result (λ t e. e ∙ c.path_text.ensures ∙ ap (path_text c.args.alias.now) path ∙ ap (goal_text l c.args.base.now c.args.alias.now) (sym c.in-Snapshot.is)) c.of.ensures

pub returns-in-None : goal.returns-in-None
returns-in-None c =
    let l = c.args.lock.now in
    let lost : slice_get l.snapshots c.in-Snapshot.n ≡ None = ap (λ xs. slice_get xs c.in-Snapshot.n) (sym c.snapshots.ensures.list) ∙ sym c.at.ensures ∙ ap option_copied c.in-None.is in
    let path = key_lost (λ (s : LockSnapshot). s.path) l.snapshots c.in-Snapshot.n lost in
    if_ok c.of-in-None.result (λ t e. e ∙ sym (path_none c.args.alias.now _ path) ∙ ap (goal_text l c.args.base.now c.args.alias.now) (sym c.in-Snapshot.is)) c.of-in-None.ensures
