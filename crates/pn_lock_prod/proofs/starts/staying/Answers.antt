use Rattle.std.proofs.Common.{◌∙◌, ◌<◌, ◌++◌, ℕ, List, Bool, length, ap, subst, sym}
use Rattle.pn_text.proofs.Results.{if_ok}
use Rattle.pn_lock.specs.declared.lists.LockSnapshot.{LockSnapshot}
use Rattle.pn_lock_prod.specs.Targets.{dev_targets, kept_targets, places_without}
use Rattle.pn_lock_prod.proofs.MarkLemmas.{dev_marked, starts_within, stay_marked, walks_marked}
use Rattle.pn_lock_prod.proofs.RangeLemmas.{dev_starts, kept_within, these_there}
use Rattle.pn_lock_prod.proofs.starts.staying.Goals as goal

pub walked-requires-clause-within : goal.walked-requires-clause-within
walked-requires-clause-within c =
    dev_starts c.args.lock.now c.snapshots-snapshots.result.now c.deref.result.now c.snapshots-snapshots.ensures.kept c.snapshots-snapshots.ensures.list
    (c.deref.ensures.value ∙ c.in_ok-dev_targets.ensures ∙ ap dev_targets c.importers.ensures.list)

pub walked-requires-clause-there : goal.walked-requires-clause-there
walked-requires-clause-there c = these_there c.args.lock.now c.snapshots-snapshots.result.now c.snapshots-snapshots.ensures.kept c.snapshots-snapshots.ensures.list

pub walked-requires-2-clause-within : goal.walked-requires-2-clause-within
walked-requires-2-clause-within c = λ k h.
    subst (λ (s : List LockSnapshot). k < length s) (sym c.snapshots-snapshots.ensures.list)
    (starts_within c.args.lock.now c.in_ok-dev.dev.items c.deref-3.result.now (dev_marked c.args.lock.now c.snapshots-snapshots.result.now c.deref.result.now c.in_ok-dev.dev.items c.snapshots-snapshots.ensures.list (c.deref.ensures.value ∙ c.in_ok-dev_targets.ensures ∙ ap dev_targets c.importers.ensures.list) c.in_ok-dev.ensures)
    (c.deref-3.ensures.value ∙ c.in_ok-push_without.ensures ∙ ap (λ (x : List ℕ). x ++ places_without 0 c.deref-2.result.now) (c.in_ok-starts.ensures ∙ ap kept_targets c.importers-2.ensures.list) ∙ ap (λ (d : List Bool). kept_targets c.args.lock.now.importers ++ places_without 0 d) c.deref-2.ensures.value)
    (kept_within c.args.lock.now c.args.lock.now.importers c.snapshots-snapshots.ensures.kept.importers) k h)

pub walked-requires-2-clause-there : goal.walked-requires-2-clause-there
walked-requires-2-clause-there c = these_there c.args.lock.now c.snapshots-snapshots.result.now c.snapshots-snapshots.ensures.kept c.snapshots-snapshots.ensures.list

pub returns : goal.returns
returns c = if_ok c.walked-2.result (λ v m. stay_marked c.args.lock.now c.in_ok-dev.dev.items v.items c.deref-3.result.now (dev_marked c.args.lock.now c.snapshots-snapshots.result.now c.deref.result.now c.in_ok-dev.dev.items c.snapshots-snapshots.ensures.list (c.deref.ensures.value ∙ c.in_ok-dev_targets.ensures ∙ ap dev_targets c.importers.ensures.list) c.in_ok-dev.ensures)
    (c.deref-3.ensures.value ∙ c.in_ok-push_without.ensures ∙ ap (λ (x : List ℕ). x ++ places_without 0 c.deref-2.result.now) (c.in_ok-starts.ensures ∙ ap kept_targets c.importers-2.ensures.list) ∙ ap (λ (d : List Bool). kept_targets c.args.lock.now.importers ++ places_without 0 d) c.deref-2.ensures.value)
    (walks_marked c.args.lock.now c.snapshots-snapshots.result.now c.deref-3.result.now v.items c.snapshots-snapshots.ensures.list m)) c.walked-2.ensures
