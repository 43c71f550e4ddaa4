use Rattle.std.proofs.Common.{◌≡◌, ◌∙◌, ◌++◌, ◌+◌, List, [], ◌∷◌, true, ap, drop, subst, sym}
use Rattle.std.specs.Prelude.{option_map}
use Rattle.std.specs.List.{All}
use Rattle.pn_text.specs.Name.{is_name}
use Rattle.pn_lock.specs.declared.lists.LockCatalog.{LockCatalog}
use Rattle.pn_lock_make.specs.Entries.{entries_of, entry_of}
use Rattle.pn_lock_make.proofs.StepLemmas.{all_more, skip, step}
use Rattle.pn_lock_make.proofs.catalogs.entries_of.Goals as goal
use Rattle.pn_lock_make.proofs.catalogs.entries_of.Goals.{in-Some+in_ok-one-in-Some+in_ok-push-in-Some, in-None}

pub loop-entry-preserved : goal.loop-entry-preserved
loop-entry-preserved c =
    let P : LockCatalog → Type 0 = λ (e : LockCatalog). is_name e.name ≡ true in
    let uses = c.args.uses.now in
    let entries = c.args.entries.now in
    let x = c.entry-item.result in
    let f = entries_of uses in
    let rest = f (drop (c.loop-entry.entry-index + 1) entries) in
    elim c.match-used_at.branch [
      | in-Some+in_ok-one-in-Some+in_ok-push-in-Some w ↦ record {
        made = step f entries c.loop-entry.entry-index x (w.in_ok-one-in-Some.one ∷ []) c.loop-entry.found c.match-used_at.found (f entries) c.loop-entry-test.true c.entry-item.is
            (ap (λ o. entry_of x o ++ rest) (sym c.used_at.ensures ∙ ap (option_map (λ v. v.now)) w.in-Some.is) ∙ ap (λ (d : LockCatalog). d ∷ rest) (sym w.in_ok-one-in-Some.ensures.made))
            (w.found-is ∙ w.in_ok-push-in-Some.ensures.ok) c.loop-entry.invariant.made;
        named = all_more P c.loop-entry.found c.match-used_at.found w.in_ok-one-in-Some.one (w.found-is ∙ w.in_ok-push-in-Some.ensures.ok) c.loop-entry.invariant.named w.in_ok-one-in-Some.ensures.named;
      }
      | in-None w ↦ record {
        made = skip f entries c.loop-entry.entry-index x c.loop-entry.found c.match-used_at.found (f entries) c.loop-entry-test.true c.entry-item.is
            (ap (λ o. entry_of x o ++ rest) (sym c.used_at.ensures ∙ ap (option_map (λ v. v.now)) w.in-None.is)) w.found-is c.loop-entry.invariant.made;
        named = subst (λ (l : List LockCatalog). All P l) (sym w.found-is) c.loop-entry.invariant.named;
      }
    ]
