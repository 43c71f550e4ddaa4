use Rattle.std.proofs.Common.{◌≡◌, ◌∙◌, ℕ, List, true, ap, subst, sym}
use Rattle.std.specs.List.{IsDistinct, list_all}
use Rattle.std.specs.Str.{bytes_eq}
use Rattle.pn_deppath.specs.Folders.{is_ascii}
use Rattle.pn_lock.specs.Locks.{paths_of}
use Rattle.pn_lock_layout.proofs.LockLemmas.{all_ascii, rising_distinct}
use Rattle.pn_lock_layout.proofs.homes.dir_names.Goals as goal

pub folder_names-requires-clause-ascii : goal.folder_names-requires-clause-ascii
folder_names-requires-clause-ascii c =
    subst (λ (ps : List (List ℕ)). list_all (list_all is_ascii) ps ≡ true) (sym (c.deref.ensures.value ∙ c.in_ok-paths.ensures ∙ ap paths_of c.snapshots.ensures.list)) (all_ascii c.args.lock.now c.args.lock.now.snapshots c.snapshots.ensures.kept.snapshots)

pub folder_names-requires-clause-distinct : goal.folder_names-requires-clause-distinct
folder_names-requires-clause-distinct c =
    subst (λ (ps : List (List ℕ)). IsDistinct bytes_eq ps) (sym (c.deref.ensures.value ∙ c.in_ok-paths.ensures ∙ ap paths_of c.snapshots.ensures.list)) (rising_distinct (paths_of c.args.lock.now.snapshots) c.snapshots.ensures.kept.snapshots_rise)
