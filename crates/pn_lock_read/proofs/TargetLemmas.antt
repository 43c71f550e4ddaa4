-- Targets read back.
use Rattle.std.proofs.Common.{◌≡◌, ℕ, suc, ◌<◌, true, false, cond, List, ◌∷◌, ◌++◌, length, drop, sym, ap, ◌∙◌, subst, inl, inr}
use Rattle.std.specs.Prelude.{Ok}
use Rattle.std.specs.Str.{bytes_eq}
use Rattle.std.proofs.lemmas.Bool.{cases_Bool}
use Rattle.std.proofs.lemmas.Slice.Eq.{bytes_eq-Decides}
use Rattle.pn_text.specs.Ids.{id_name}
use Rattle.pn_deppath.specs.Paths.{begins, id_part, is_dep_path}
use Rattle.pn_deppath.proofs.PathLemmas.{is_cut}
use Rattle.pn_lock_shape.specs.declared.drafts.Aim.TheVariants as aim
use Rattle.pn_lock_shape.specs.Shapes.{wrong}
use Rattle.pn_lock_print.specs.TargetTexts.{link_mark, path_text}
use Rattle.pn_lock_shape.specs.Targets.{whole_path, folder_at, aim_at, target_in}
use Rattle.std.proofs.lemmas.List.{length-map}
use Rattle.pn_lock.specs.declared.goal.LockGoal.{LockGoal}
use Rattle.pn_lock.specs.declared.goal.LockGoal.TheVariants as goal
use Rattle.pn_lock.specs.declared.lists.LockImporter.{LockImporter}
use Rattle.pn_lock.specs.declared.lists.LockSnapshot.{LockSnapshot}
use Rattle.pn_lock_read.proofs.DraftOf.{aim_of}
use Rattle.pn_lock.specs.Folders.{is_folder}
use Rattle.pn_lock.specs.Kept.{IsLock, IsImporter, IsSnapshot, InRange}
use Rattle.pn_lock.specs.Locks.{Locked, folders_of, paths_of, key_at}
use Rattle.pn_lock_print.specs.LockData.{goal_text}
use Rattle.pn_lock_read.proofs.WayLemmas.{link_back}
use Rattle.pn_lock.proofs.KeptLemmas.{all_from, all_map, key_all}
use Rattle.pn_lock_read.proofs.PathTextLemmas.{own_name, short_link, short_back, short_text, whole_link, whole_back}

-- the target of a text that is no link
path_aim : (base alias t path : List ℕ) → begins link_mark t ≡ false → whole_path alias t ≡ path → is_dep_path path ≡ true → target_in (aim_at base alias t) ≡ Ok (aim.Path path)
path_aim base alias t path n w h =
    ap (λ o. target_in (cond o (aim.Folder (folder_at base (drop 5 t)) t) (aim.Path (whole_path alias t)))) n
    ∙ ap (λ p. target_in (aim.Path p)) w ∙ ap (λ o. cond o (Ok (aim.Path path)) wrong) h

-- a dep path's text leads to it
pub path_back : (base alias path : List ℕ) → is_dep_path path ≡ true → target_in (aim_at base alias (path_text alias path)) ≡ Ok (aim.Path path)
path_back base alias path h =
    let c = is_cut path h in
    let own : id_name (id_part path) ≡ c.name = own_name path c in
    elim (cases_Bool (bytes_eq c.name alias)) [
      | inl e ↦
          let same : c.name ≡ alias = (bytes_eq-Decides c.name alias).0 e in
          ap (λ o. target_in (aim_at base alias (cond o (drop (suc (length alias)) path) path))) (ap (λ n. bytes_eq n alias) own ∙ e)
          ∙ ap (λ x. target_in (aim_at base alias x)) (short_text alias path c same)
          ∙ path_aim base alias (c.version ++ c.groups) path (short_link path c) (ap (λ a. whole_path a (c.version ++ c.groups)) (sym same) ∙ short_back path c) h
      | inr e ↦
          ap (λ o. target_in (aim_at base alias (cond o (drop (suc (length alias)) path) path))) (ap (λ n. bytes_eq n alias) own ∙ e)
          ∙ path_aim base alias path path (whole_link path c) (ap (λ o. cond o path (alias ++ 64 ∷ path)) (whole_back path h)) h
    ]

-- a target's text leads to it
pub target_back : (l : Locked) → IsLock l → (base alias : List ℕ) (to : LockGoal) → is_folder base ≡ true → InRange l to → target_in (aim_at base alias (goal_text l base alias to)) ≡ Ok (aim_of l base to)
target_back l k base alias (goal.Importer n) b r =
    link_back base alias (key_at (folders_of l.importers) n) b
    (key_all (λ f. is_folder f ≡ true) (folders_of l.importers) n (subst (λ m. n < m) (sym (length-map l.importers (λ (i : LockImporter). i.folder))) r)
    (all_map (λ f. is_folder f ≡ true) (λ (i : LockImporter). i.folder) l.importers (all_from {P = IsImporter l} {Q = λ i. is_folder i.folder ≡ true} l.importers (λ i h. h.folder) k.importers)))
target_back l k base alias (goal.Snapshot n) b r =
    path_back base alias (key_at (paths_of l.snapshots) n)
    (key_all (λ p. is_dep_path p ≡ true) (paths_of l.snapshots) n (subst (λ m. n < m) (sym (length-map l.snapshots (λ (s : LockSnapshot). s.path))) r)
    (all_map (λ p. is_dep_path p ≡ true) (λ (s : LockSnapshot). s.path) l.snapshots (all_from {P = IsSnapshot l} {Q = λ s. is_dep_path s.path ≡ true} l.snapshots (λ s h. h.path) k.snapshots)))
