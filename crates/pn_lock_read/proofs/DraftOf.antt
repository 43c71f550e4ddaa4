-- A lock before its targets are looked up.
use Rattle.std.specs.Prelude.{ℕ, List, [], ◌∷◌, map, Some}
use Rattle.pn_lock.specs.declared.goal.LockGoal.{LockGoal}
use Rattle.pn_lock.specs.declared.goal.LockGoal.TheVariants as goal
use Rattle.pn_lock.specs.declared.lists.LockDependency.{LockDependency}
use Rattle.pn_lock.specs.declared.lists.LockImporter.{LockImporter}
use Rattle.pn_lock.specs.declared.lists.LockLink.{LockLink}
use Rattle.pn_lock.specs.declared.lists.LockSnapshot.{LockSnapshot}
use Rattle.pn_lock.specs.Locks.{Locked, folders_of, paths_of, key_at}
use Rattle.pn_lock_print.specs.TargetTexts.{link_text}
use Rattle.pn_lock_shape.specs.declared.drafts.Aim.{Aim}
use Rattle.pn_lock_shape.specs.declared.drafts.Aim.TheVariants as aim
use Rattle.pn_lock_shape.specs.declared.drafts.Draft.{Draft}
use Rattle.pn_lock_shape.specs.declared.drafts.DraftDependency.{DraftDependency}
use Rattle.pn_lock_shape.specs.declared.drafts.DraftImporter.{DraftImporter}
use Rattle.pn_lock_shape.specs.declared.drafts.DraftLink.{DraftLink}
use Rattle.pn_lock_shape.specs.declared.drafts.DraftSnapshot.{DraftSnapshot}

-- where a target leads, with the text that is printed of a link from a folder
abbrev pub aim_of : Locked → List ℕ → LockGoal → Aim
aim_of l base (goal.Importer n) = aim.Folder (Some (key_at (folders_of l.importers) n)) (link_text base (key_at (folders_of l.importers) n))
aim_of l base (goal.Snapshot n) = aim.Path (key_at (paths_of l.snapshots) n)

abbrev pub draft_dependency : Locked → List ℕ → LockDependency → DraftDependency
draft_dependency l base d = record { alias = d.alias; specifier = d.specifier; aim = aim_of l base d.to }

abbrev pub draft_importer : Locked → LockImporter → DraftImporter
draft_importer l i = record {
  folder = i.folder;
  dependencies = map (draft_dependency l i.folder) i.dependencies;
  dev = map (draft_dependency l i.folder) i.dev;
  optional = map (draft_dependency l i.folder) i.optional;
}

abbrev pub draft_link : Locked → LockLink → DraftLink
draft_link l k = record { alias = k.alias; aim = aim_of l (46 ∷ []) k.to }

abbrev pub draft_snapshot : Locked → LockSnapshot → DraftSnapshot
draft_snapshot l s = record {
  path = s.path;
  dependencies = map (draft_link l) s.dependencies;
  optional = map (draft_link l) s.optional;
  transitive = s.transitive;
}

-- a lock with targets by their folders and dep paths
abbrev pub draft_of : Locked → Draft
draft_of l = record {
  auto = l.auto;
  catalogs = l.catalogs;
  overrides = l.overrides;
  importers = map (draft_importer l) l.importers;
  packages = l.packages;
  snapshots = map (draft_snapshot l) l.snapshots;
}
