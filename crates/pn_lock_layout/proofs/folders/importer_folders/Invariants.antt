use Rattle.std.proofs.Common.{◌≡◌, map, take}
use Rattle.pn_lock.specs.Locks.{folders_of}
use Rattle.pn_lock_layout.specs.Places.{folder_of}
use Rattle.pn_lock_layout.proofs.folders.importer_folders.Given as goal

abbrev pub invariant-loop-importer : goal.invariant-loop-importer
invariant-loop-importer l = l.all.items ≡ map (folder_of l.root) (folders_of (take l.importer-index l.fn.lock.importers))
