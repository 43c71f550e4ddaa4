use Rattle.std.proofs.Common.{◌∙◌, ap}
use Rattle.pn_text.specs.Ids.{is_id}
use Rattle.pn_deppath.specs.Paths.{id_part}
use Rattle.pn_lock.specs.Kept.{IsSnapshot}
use Rattle.pn_lock_layout.proofs.HomeLemmas.{id_of_path}
use Rattle.pn_lock_layout.proofs.LockLemmas.{in_all}
use Rattle.pn_lock_layout.proofs.instances.instance.Goals as goal

pub name_of-requires : goal.name_of-requires
name_of-requires c =
    let s = c.args.snapshot.now in
    ap is_id (c.split_path.ensures.id ∙ ap id_part c.as_str.ensures) ∙ id_of_path s.path (in_all (IsSnapshot c.args.lock.now) c.args.lock.now.snapshots s c.packages.ensures.kept.snapshots c.requires.snapshot).path
