use Rattle.std.proofs.Common.{sym, subst}
use Rattle.pn_registry.specs.Below.{AllWithin}
use Rattle.pn_registry.proofs.Within.{within_child, child_differs, within_push, on_ok}
use Rattle.pn_registry.proofs.walk.take.Goals as goal

pub push_file-requires-clause-within : goal.push_file-requires-clause-within
push_file-requires-clause-within g c = within_child c.args.at.now c.args.parent.now c.in_ok-path.path c.args.name.now c.requires.within c.in_ok-path.ensures.path

pub push_file-requires-clause-below : goal.push_file-requires-clause-below
push_file-requires-clause-below g c = child_differs c.args.at.now c.args.parent.now c.in_ok-path.path c.args.name.now c.requires.within c.in_ok-path.ensures.path

pub returns-in-Ok-Folder-clause-all_within : goal.returns-in-Ok-Folder-clause-all_within
returns-in-Ok-Folder-clause-all_within g c =
    on_ok c.push_folder.result _ _ c.push_folder.ensures.items
    (λ e. subst (AllWithin c.args.at.now) (sym e) (within_push c.args.at.now c.args.todo.now.items c.in_ok-path.path c.requires.all_within (within_child c.args.at.now c.args.parent.now c.in_ok-path.path c.args.name.now c.requires.within c.in_ok-path.ensures.path)))
