use Rattle.std.proofs.Common.{◌≡◌, ◌<◌, ℕ, List, length, true, subst, arith}
use Rattle.pn_text.specs.declared.limits.TheConstants.{PATH_LIMIT}
use Rattle.pn_text.specs.Ids.{is_id}
use Rattle.pn_text.specs.Path.{path_text}
use Rattle.pn_registry.specs.Places.{package_folder, IsPathOrLong}
use Rattle.pn_collect.proofs.Folders.{folder_fits}
use Rattle.pn_collect.proofs.folder.package_folder.Goals as goal

pub unreachable-requires : goal.unreachable-requires
unreachable-requires c =
    let id = c.args.id.now in
    let long : PATH_LIMIT < length (path_text (package_folder id)) = subst (IsPathOrLong (package_folder id)) c.in-Ok-None.field-0-is c.in-Ok-None.ensures in
    let good : is_id id ≡ true = subst (λ (t : List ℕ). is_id t ≡ true) c.as_str.ensures.text c.as_str.ensures.id in
    omega (arith, long, folder_fits id good c.requires)
