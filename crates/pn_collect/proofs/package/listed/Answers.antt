use Rattle.std.proofs.Common.{sym, subst}
use Rattle.std.specs.List.{All}
use Rattle.pn_text.specs.Path.{Path}
use Rattle.pn_registry.specs.Files.{IsShortBelow}
use Rattle.pn_collect.proofs.Listing.{sound_files, below_if}
use Rattle.pn_collect.proofs.package.listed.Goals as goal

pub returns-in-Ok-paths-clause-sound : goal.returns-in-Ok-paths-clause-sound
returns-in-Ok-paths-clause-sound g c =
    sound_files c.args.folder.now c.in-Ok.files c.in-Ok-paths.paths.items c.in-Ok-paths.ensures.same c.in-Ok-paths.ensures.below c.in-Ok.ensures.clean c.in-Ok.ensures.apart
    (subst (λ (p : Path). All (IsShortBelow p) c.in-Ok.files) (sym c.requires.here) c.in-Ok.ensures.short) c.in-Ok.ensures.lines c.in-Ok-paths.ensures.rising

pub returns-in-Ok-paths-clause-files : goal.returns-in-Ok-paths-clause-files
returns-in-Ok-paths-clause-files g c =
    below_if c.args.id.now c.args.folder.now c.in-Ok.files c.in-Ok-paths.paths.items (g.R.ReadFs.seen c.args.registry.now).tree c.requires.here c.in-Ok.ensures.clean c.in-Ok.ensures.files c.in-Ok.ensures.few c.in-Ok-paths.ensures.same
