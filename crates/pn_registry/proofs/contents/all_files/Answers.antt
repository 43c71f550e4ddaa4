use Rattle.std.proofs.Common.{map}
use Rattle.pn_registry.specs.Files.{IsFilesOf}
use Rattle.pn_registry.specs.Listed.{file_of}
use Rattle.pn_text.proofs.Results.{for_some, if_some}
use Rattle.pn_registry.proofs.Orders.{kept_files}
use Rattle.pn_registry.proofs.Keeping.{kept_apart}
use Rattle.pn_registry.proofs.ShortFiles.{short_kept, lines_kept}
use Rattle.pn_registry.proofs.contents.all_files.Goals as goal

pub returns-in-Ok-in_order_apart-clause-files : goal.returns-in-Ok-in_order_apart-clause-files
returns-in-Ok-in_order_apart-clause-files g c =
    let tree = (g.R.ReadFs.seen c.args.registry.now).tree in
    let listed = c.in-Ok-in_order_apart.ensures in
    let at = c.args.at.now in
    if_some (λ t. IsFilesOf t at c.in-Ok-in_order_apart.files) tree (λ t told.
    let is_tree = g.met.R.ReadFs.well_formed c.args.registry.now t told in
    kept_apart t is_tree at listed.0 c.in-Ok-in_order_apart.files
    (kept_files t is_tree at (map file_of c.in-Ok.found.items) listed.0 (for_some (λ t. IsFilesOf t at (map file_of c.in-Ok.found.items)) tree c.in-Ok.ensures.files t told) listed.1)
    listed.2)

pub returns-in-Ok-in_order_apart-clause-short : goal.returns-in-Ok-in_order_apart-clause-short
returns-in-Ok-in_order_apart-clause-short g c =
    let listed = c.in-Ok-in_order_apart.ensures in
    short_kept c.args.at.now c.in-Ok.found.items listed.0 c.in-Ok-in_order_apart.files listed.1 listed.2 c.in-Ok.ensures.fit

pub returns-in-Ok-in_order_apart-clause-lines : goal.returns-in-Ok-in_order_apart-clause-lines
returns-in-Ok-in_order_apart-clause-lines g c =
    let listed = c.in-Ok-in_order_apart.ensures in
    lines_kept c.args.at.now c.in-Ok.found.items listed.0 c.in-Ok-in_order_apart.files listed.1 listed.2 c.in-Ok.ensures.fit
