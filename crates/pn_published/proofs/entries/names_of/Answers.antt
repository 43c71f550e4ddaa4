use Rattle.std.proofs.Common.{◌≡◌, ◌∙◌, subst, sym}
use Rattle.pn_text.proofs.Results.{for_some, if_some}
use Rattle.pn_fs.specs.Tree.{Tree}
use Rattle.pn_fs.specs.Calls.{IsListing}
use Rattle.pn_published.specs.Folders.{is_folder}
use Rattle.pn_published.proofs.Gathered.{empty_listing}
use Rattle.pn_published.proofs.ListsOnceLemmas.{once_listed}
use Rattle.pn_published.proofs.entries.names_of.Goals as goal

pub returns-then-not-branch-clause-names : goal.returns-then-not-branch-clause-names
returns-then-not-branch-clause-names g c = if_some (λ (t : Tree). IsListing t c.args.folder.now c.new.result.items) (g.R.ReadFs.seen c.args.registry.now).tree (λ t told.
    let told_is = for_some (λ (t : Tree). c.in_ok-is_folder.field-0 ≡ is_folder (t c.args.folder.now)) (g.R.ReadFs.seen c.args.registry.now).tree c.in_ok-is_folder.ensures.folder t told in
    subst (IsListing t c.args.folder.now) (sym c.new.ensures.items)
    (empty_listing t c.args.folder.now (g.met.R.ReadFs.well_formed c.args.registry.now t told) (sym told_is ∙ c.if-not-branch.true)))

pub returns-in-Ok-clause-gave : goal.returns-in-Ok-clause-gave
returns-in-Ok-clause-gave g c =
    once_listed c.args.folder.now c.in-Ok.names.items (g.R.ReadFs.seen c.args.registry.now) (g.R.ReadFs.seen c.is_folder.new.registry) (g.R.ReadFs.seen c.list.new.self) c.is_folder.ensures.kept.tree c.is_folder.ensures.gave c.in-Ok.ensures.names c.in-Ok.ensures.gave

pub returns-in-Ok-2-clause-gave : goal.returns-in-Ok-2-clause-gave
returns-in-Ok-2-clause-gave g c =
    once_listed c.args.folder.now c.in-Ok-2.field-0.items (g.R.ReadFs.seen c.args.registry.now) (g.R.ReadFs.seen c.is_folder.new.registry) (g.R.ReadFs.seen c.list.new.self) c.is_folder.ensures.kept.tree c.is_folder.ensures.gave c.in-Ok-2.ensures.names c.in-Ok-2.ensures.gave
