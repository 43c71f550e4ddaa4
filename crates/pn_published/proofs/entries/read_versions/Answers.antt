use Rattle.std.proofs.Common.{◌≡◌, ◌∙◌, subst, sym, ap, map}
use Rattle.std.specs.List.{Contains}
use Rattle.std.proofs.lemmas.List.Elements.{All-contains, All-contains_itself, All-weaker}
use Rattle.semver.specs.Identifiers.{parts_of}
use Rattle.pn_text.proofs.Results.{for_some, if_some}
use Rattle.pn_fs.specs.Tree.{Tree}
use Rattle.pn_fs.specs.Calls.{IsListing}
use Rattle.pn_published.specs.Shelves.{AreVersions, HasFew}
use Rattle.pn_published.specs.Folders.{versions_at}
use Rattle.pn_published.specs.Versions.{IsParsed}
use Rattle.pn_published.proofs.Gathered.{are_versions, has_few}
use Rattle.pn_published.proofs.entries.read_versions.Goals as goal

pub returns-clause-versions : goal.returns-clause-versions
returns-clause-versions g c = if_some (λ (t : Tree). AreVersions t c.args.folder.now c.of.result) (g.R.ReadFs.seen c.args.registry.now).tree (λ t told.
    let listed = for_some (λ (t : Tree). IsListing t c.args.folder.now c.in_ok-names.names.items) (g.R.ReadFs.seen c.args.registry.now).tree c.in_ok-names.ensures.names t told in
    let found = for_some (λ (t : Tree). map parts_of c.in_ok-found.found.items ≡ versions_at t c.args.folder.now c.as_slice.result.now) (g.R.ReadFs.seen c.names_of.new.registry).tree c.in_ok-found.ensures.versions t (c.names_of.ensures.kept.tree ∙ told) in
    subst (AreVersions t c.args.folder.now) (sym c.of.ensures)
    (are_versions t c.args.folder.now c.in_ok-names.names.items (map parts_of c.in_ok-found.found.items) (map parts_of c.in_ok-items.items.items) listed
    (found ∙ ap (versions_at t c.args.folder.now) c.as_slice.ensures.value) c.in_ok-items.ensures.rising c.in_ok-items.ensures.same))

pub returns-clause-few : goal.returns-clause-few
returns-clause-few g c = if_some (λ (t : Tree). HasFew t c.args.folder.now) (g.R.ReadFs.seen c.args.registry.now).tree (λ t told.
    let listed = for_some (λ (t : Tree). IsListing t c.args.folder.now c.in_ok-names.names.items) (g.R.ReadFs.seen c.args.registry.now).tree c.in_ok-names.ensures.names t told in
    has_few t c.args.folder.now c.in_ok-names.names.items listed c.in_ok-names.ensures.few)

pub of-requires-clause-parsed : goal.of-requires-clause-parsed
of-requires-clause-parsed g c =
    let xs = map parts_of c.in_ok-found.found.items in
    let ys = map parts_of c.in_ok-items.items.items in
    All-weaker (Contains ys) IsParsed (λ v h. All-contains IsParsed xs v c.in_ok-found.ensures.parsed (c.in_ok-items.ensures.same.from v h)) ys (All-contains_itself ys)
