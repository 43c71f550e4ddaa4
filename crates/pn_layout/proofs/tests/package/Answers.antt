use Rattle.std.proofs.Common.{List, [], ◌∷◌, ◌++◌, ◌∙◌, ap}
use Rattle.pn_text.specs.Ids.{id_name}
use Rattle.pn_text.specs.Path.{Path}
use Rattle.pn_digest.specs.Listing.{Entry}
use Rattle.pn_package.specs.declared.packages.Package.{Package}
use Rattle.pn_layout.proofs.RowLemmas.{file_sound, file_listed}
use Rattle.pn_layout.proofs.tests.package.Goals as goal

pub returns-clause-sound : goal.returns-clause-sound
returns-clause-sound c =
    let p : Package = record { id = c.in_ok-id.id; links = c.args.links; folder = c.in_ok-folder.folder; files = c.push.new.self } in
    file_sound p c.in_ok-path.path c.in_ok-id.ensures.good c.requires.links (λ l m e. c.requires.others l m (e ∙ ap id_name c.in_ok-id.ensures.text)) c.in_ok-folder.ensures
    (c.in_ok-push.ensures.items ∙ ap (λ (l : List Path). l ++ c.in_ok-copy.field-0 ∷ []) c.new-files.ensures.items ∙ ap (λ (q : Path). q ∷ []) c.in_ok-copy.ensures) c.in_ok-path.ensures.ok

pub returns-clause-listing : goal.returns-clause-listing
returns-clause-listing c =
    let p : Package = record { id = c.in_ok-id.id; links = c.args.links; folder = c.in_ok-folder.folder; files = c.push.new.self } in
    file_listed p c.in_ok-path.path c.of_bytes.result c.push-2.new.self.items c.in_ok-listing.listing (c.in_ok-push-2.ensures.items ∙ ap (λ (l : List Entry). l ++ (c.in_ok-path.path, c.of_bytes.result) ∷ []) c.new-listed.ensures.items)
    (c.in_ok-push.ensures.items ∙ ap (λ (l : List Path). l ++ c.in_ok-copy.field-0 ∷ []) c.new-files.ensures.items ∙ ap (λ (q : Path). q ∷ []) c.in_ok-copy.ensures) c.in_ok-listing.ensures.ok c.in_ok-listing.ensures.listing
