use Rattle.std.proofs.Common.{◌∙◌, ap, sym}
use Rattle.std.specs.Prelude.{slice_get}
use Rattle.std.specs.Option.{option_copied}
use Rattle.pn_lock.specs.declared.lists.LockImporter.{LockImporter}
use Rattle.pn_lock_print.proofs.KeyLemmas.{key_found, key_lost}
use Rattle.pn_lock_print.proofs.target.folder_at.Goals as goal

pub returns-in-Some : goal.returns-in-Some
returns-in-Some c =
    c.as_str.ensures
    ∙ sym (key_found (λ (i : LockImporter). i.folder) c.args.lock.now.importers c.args.n c.in-Some.importer.now (ap (λ xs. slice_get xs c.args.n) (sym c.importers.ensures.list) ∙ sym c.at.ensures ∙ ap option_copied c.in-Some.is))

pub returns-in-None : goal.returns-in-None
returns-in-None c =
    sym (key_lost (λ (i : LockImporter). i.folder) c.args.lock.now.importers c.args.n (ap (λ xs. slice_get xs c.args.n) (sym c.importers.ensures.list) ∙ sym c.at.ensures ∙ ap option_copied c.in-None.is))
