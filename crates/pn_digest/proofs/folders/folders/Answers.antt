use Rattle.std.proofs.Common.{ℕ, ◌<◌, List, length, arith, subst}
use Rattle.std.specs.Prelude.{◌⊎◌, ◌↔◌, IsTrue}
use Rattle.std.specs.BTreeSet.{contains_text}
use Rattle.pn_digest.specs.Folders.{IsFolderText}
use Rattle.pn_digest.proofs.HasFoldersLemmas.{has_more}
use Rattle.pn_digest.proofs.folders.folders.Goals as goal

pub loop-file-preserved : goal.loop-file-preserved
loop-file-preserved c =
    let old = contains_text c.loop-file.folders in
    let new = contains_text c.add_folders.new.folders in
    let within : c.loop-file.file-index < length c.args.files.now = omega (arith, c.loop-file-test.true) in
    has_more c.args.files.now c.loop-file.file-index c.file-item.result old new within c.file-item.is c.text_of.ensures.path c.loop-file.invariant
    (subst (λ p. (t : List ℕ) → IsTrue (new t) ↔ (IsTrue (old t) ⊎ IsFolderText p t)) c.text_of.ensures.text c.in_ok-add_folders.ensures)
