use Rattle.std.proofs.Common.{sym, ◌∙◌, subst}
use Rattle.std.specs.Prelude.{IfSome}
use Rattle.std.specs.Bool.{MatchBool}
use Rattle.pn_fs.proofs.Puts.{is_link}
use Rattle.pn_digest.specs.declared.planned.Planned.{Planned}
use Rattle.pn_repair.specs.Stands.{StandsAs}
use Rattle.pn_repair.proofs.FitsLemmas.{no_text, no_stored, no_link, folder_right}
use Rattle.pn_repair.proofs.entry.stands.Goals as goal

pub has_link-requires : goal.has_link-requires
has_link-requires g c t told = is_link (t c.args.path.now) (c.requires.found t told ∙ c.in-Link-found.is)

pub returns-in-Folder-clause-right : goal.returns-in-Folder-clause-right
returns-in-Folder-clause-right g c =
    let tree = (g.P.ReadFs.seen c.args.fs.now).tree in
    subst (λ (w : Planned). IfSome tree (λ t. MatchBool c.is_folder.result (StandsAs w (t c.args.path.now)) (StandsAs w (t c.args.path.now) → ⊥))) (sym c.in-Folder.is)
    (folder_right tree c.args.path.now c.args.found c.is_folder.result c.requires.found c.is_folder.ensures)

pub returns-in_default-clause-right : goal.returns-in_default-clause-right
returns-in_default-clause-right g c =
    let tree = (g.P.ReadFs.seen c.args.fs.now).tree in
    subst (λ (w : Planned). IfSome tree (λ t. StandsAs w (t c.args.path.now) → ⊥)) (sym c.in-Bytes.is)
    (no_text tree c.args.path.now c.in-Bytes.text c.args.found c.requires.found c.in_default.not-File)

pub returns-in_default-found-clause-right : goal.returns-in_default-found-clause-right
returns-in_default-found-clause-right g c =
    let tree = (g.P.ReadFs.seen c.args.fs.now).tree in
    subst (λ (w : Planned). IfSome tree (λ t. StandsAs w (t c.args.path.now) → ⊥)) (sym c.in-Stored.is)
    (no_stored tree c.args.path.now c.in-Stored.digest c.args.found c.requires.found c.in_default-found.not-File)

pub returns-in_default-found-2-clause-right : goal.returns-in_default-found-2-clause-right
returns-in_default-found-2-clause-right g c =
    let tree = (g.P.ReadFs.seen c.args.fs.now).tree in
    subst (λ (w : Planned). IfSome tree (λ t. StandsAs w (t c.args.path.now) → ⊥)) (sym c.in-Link.is)
    (no_link tree c.args.path.now c.in-Link.text c.args.found c.requires.found c.in_default-found-2.not-Link)
