use Rattle.std.proofs.Common.{◌≡◌, ◌∙◌, ap, true, subst, sym}
use Rattle.pn_digest.specs.declared.planned.Planned.{Planned}
use Rattle.pn_digest.specs.declared.planned.Planned.TheVariants.{Bytes}
use Rattle.pn_text.proofs.Results.{on_err}
use Rattle.pn_repair.specs.Repairs.{IsHalf, fits}
use Rattle.pn_repair.specs.Stands.{StandsAs, NeedsNoFile}
use Rattle.pn_repair.specs.Writes.{IsAt}
use Rattle.pn_repair.proofs.FitsLemmas.{free_folder, create_text, create_stored, link_parent}
use Rattle.pn_repair.proofs.entry.renew.Goals as goal

pub make_folder-requires : goal.make_folder-requires
make_folder-requires g c t told =
    let fit = subst (λ (w : Planned). fits w c.args.found ≡ true) c.in-Folder.is c.requires.fits in
    let wrong = subst (λ (w : Planned). StandsAs w (t c.args.path.now) → ⊥) c.in-Folder.is (c.requires.wrong t told) in
    free_folder t c.args.path.now c.args.found (g.met.P.ReadFs.well_formed c.args.fs.now t told) fit (c.requires.found t told) (c.requires.parent t told) wrong

pub write_text-requires : goal.write_text-requires
write_text-requires g c t told =
    let fit = subst (λ (w : Planned). fits w c.args.found ≡ true) c.in-Bytes.is c.requires.fits in
    create_text t c.args.path.now c.in-Bytes.text c.args.found (g.met.P.ReadFs.well_formed c.args.fs.now t told) fit (c.requires.found t told) (c.requires.parent t told)

pub copy_stored-requires-clause-free : goal.copy_stored-requires-clause-free
copy_stored-requires-clause-free g c t told =
    let fit = subst (λ (w : Planned). fits w c.args.found ≡ true) c.in-Stored.is c.requires.fits in
    create_stored t c.args.path.now c.in-Stored.digest c.args.found (g.met.P.ReadFs.well_formed c.args.fs.now t told) fit (c.requires.found t told) (c.requires.parent t told)

pub write_link-requires-clause-parent : goal.write_link-requires-clause-parent
write_link-requires-clause-parent g c t told =
    let fit = subst (λ (w : Planned). fits w c.args.found ≡ true) c.in-Link.is c.requires.fits in
    link_parent t c.args.path.now c.in-Link.text c.args.found (g.met.P.ReadFs.well_formed c.args.fs.now t told) fit (c.requires.found t told) (c.requires.parent t told)

pub returns-in-Folder-clause-err : goal.returns-in-Folder-clause-err
returns-in-Folder-clause-err g c =
    let tree = g.P.ReadFs.seen in
    on_err c.make_folder.result (λ h. subst (λ (w : Planned). IsAt c.args.path.now (IsHalf w) (tree c.args.fs.now).tree (tree c.make_folder.new.fs).tree) (sym c.in-Folder.is) h) c.make_folder.ensures.err

pub returns-in-Bytes-clause-err : goal.returns-in-Bytes-clause-err
returns-in-Bytes-clause-err g c =
    let tree = g.P.ReadFs.seen in
    let same = ap Bytes (c.as_bytes.ensures.value ∙ c.as_str.ensures) ∙ sym c.in-Bytes.is in
    on_err c.write_text.result (λ h. subst (λ (w : Planned). IsAt c.args.path.now (IsHalf w) (tree c.args.fs.now).tree (tree c.write_text.new.fs).tree) same h) c.write_text.ensures.err

pub returns-in-Stored-clause-err : goal.returns-in-Stored-clause-err
returns-in-Stored-clause-err g c =
    let tree = g.P.ReadFs.seen in
    on_err c.copy_stored.result (λ h. subst (λ (w : Planned). IsAt c.args.path.now (IsHalf w) (tree c.args.fs.now).tree (tree c.copy_stored.new.fs).tree) (sym c.in-Stored.is) h) c.copy_stored.ensures.err

pub returns-in-Link-clause-err : goal.returns-in-Link-clause-err
returns-in-Link-clause-err g c =
    let tree = g.P.ReadFs.seen in
    on_err c.write_link.result (λ h. subst (λ (w : Planned). IsAt c.args.path.now (IsHalf w) (tree c.args.fs.now).tree (tree c.write_link.new.fs).tree) (sym c.in-Link.is) h) c.write_link.ensures.err

pub returns-in-Stored-clause-asks : goal.returns-in-Stored-clause-asks
returns-in-Stored-clause-asks g c needs =
    let p = c.args.path.now in
    let t = subst (λ (w : Planned). NeedsNoFile w p (g.P.ReadFs.seen c.args.fs.now).tree) c.in-Stored.is needs in
    absurd (c.requires.wrong t.0 t.1 (subst (λ (w : Planned). StandsAs w (t.0 p)) (sym c.in-Stored.is) t.2))
