use Rattle.std.proofs.Common.{[], sym, ◌∙◌}
use Rattle.pn_fs.specs.Tree.{file}
use Rattle.pn_fs.proofs.Puts.{made_is_file, made_grown}
use Rattle.std.proofs.Common.{refl}
use Rattle.pn_text.proofs.Results.{on_ok, any_err}
use Rattle.pn_replace.proofs.WritesLemmas.{wrote_both}
use Rattle.pn_replace.proofs.ReplacesLemmas.{can_rename, moved_is, half_made, half_grown, half_rename, wrote_temp, wrote_more, wrote_move}
use Rattle.pn_replace.proofs.replacing.write_and_move.Goals as goal

pub returns-in_err-create-clause-err : goal.returns-in_err-create-clause-err
returns-in_err-create-clause-err g c = any_err c.from_residual.result (half_made c.create.result _ _ c.args.bytes.now (file []) _ _ c.requires.differ c.create.ensures.made)

pub returns-in_err-create-clause-wrote : goal.returns-in_err-create-clause-wrote
returns-in_err-create-clause-wrote g c = wrote_temp c.create.result c.args.path.now c.args.temp.now (file []) (g.P.ReadFs.seen c.args.fs.now) (g.P.ReadFs.seen c.create.new.self) c.create.ensures.made c.create.ensures.touched c.create.ensures.gave

pub append-requires : goal.append-requires
append-requires g c t told = made_is_file _ _ [] t (sym c.in_ok-create.ensures.made.ok ∙ told)

pub returns-in_err-append-clause-err : goal.returns-in_err-append-clause-err
returns-in_err-append-clause-err g c =
    any_err c.from_residual-in_err-append.result (half_grown c.append.result _ _ c.args.bytes.now (file []) _ _ _ c.requires.differ c.in_ok-create.ensures.made.ok c.append.ensures.grown)

pub returns-in_err-append-clause-wrote : goal.returns-in_err-append-clause-wrote
returns-in_err-append-clause-wrote g c =
    let path = c.args.path.now in
    let temp = c.args.temp.now in
    let old = g.P.ReadFs.seen c.args.fs.now in
    let mid = g.P.ReadFs.seen c.create.new.self in
    let new = g.P.ReadFs.seen c.append.new.self in
    wrote_both _ old mid new (wrote_temp c.create.result path temp (file []) old mid c.create.ensures.made c.create.ensures.touched c.create.ensures.gave)
    (wrote_more c.append.result path temp c.args.bytes.now mid new c.append.ensures.grown c.append.ensures.touched c.append.ensures.gave)

pub rename-requires : goal.rename-requires
rename-requires g c =
    let made = c.in_ok-append.ensures.grown.ok ∙ made_grown _ _ c.args.temp.now c.args.bytes.now c.args.bytes.now c.in_ok-create.ensures.made.ok refl in
    can_rename _ _ _ _ c.args.bytes.now c.requires.differ c.requires.target c.requires.free made

pub returns-clause-ok : goal.returns-clause-ok
returns-clause-ok g c =
    let made = c.in_ok-append.ensures.grown.ok ∙ made_grown _ _ c.args.temp.now c.args.bytes.now c.args.bytes.now c.in_ok-create.ensures.made.ok refl in
    on_ok c.rename.result (λ e. e ∙ moved_is _ _ c.args.path.now c.args.temp.now c.args.bytes.now made) c.rename.ensures.made.ok

pub returns-clause-err : goal.returns-clause-err
returns-clause-err g c =
    let made = c.in_ok-append.ensures.grown.ok ∙ made_grown _ _ c.args.temp.now c.args.bytes.now c.args.bytes.now c.in_ok-create.ensures.made.ok refl in
    half_rename c.rename.result _ _ _ c.args.path.now c.args.temp.now c.args.bytes.now c.requires.differ made c.rename.ensures.made

pub returns-clause-wrote : goal.returns-clause-wrote
returns-clause-wrote g c =
    let path = c.args.path.now in
    let temp = c.args.temp.now in
    let old = g.P.ReadFs.seen c.args.fs.now in
    let one = g.P.ReadFs.seen c.create.new.self in
    let two = g.P.ReadFs.seen c.append.new.self in
    let new = g.P.ReadFs.seen c.rename.new.self in
    wrote_both _ old two new
    (wrote_both _ old one two (wrote_temp c.create.result path temp (file []) old one c.create.ensures.made c.create.ensures.touched c.create.ensures.gave)
    (wrote_more c.append.result path temp c.args.bytes.now one two c.append.ensures.grown c.append.ensures.touched c.append.ensures.gave))
    (wrote_move c.rename.result path temp two new c.rename.ensures.made c.rename.ensures.touched c.rename.ensures.gave)
