use Rattle.std.proofs.Common.{◌≡◌, arith, length, subst}
use Rattle.std.specs.BTreeSet.{contains_text}
use Rattle.pn_digest.proofs.IsFolderTextLemmas.{AddsFronts, adds_all}
use Rattle.pn_digest.proofs.folders.add_folders.Goals as goal

pub returns : goal.returns
returns c =
    let path = c.args.path.now in
    let end : c.loop-i.i ≡ length path = omega (arith, c.loop-i-test.false) in
    adds_all (contains_text c.args.folders.now) (contains_text c.loop-i.folders) path
    (subst (AddsFronts (contains_text c.args.folders.now) (contains_text c.loop-i.folders) path) end c.loop-i.invariant)
