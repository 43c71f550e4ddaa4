use Rattle.std.proofs.Common.{◌≡◌, true, subst, sym}
use Rattle.pn_text.specs.Path.{same_path}
use Rattle.pn_text.proofs.Bools.{true_false}
use Rattle.pn_text.proofs.Paths.{same_path_refl}
use Rattle.pn_replace.proofs.tests.replaced.Goals as goal

pub replace-requires-clause-differ : goal.replace-requires-clause-differ
replace-requires-clause-differ g c = λ e. true_false (same_path c.args.path.now c.args.temp.now) (subst (λ q. same_path c.args.path.now q ≡ true) e (same_path_refl c.args.path.now)) (sym c.if-is.ensures)
