use Rattle.pn_glob.specs.Reading.{Stops}
use Rattle.pn_glob.proofs.Braces.{exit_with, items_of, spelled-next, spelled-start, spelled-stops}
use Rattle.pn_glob.proofs.choices.texts_of.Goals as goal

pub pieces-init : goal.pieces-init
pieces-init c = spelled-start c.args.body.now (items_of c.in_ok-texts.texts.items) c.in_ok-texts.ensures.ok

pub returns-in_err-grown-clause-err : goal.returns-in_err-grown-clause-err
returns-in_err-grown-clause-err c = exit_with (Stops c.args.body.now) _ _ c.from_residual-in_err-grown.ensures.1
    (spelled-stops c.args.body.now (items_of c.pieces.texts.items) c.pieces.rest.now _ c.pieces.invariant c.in_err-grown.ensures.err)

pub pieces-preserved : goal.pieces-preserved
pieces-preserved c = spelled-next c.args.body.now (items_of c.pieces.texts.items) c.pieces.rest.now (items_of c.in_ok-grown.grown.items) c.in_ok-grown.after.now c.pieces.invariant c.in_ok-grown.ensures.ok
