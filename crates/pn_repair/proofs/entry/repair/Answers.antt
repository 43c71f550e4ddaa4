use Rattle.std.proofs.Common.{Bool, subst, sym}
use Rattle.std.specs.Prelude.{IfSome}
use Rattle.std.specs.Bool.{MatchBool}
use Rattle.pn_repair.specs.Stands.{StandsAs, NeedsNoFile}
use Rattle.pn_text.proofs.Results.{on_ok, on_err, if_some, for_some}
use Rattle.pn_repair.proofs.RepairedLemmas.{repaired_anew, half_anew, touches_wrong, gave_then}
use Rattle.pn_repair.proofs.NeedsLemmas.{needed_wrong}
use Rattle.pn_repair.proofs.entry.repair.Goals as goal

pub returns-clause-ok : goal.returns-clause-ok
returns-clause-ok g c =
    let tree = g.P.ReadFs.seen in
    on_ok c.renew.result (repaired_anew c.args.path.now c.args.planned.now (tree c.args.fs.now) (tree c.stands.new.fs) (tree c.renew.new.fs) c.stands.ensures.kept c.renew.ensures.wrote) c.renew.ensures.ok

pub returns-clause-err : goal.returns-clause-err
returns-clause-err g c =
    let tree = g.P.ReadFs.seen in
    on_err c.renew.result (half_anew c.args.path.now c.args.planned.now (tree c.args.fs.now) (tree c.stands.new.fs) (tree c.renew.new.fs) c.stands.ensures.kept c.renew.ensures.wrote) c.renew.ensures.err

pub returns-clause-touches : goal.returns-clause-touches
returns-clause-touches g c =
    let tree = g.P.ReadFs.seen in
    let w = c.args.planned.now in
    let p = c.args.path.now in
    touches_wrong p w (tree c.args.fs.now) (tree c.stands.new.fs) (tree c.renew.new.fs) c.stands.ensures.kept c.renew.ensures.wrote
    (subst (λ (b : Bool). IfSome (tree c.args.fs.now).tree (λ t. MatchBool b (StandsAs w (t p)) (StandsAs w (t p) → ⊥))) c.if-branch.false c.in_ok-stands.ensures.right)

pub returns-clause-gave : goal.returns-clause-gave
returns-clause-gave g c =
    let tree = g.P.ReadFs.seen in
    gave_then c.args.path.now _ (tree c.args.fs.now) (tree c.stands.new.fs) (tree c.renew.new.fs) c.stands.ensures.kept c.stands.ensures.gave c.renew.ensures.wrote

pub returns-clause-asks : goal.returns-clause-asks
returns-clause-asks g c needs =
    let kept = c.stands.ensures.kept in
    c.renew.ensures.asks (subst (NeedsNoFile c.args.planned.now c.args.path.now) (sym kept.tree) needs)

pub returns-clause-needed : goal.returns-clause-needed
returns-clause-needed g c =
    let w = c.args.planned.now in
    let p = c.args.path.now in
    let s = (g.P.ReadFs.seen c.args.fs.now).tree in
    needed_wrong c.renew.result w p s (subst (λ (b : Bool). IfSome s (λ t. MatchBool b (StandsAs w (t p)) (StandsAs w (t p) → ⊥))) c.if-branch.false c.in_ok-stands.ensures.right)

pub returns-clause-right_stays : goal.returns-clause-right_stays
returns-clause-right_stays g c =
    let w = c.args.planned.now in
    let p = c.args.path.now in
    let s = (g.P.ReadFs.seen c.args.fs.now).tree in
    let wrong = subst (λ (b : Bool). IfSome s (λ t. MatchBool b (StandsAs w (t p)) (StandsAs w (t p) → ⊥))) c.if-branch.false c.in_ok-stands.ensures.right in
    if_some _ s (λ t told right. absurd (for_some (λ t. StandsAs w (t p) → ⊥) s wrong t told right))
