use Rattle.std.proofs.Common.{sym, subst, ◌∙◌}
use Rattle.std.specs.Bool.{MatchBool}
use Rattle.pn_text.proofs.Results.{for_some, if_some}
use Rattle.pn_scan.specs.Managed.{HasEntry, IsMarked}
use Rattle.pn_scan.specs.ScanFaults.{IsForeignAt}
use Rattle.pn_scan.specs.ScanFaults.IsForeignAt.{unmarked}
use Rattle.pn_scan.proofs.AreLookedLemmas.{path_refused}
use Rattle.pn_scan.proofs.ours.look_at.Goals as goal

pub returns-in-Err-clause-fault : goal.returns-in-Err-clause-fault
returns-in-Err-clause-fault g c = path_refused (c.args.folder.now, c.args.text.now) (g.P.ReadFs.seen c.args.fs.now) (g.P.ReadFs.seen c.stands.new.fs) c.in-Err.fault c.in-Err.ensures.fault

pub returns-clause-fault : goal.returns-clause-fault
returns-clause-fault g c =
    let f = c.args.folder.now in
    let text = c.args.text.now in
    let same = c.in-Ok.ensures.kept.tree in
    let marked = for_some (λ t. MatchBool c.in_ok-marked.marked (IsMarked t (f, text)) (IsMarked t (f, text) → ⊥)) _ c.in_ok-marked.ensures.marked in
    let empty = for_some (λ t. MatchBool c.in_ok-empty.empty (HasEntry t f → ⊥) (HasEntry t f)) _ c.in_ok-empty.ensures.empty in
    if_some (λ t. IsForeignAt t (f, text) c.in_ok-path.path) _ (λ t told.
    subst (IsForeignAt t (f, text)) (sym c.in_ok-path.ensures)
    (unmarked (subst (λ b. MatchBool b (HasEntry t f → ⊥) (HasEntry t f)) c.if-empty.false (empty t (c.in_ok-marked.ensures.kept.tree ∙ same ∙ told)))
    (subst (λ b. MatchBool b (IsMarked t (f, text)) (IsMarked t (f, text) → ⊥)) c.if-marked.false (marked t (same ∙ told)))))
