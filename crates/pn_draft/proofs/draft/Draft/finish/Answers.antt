use Rattle.std.proofs.Common.{◌≡◌, sym, subst, List, Some}
use Rattle.std.specs.Prelude.{◌↔◌}
use Rattle.std.specs.List.{Contains}
use Rattle.pn_text.specs.Path.{Path}
use Rattle.pn_digest.specs.declared.planned.Planned.{Planned}
use Rattle.pn_draft.specs.Drawing.{drawn}
use Rattle.std.proofs.lemmas.Result.{err_from_is_err_and}
use Rattle.pn_draft.proofs.Outcome.{rises, gives, short, refused}
use Rattle.pn_draft.proofs.draft.Draft.finish.Goals as goal

pub returns-in_err-entries-clause-fault : goal.returns-in_err-entries-clause-fault
returns-in_err-entries-clause-fault c =
    let p = err_from_is_err_and c.from_residual.result c.from_residual.ensures.1 in
    rw (p.1, p.2) (refused c.self.inside.tops.items c.self.inside.marks c.args.self _ c.self.view_is c.self.invariant c.in_err-entries.ensures.ordered c.in_err-entries.ensures.fault)

pub unreachable-requires : goal.unreachable-requires
unreachable-requires c = c.in-None.ensures (rises _ _ c.in_ok-entries.ensures.ok c.in_ok-entries.ensures.ordered)

pub returns-clause-entries : goal.returns-clause-entries
returns-clause-entries c =
    subst (λ (es : List (Path × Planned)). (q : Path) (w : Planned) → Contains es (q, w) ↔ (drawn c.args.self q ≡ Some w)) (sym c.in-Some.ensures.0)
    (gives _ _ c.args.self _ c.self.view_is c.in_ok-entries.ensures.ok c.in_ok-entries.ensures.ordered)

pub returns-clause-short : goal.returns-clause-short
returns-clause-short c = short _ _ c.args.self _ c.self.view_is c.in_ok-entries.ensures.ok
