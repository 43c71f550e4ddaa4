use Rattle.std.proofs.Common.{inl, inr}
use Rattle.pn_spec.proofs.Ats.{exit, no-workspace, refuses-from}
use Rattle.pn_spec.proofs.workspace.read_workspace.Goals as goal

pub returns-in_err-name-in-Some-clause-fault : goal.returns-in_err-name-in-Some-clause-fault
returns-in_err-name-in-Some-clause-fault c =
    exit _ _ _ c.from_residual.ensures.1 (refuses-from _ _ _ (λ h. no-workspace c.args.text.now _ _ c.in-Some.ensures (inl h)) c.in_err-name-in-Some.ensures.fault)

pub returns-in_err-want-in-Some-clause-fault : goal.returns-in_err-want-in-Some-clause-fault
returns-in_err-want-in-Some-clause-fault c =
    exit _ _ _ c.from_residual-in_err-want-in-Some.ensures.1 (refuses-from _ _ _ (λ h. no-workspace c.args.text.now _ _ c.in-Some.ensures (inr h)) c.in_err-want-in-Some.ensures.fault)
