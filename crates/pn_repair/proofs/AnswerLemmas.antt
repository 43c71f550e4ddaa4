-- Lemmas on what a call of the tree answered, in the words of a repair.
use Rattle.std.proofs.Common.{◌≡◌, sym, subst, Ok, Err}
use Rattle.std.specs.Prelude.{Result, OnOk, OnErr}
use Rattle.pn_text.specs.declared.fault.DevFault.{DevFault}
use Rattle.pn_text.specs.declared.fault.DevFault.TheVariants.{Failed, Memory}
use Rattle.pn_repair.specs.declared.fault.RepairFault.{RepairFault}
use Rattle.pn_repair.specs.RepairFaults.{tree_answer}

pub answer_ok : {T P Q : Type 0} (r : Result T DevFault) (a : Result T RepairFault) → a ≡ tree_answer r → (P → Q) → OnOk r P → OnOk a Q
answer_ok {Q = Q} (Ok v) a is f h = subst (λ x. OnOk x Q) (sym is) (f h)
answer_ok {Q = Q} (Err Failed) a is f h = subst (λ x. OnOk x Q) (sym is) tt
answer_ok {Q = Q} (Err Memory) a is f h = subst (λ x. OnOk x Q) (sym is) tt

pub answer_err : {T P Q : Type 0} (r : Result T DevFault) (a : Result T RepairFault) → a ≡ tree_answer r → (P → Q) → OnErr r P → OnErr a Q
answer_err {Q = Q} (Ok v) a is f h = subst (λ x. OnErr x Q) (sym is) tt
answer_err {Q = Q} (Err Failed) a is f h = subst (λ x. OnErr x Q) (sym is) (f h)
answer_err {Q = Q} (Err Memory) a is f h = subst (λ x. OnErr x Q) (sym is) (f h)
