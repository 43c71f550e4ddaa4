-- Lemmas on what the store is asked for.
use Rattle.std.proofs.Common.{Ok, Err}
use Rattle.std.specs.Prelude.{Option, Result, IfErr, IfSome}
use Rattle.pn_text.specs.Path.{Path}
use Rattle.pn_text.proofs.Results.{if_some, for_some}
use Rattle.pn_fs.specs.Tree.{Tree}
use Rattle.pn_digest.specs.declared.planned.Planned.{Planned}
use Rattle.pn_repair.specs.declared.fault.RepairFault.{RepairFault}
use Rattle.pn_repair.specs.declared.fault.RepairFault.TheVariants.{Fault, StoreFault, Stored, Memory}
use Rattle.pn_repair.specs.Stands.{StandsAs}
use Rattle.pn_repair.specs.RepairFaults.{IsNeeded}

-- what doesn't stand is needed
needed_here : (e : RepairFault) (w : Planned) (p : Path) (t : Tree) → (StandsAs w (t p) → ⊥) → IsNeeded w (t p) e
needed_here Fault w p t wrong = tt
needed_here StoreFault w p t wrong = wrong
needed_here (Stored at found) w p t wrong = wrong
needed_here Memory w p t wrong = tt

pub needed_wrong : {T : Type 0} (r : Result T RepairFault) (w : Planned) (p : Path) (s : Option Tree) → IfSome s (λ t. StandsAs w (t p) → ⊥) → IfErr r (λ e. IfSome s (λ t. IsNeeded w (t p) e))
needed_wrong (Ok v) w p s wrong = tt
needed_wrong (Err e) w p s wrong = if_some (λ t. IsNeeded w (t p) e) s (λ t told. needed_here e w p t (for_some (λ t. StandsAs w (t p) → ⊥) s wrong t told))
