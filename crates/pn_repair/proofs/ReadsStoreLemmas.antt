-- Lemmas on calls that only read the store.
use Rattle.std.proofs.Common.{ℕ, List, refl, sym, subst, ◌≤◌, arith, Ok, Err}
use Rattle.std.specs.Prelude.{Result, IfErr}
use Rattle.sha2.specs.Sha512.{sha512}
use Rattle.pn_fs.specs.Seen.{Seen as Shown}
use Rattle.pn_storecore.specs.declared.step.Place.TheVariants.{Files}
use Rattle.pn_storecore.specs.Seen.{Seen}
use Rattle.pn_storecore.specs.CallLaws.{GrewLaw, ClaimsLaw}
use Rattle.pn_storecore.specs.Grew.{Grew}
use Rattle.pn_store.specs.Leaves.{LeavesAll}
use Rattle.pn_store.specs.Reads.{StoodThere}
use Rattle.pn_store.proofs.LeavesLemmas.{all_none, all_both}
use Rattle.pn_repair.specs.declared.fault.RepairFault.{RepairFault}
use Rattle.pn_repair.specs.RepairFaults.{RepairRefused, IsEnd}
use Rattle.pn_repair.specs.Writes.{ReadsStore}

pub reads_none : GrewLaw → ClaimsLaw → (s : Seen) → ReadsStore s s
reads_none grew claims s = record { grew = grew.none s; left = all_none claims s; later = omega arith }

-- one more read
pub reads_more : GrewLaw → ClaimsLaw → (a b c : Seen) → ReadsStore a b → Grew b c → LeavesAll b c → b.faults ≤ c.faults → ReadsStore a c
reads_more grew claims a b c h more left later = record { grew = grew.both a b c h.grew more; left = all_both claims a b c h.left left; later = omega (arith, h.later, later) }

-- what was read whole has another digest
pub end_refused : (at bytes : List ℕ) (was now : Shown) (old new : Seen) (r : Result Unit RepairFault) → StoodThere Files at bytes old new → IsEnd at (sha512 bytes) r → IfErr r (RepairRefused was now old new)
end_refused at bytes was now old new (Ok u) stood h = tt
end_refused at bytes was now old new (Err e) stood h = subst (RepairRefused was now old new) (sym h.1) (bytes, refl, h.0, stood)
