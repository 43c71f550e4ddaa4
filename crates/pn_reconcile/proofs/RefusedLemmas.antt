-- Lemmas on why calls were refused, by what was seen before earlier calls.
use Rattle.std.proofs.Common.{◌≡◌, ℕ, ◌≤◌, List, sym, subst, Some, None, Ok, Err, inl, inr}
use Rattle.std.specs.Prelude.{Option, Result, IfErr}
use Rattle.pn_text.proofs.Results.{if_err}
use Rattle.pn_fs.specs.Seen.{Seen as Shown}
use Rattle.pn_fs.proofs.SeenLemmas.{rose_from}
use Rattle.pn_storecore.specs.declared.step.Place.TheVariants.{Files}
use Rattle.pn_storecore.specs.CallLaws.{GrewLaw, ClaimsLaw, WasLaw}
use Rattle.pn_storecore.specs.Seen.{Seen}
use Rattle.pn_digest.specs.declared.planned.Planned.{Planned}
use Rattle.pn_digest.specs.declared.planned.Planned.TheVariants.{Bytes}
use Rattle.pn_store.proofs.MetLemmas.{stood_before}
use Rattle.pn_repair.specs.declared.fault.RepairFault.{RepairFault}
use Rattle.pn_repair.specs.declared.fault.RepairFault.TheVariants.{Fault, StoreFault, Stored, Memory}
use Rattle.pn_repair.specs.RepairFaults.{RepairRefused, TreeRefused, IsOfPlan, IsWrongFile}
use Rattle.pn_repair.specs.Writes.{ReadsStore}
use Rattle.pn_repair.proofs.ReadsStoreLemmas.{reads_none, reads_more}

pub reads_both : GrewLaw → ClaimsLaw → (a b c : Seen) → ReadsStore a b → ReadsStore b c → ReadsStore a c
reads_both grew claims a b c h k = reads_more grew claims a b c h k.grew k.left k.later

pub reads_same : GrewLaw → ClaimsLaw → (a b : Seen) → b ≡ a → ReadsStore a b
reads_same grew claims a b same = subst (ReadsStore a) (sym same) (reads_none grew claims a)

wrong_before : WasLaw → (at : List ℕ) (found : Option (List ℕ)) (x y z : Seen) → ReadsStore x y → IsWrongFile at found y z → IsWrongFile at found x z
wrong_before law at None x y z h w = elim w [
  | inl was ↦ inl (law.before x y z Files at None h.grew was)
  | inr long ↦ inr (long.0, long.1, stood_before law x y z Files at long.0 h.grew long.2)
]
wrong_before law at (Some found) x y z h w = (w.0, w.1, w.2, stood_before law x y z Files at w.0 h.grew w.3)

pub refused_before : WasLaw → (a b c : Shown) (x y z : Seen) (e : RepairFault) → a.faults ≤ b.faults → ReadsStore x y → RepairRefused b c y z e → RepairRefused a c x z e
refused_before law a b c x y z Fault l h r = rose_from a.faults b.faults c.faults l r
refused_before law a b c x y z StoreFault l h r = rose_from x.faults y.faults z.faults h.later r
refused_before law a b c x y z (Stored at found) l h r = wrong_before law at found x y z h r
refused_before law a b c x y z Memory l h r = tt

pub refused_then : {T : Type 0} → WasLaw → (a b c : Shown) (x y z : Seen) (r : Result T RepairFault) → a.faults ≤ b.faults → ReadsStore x y → IfErr r (RepairRefused b c y z) → IfErr r (RepairRefused a c x z)
refused_then law a b c x y z r l h = if_err r (λ e. refused_before law a b c x y z e l h)

pub tree_before : (a b c : ℕ) (e : RepairFault) → a ≤ b → TreeRefused b c e → TreeRefused a c e
tree_before a b c Fault l r = rose_from a b c l r
tree_before a b c StoreFault l r = absurd r
tree_before a b c (Stored at found) l r = absurd r
tree_before a b c Memory l r = tt

-- a file of the plan's own bytes
of_text : (a b : Shown) (x y : Seen) (text : List ℕ) (e : RepairFault) → IsOfPlan (Bytes text) e → RepairRefused a b x y e → TreeRefused a.faults b.faults e
of_text a b x y text Fault of r = r
of_text a b x y text StoreFault of r = let clash = of.1 in cc clash
of_text a b x y text (Stored at found) of r = cc of
of_text a b x y text Memory of r = tt

pub text_refused : {T : Type 0} (r : Result T RepairFault) (w : Planned) (text : List ℕ) (a b : Shown) (x y : Seen) → w ≡ Bytes text → IfErr r (IsOfPlan w) → IfErr r (RepairRefused a b x y) → IfErr r (TreeRefused a.faults b.faults)
text_refused (Ok v) w text a b x y is of h = tt
text_refused (Err e) w text a b x y is of h = of_text a b x y text e (subst (λ v. IsOfPlan v e) is of) h
