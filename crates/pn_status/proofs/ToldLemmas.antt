-- What a sink took.
use Rattle.std.proofs.Common.{◌≡◌, ℕ, List, Result, Ok, Err, ap, sym, ◌∙◌, arith, inr, length}
use Rattle.std.proofs.Math.Seq.{take-length}
use Rattle.pn_text.specs.Causes.{count_after}
use Rattle.pn_text.specs.declared.fault.DevFault.{DevFault}
use Rattle.pn_fs.specs.Seen.{Taken}
use Rattle.pn_fs.specs.Takes.{Takes, told_more}
use Rattle.pn_status.specs.Told.{TookSome}

-- whatever a call answered
pub took_some : {T : Type 0} (r : Result T DevFault) (text : List ℕ) (old new : Taken) → new.calls ≡ count_after old.calls → Takes old.bytes text new.bytes r → TookSome text old new
took_some (Ok v) text old new asked h = record { asked = asked; front = inr (length text, omega arith, h.ok ∙ ap (told_more old.bytes) (sym (take-length text))) }
took_some (Err e) text old new asked h = record { asked = asked; front = h.err }
