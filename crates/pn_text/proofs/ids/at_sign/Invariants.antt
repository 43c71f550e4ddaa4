use Rattle.std.proofs.Common.{◌≡◌, take, drop, true}
use Rattle.pn_text.proofs.IdTexts.{has_no_at}
use Rattle.pn_text.proofs.ids.at_sign.Given as goal

abbrev pub invariant-loop-i : goal.invariant-loop-i
invariant-loop-i l = has_no_at (drop 1 (take l.i l.text)) ≡ true
