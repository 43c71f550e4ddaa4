use Rattle.std.proofs.Common.{◌≡◌, drop}
use Rattle.pn_deppath.specs.Paths.{holds, patch_mark}
use Rattle.pn_deppath.proofs.path.holds_patch.Given as goal

-- no patch begins before that place
abbrev pub invariant-loop-i : goal.invariant-loop-i
invariant-loop-i l = holds patch_mark (drop l.i l.text) ≡ holds patch_mark l.text
