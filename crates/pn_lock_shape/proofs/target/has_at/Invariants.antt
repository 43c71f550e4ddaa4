use Rattle.std.proofs.Common.{◌≡◌, drop}
use Rattle.pn_deppath.specs.Cuts.{before, has_byte}
use Rattle.pn_lock_shape.proofs.target.has_at.Given as goal

-- the byte is looked for in what is left
abbrev pub invariant-loop-b : goal.invariant-loop-b
invariant-loop-b l = has_byte 64 (before 40 (drop l.b-index l.text)) ≡ has_byte 64 (before 40 l.fn.text)
