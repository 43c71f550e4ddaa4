use Rattle.std.proofs.Common.{◌≡◌, ◌++◌, take, drop}
use Rattle.pn_spec.specs.Entries.{put_in}
use Rattle.pn_spec.proofs.catalogs.place.Given as goal

-- what was passed stays before the entry
abbrev pub invariant-loop-i : goal.invariant-loop-i
invariant-loop-i l = put_in l.entry l.items ≡ take l.i l.items ++ put_in l.entry (drop l.i l.items)
