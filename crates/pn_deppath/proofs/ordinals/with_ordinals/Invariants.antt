use Rattle.std.proofs.Common.{◌≡◌, ◌++◌, ℕ, List, drop, take}
use Rattle.pn_deppath.specs.Numbers.{last_of}
use Rattle.pn_deppath.specs.Ordinals.{numbered_behind, times, with_ordinals}
use Rattle.pn_deppath.proofs.ordinals.with_ordinals.Given as goal

abbrev pub invariant-loop-text : goal.invariant-loop-text
invariant-loop-text l = record {
  counts : (q : List ℕ) → last_of l.times q ≡ times (take l.text-index l.texts) q;
  paths : l.paths.items ++ numbered_behind (take l.text-index l.texts) (drop l.text-index l.texts) ≡ with_ordinals l.texts;
}
