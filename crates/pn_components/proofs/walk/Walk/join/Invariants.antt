use Rattle.std.proofs.Common.{◌≤◌, length}
use Rattle.std.specs.List.{Contains}
use Rattle.pn_components.specs.declared.walk.Part.{Part}
use Rattle.pn_components.specs.WalkStates.{IsOn, KeepsWay}
use Rattle.pn_components.proofs.walk.Walk.join.Given as goal

abbrev pub invariant-parts : goal.invariant-parts
invariant-parts l = record {
  walk : IsOn l.self;
  way : KeepsWay l.fn.self l.self;
  old : (x : Part) → Contains l.self.parts.items x → Contains l.fn.self.parts.items x;
  fewer : length l.self.parts.items ≤ length l.fn.self.parts.items;
}

abbrev pub decreases-parts : goal.decreases-parts
decreases-parts l = length l.self.parts.items
