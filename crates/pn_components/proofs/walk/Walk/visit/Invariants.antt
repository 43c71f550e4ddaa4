use Rattle.std.proofs.Common.{◌≡◌, ◌≢◌}
use Rattle.pn_components.specs.declared.walk.Mark.TheVariants.{New}
use Rattle.pn_components.specs.Walks.{KeepsMet, mark_of}
use Rattle.pn_components.specs.WalkStates.{IsOn, work_of}
use Rattle.pn_components.proofs.walk.Walk.visit.Given as goal

abbrev pub invariant-parts : goal.invariant-parts
invariant-parts l = record {
  walk : IsOn l.self;
  rows : l.self.rows.items ≡ l.fn.self.rows.items;
  kept : KeepsMet l.fn.self.marks.items l.self.marks.items;
  met : mark_of l.self.marks.items l.root ≢ New;
}

abbrev pub decreases-parts : goal.decreases-parts
decreases-parts l = work_of l.self
