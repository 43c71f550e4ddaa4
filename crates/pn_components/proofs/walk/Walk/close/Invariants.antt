use Rattle.std.proofs.Common.{◌≡◌, map}
use Rattle.pn_components.proofs.CloseSteps.{closed_upto}
use Rattle.pn_components.proofs.walk.Walk.close.Given as goal

-- the places of the stack up to there are closed, and nothing else is changed
abbrev pub invariant-loop-i : goal.invariant-loop-i
invariant-loop-i l = record {
  marks : l.self.marks.items ≡ map (closed_upto l.first l.self.closed l.i) l.fn.self.marks.items;
  rows : l.self.rows.items ≡ l.fn.self.rows.items;
  stack : l.self.stack.items ≡ l.fn.self.stack.items;
  parts : l.self.parts.items ≡ l.fn.self.parts.items;
  waiting : l.self.waiting.items ≡ l.fn.self.waiting.items;
  closed : l.self.closed ≡ l.fn.self.closed;
}
