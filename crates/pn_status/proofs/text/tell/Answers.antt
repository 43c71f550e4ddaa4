use Rattle.std.proofs.Common.{refl, inl, inr}
use Rattle.pn_status.specs.declared.status.Status.TheVariants.{Memory}
use Rattle.pn_status.proofs.text.tell.Goals as goal

pub returns-else-tell_line : goal.returns-else-tell_line
returns-else-tell_line g c = record {
  same = inr (refl, c.in_default.not-Done);
  told = elim (c.tell_line.ensures.other c.if-tell_line.false) [
    | inl own ↦ (c.args.status, inl refl, own)
    | inr memory ↦ (Memory, inr (refl, c.in_default.not-Done), memory)
  ];
}
