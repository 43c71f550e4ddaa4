use Rattle.std.proofs.Common.{inl, inr, ◌⊎◌}
use Rattle.pn_storecore.specs.Steps.{Journal}
use Rattle.pn_text.proofs.Results.{if_some, for_some}
use Rattle.pn_storecore.specs.Sound.{MayStand}
use Rattle.pn_storecore.specs.CallLaws.{WasLaw}
use Rattle.pn_store.specs.Reads.{Changed, WrongLaw}
use Rattle.pn_store.proofs.laws.wrong_law.Goals as goal

wrong : WasLaw → WrongLaw
wrong law place at bytes old new grew right stood = if_some (λ (j : Journal). MayStand place at bytes ⊎ Changed place at old new) old.journal (λ j told. elim stood [
  | inl was ↦ inl (for_some (λ (i : Journal). MayStand place at bytes) old.journal (law.digest old new place at bytes grew right was) j told)
  | inr changed ↦ inr changed
])

pub returns : goal.returns
returns c = wrong c.was_law.ensures
