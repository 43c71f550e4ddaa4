-- Steps of other installers that came before a call.
use Rattle.std.specs.Prelude.{◌≡◌, ℕ, ◌++◌}
use Rattle.pn_storecore.specs.Steps.{Journal, world_of}
use Rattle.pn_storecore.specs.Lawful.{AreLawful, AreOthers}

-- The journal grew by lawful steps of others.
pub record OthersCame (me : ℕ) (old new : Journal) : Type 0 where
  pub others : Journal
  pub lawful : AreLawful (world_of old) others
  pub theirs : AreOthers me others
  pub came : new ≡ old ++ others
