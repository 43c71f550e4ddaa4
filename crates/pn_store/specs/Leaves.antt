-- What calls leave of an installer's numbers.
use Rattle.std.specs.Prelude.{◌≢◌, ℕ}
use Rattle.pn_storecore.specs.Seen.{Seen}
use Rattle.pn_storecore.specs.Held.{Holds, TempFiles}
use Rattle.pn_storecore.specs.Grew.{TookNone}
use Rattle.pn_store.specs.Own.{Made, IsReadStep}

-- Calls that took no number, left each folder that was held with its files, and made no step but reads.
pub record LeavesAll (old new : Seen) : Type 0 where
  pub took : (k : ℕ) → TookNone k old new
  pub held : (k : ℕ) (files : TempFiles) → Holds old k files → Holds new k files
  pub own : Made IsReadStep old new

-- Calls that took no number, and left each folder that was held with its files, but for that of one number.
pub record LeavesOthers (k : ℕ) (old new : Seen) : Type 0 where
  pub took : (j : ℕ) → TookNone j old new
  pub held : (j : ℕ) (files : TempFiles) → j ≢ k → Holds old j files → Holds new j files
