-- What a claim leaves, and why there is none.
use Rattle.std.specs.Prelude.{◌≢◌, ◌⊎◌, ◌<◌, ℕ, None}
use Rattle.pn_text.specs.Causes.{Rose}
use Rattle.pn_storecore.specs.Seen.{Seen}
use Rattle.pn_storecore.specs.Held.{Holds, TempFiles}
use Rattle.pn_storecore.specs.Grew.{Stood, Took, TookNone}
use Rattle.pn_store.specs.declared.fault.ClaimFault.{ClaimFault}
use Rattle.pn_store.specs.declared.fault.ClaimFault.TheVariants.{Fault, NumbersFull, Memory}
use Rattle.pn_store.specs.declared.number.TheConstants.{NUMBERS}
use Rattle.pn_store.specs.Own.{Made, IsClaimStep}
use Rattle.pn_store.specs.Held.{HoldsFile}

-- A step between made the number's folder for this installer, which holds it with no files, and none made another's.
pub record IsClaimed (k : ℕ) (old new : Seen) : Type 0 where
  pub holds : HoldsFile new k None
  pub took : Took k old new
  pub others : (j : ℕ) → j ≢ k → TookNone j old new

-- The number is the first that was not found taken.
pub record IsFirst (k : ℕ) (old new : Seen) : Type 0 where
  pub within : k < NUMBERS
  pub stood : (j : ℕ) → j < k → Stood j old new

-- No step between made a number's folder for this installer, or one made that of this number, which it holds with no files.
abbrev pub IsTried : ℕ → Seen → Seen → Type 0
IsTried k old new = ((j : ℕ) → TookNone j old new) ⊎ (HoldsFile new k None × ((j : ℕ) → j ≢ k → TookNone j old new))

-- No step between made one, or one made that of the first number that was not found taken.
abbrev pub IsLeft : Seen → Seen → Type 0
IsLeft old new = ((j : ℕ) → TookNone j old new) ⊎ ((k : ℕ) × IsFirst k old new × HoldsFile new k None × ((j : ℕ) → j ≢ k → TookNone j old new))

-- Each folder that was held is held with its files, and the installer's own steps are claims.
pub record OnlyClaims (old new : Seen) : Type 0 where
  pub held : (k : ℕ) (files : TempFiles) → Holds old k files → Holds new k files
  pub own : Made IsClaimStep old new

-- Each number up to a bound was found taken at a step between, and no step between made one of their folders for this installer.
pub record AreTaken (bound : ℕ) (old new : Seen) : Type 0 where
  pub stood : (k : ℕ) → k < bound → Stood k old new
  pub others : (k : ℕ) → TookNone k old new

-- why no number was claimed
abbrev pub ClaimRefused : Seen → Seen → ClaimFault → Type 0
ClaimRefused old new Fault = Rose old.faults new.faults
ClaimRefused old new NumbersFull = AreTaken NUMBERS old new
ClaimRefused old new Memory = Unit {0}
