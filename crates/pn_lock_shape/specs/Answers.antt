-- What the functions that read answer, memory aside.
use Rattle.std.specs.Prelude.{◌≡◌, ◌⊎◌, ℕ, List, Vec, Result, Ok, Err}
use Rattle.pn_lock_shape.specs.declared.fault.ShapeFault.{ShapeFault}
use Rattle.pn_lock_shape.specs.declared.fault.ShapeFault.TheVariants as shape
use Rattle.pn_lock_shape.specs.Shapes.{Outcome, within}

abbrev pub Fails : {A : Type 0} → ShapeFault → Outcome A → Type 0
Fails (shape.At keys) outcome = outcome ≡ Err (shape.At keys)
Fails shape.Memory outcome = Unit {0}

abbrev pub Reads : {A : Type 0} → Result A ShapeFault → Outcome A → Type 0
Reads (Ok x) outcome = outcome ≡ Ok x
Reads (Err e) outcome = Fails e outcome

-- a fault below a key, or no memory to say so
abbrev pub IsWithin : List ℕ → ShapeFault → ShapeFault → Type 0
IsWithin key e result = (result ≡ shape.Memory) ⊎ (result ≡ within key e)

abbrev pub no_memory : ShapeFault
no_memory = shape.Memory

-- the same of a vector
abbrev pub ReadsVec : {T A : Type 0} → Result (Vec T A) ShapeFault → Outcome (List T) → Type 0
ReadsVec (Ok v) outcome = outcome ≡ Ok v.items
ReadsVec (Err e) outcome = Fails e outcome
