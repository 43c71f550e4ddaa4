-- Whether a file has some bytes at a place.
use Rattle.std.specs.Prelude.{◌≡◌, ◌≢◌, ℕ, Bool, true, false, List, take, drop, length, Option, Some}
use Rattle.sha2.specs.Sha512.{sha512}
use Rattle.pn_fs.specs.Tree.{Entry, file}
use Rattle.pn_store.specs.declared.compare.Met.{Met}
use Rattle.pn_store.specs.declared.compare.Met.TheVariants.{Same, Other}

abbrev pub BeginsAt : Option Entry → ℕ → List ℕ → Bool → Type 0
BeginsAt e at piece true = (w : List ℕ) × (e ≡ Some (file w)) × (piece ≡ take (length piece) (drop at w))
BeginsAt e at piece false = (w : List ℕ) × (e ≡ Some (file w)) × (piece ≢ take (length piece) (drop at w))

-- bytes that were read whole, and are the source's or not
abbrev pub IsEnd : Bool → List ℕ → Met → Type 0
IsEnd true bytes met = met ≡ Same
IsEnd false bytes met = met ≡ Other (sha512 bytes)
