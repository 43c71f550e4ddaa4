-- What a hasher holds.
use Rattle.std.specs.Prelude.{ℕ, List}
use Rattle.sha2.specs.Hashers.{Holds512}
use Rattle.pn_digest.specs.declared.hasher.Hasher512.{Hasher512}

-- The bytes that were pushed into the hasher are these.
abbrev pub Holds : Hasher512 → List ℕ → Type 0
Holds h bytes = Holds512 h.hasher bytes
