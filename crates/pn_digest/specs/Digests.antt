-- Digests as lists of bytes, and the texts of integrities.
use Rattle.std.specs.Prelude.{◌≡◌, ℕ, List, ◌++◌, length, codes}
use Rattle.base64.specs.Engines.{standard}
use Rattle.base64.specs.GeneralPurpose.{IsBytes, encode_of}

-- 64 bytes
abbrev pub IsDigest : List ℕ → Type 0
IsDigest d = (length d ≡ 64) × IsBytes d

-- the integrity of bytes with this digest
abbrev pub integrity_text : List ℕ → List ℕ
integrity_text d = codes "sha512-" ++ encode_of standard d

-- No two digests have the same integrity.
abbrev pub IntegrityLaw : Type 0
IntegrityLaw = (a b : List ℕ) → IsDigest a → IsDigest b → integrity_text a ≡ integrity_text b → a ≡ b
