-- Bytes that are read in pieces.
use Rattle.std.specs.Prelude.{◌≡◌, ℕ, ◌-◌, ◌<◌, ◌≤◌, List, length, take, drop}

-- So many of the bytes from a place on came in; none exactly at or past the end.
pub record IsPieceOf (bytes : List ℕ) (from : ℕ) (into : List ℕ) (n : ℕ) : Type 0 where
  pub came : take n into ≡ take n (drop from bytes)
  pub within : n ≤ length bytes - from
  pub some : from < length bytes → 0 < n
