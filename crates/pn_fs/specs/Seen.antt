-- What the outside shows of a file system and of a sink.
use Rattle.std.specs.Prelude.{◌≡◌, ◌+◌, ◌-◌, ◌^◌, ◌≤◌, min, ℕ, List, Option}
use Rattle.pn_text.specs.Path.{Path}
use Rattle.pn_fs.specs.Tree.{Tree}

-- a count with so many more, which stands still at its type's end
abbrev pub count_up : ℕ → ℕ → ℕ
count_up n more = min (n + more) (2 ^ 64 - 1)

-- The tree, where it is told; the paths that writing calls were made on; how often a call failed; how many bytes and
-- how many names were given.
pub record Seen : Type 0 where
  pub tree : Option Tree
  pub touched : List Path
  pub faults : ℕ
  pub bytes : ℕ
  pub names : ℕ

-- Calls that only read.
pub record Keeps (old new : Seen) : Type 0 where
  pub tree : new.tree ≡ old.tree
  pub touched : new.touched ≡ old.touched
  pub later : old.faults ≤ new.faults

-- A call gave neither bytes nor names.
pub record GaveNothing (old new : Seen) : Type 0 where
  pub bytes : new.bytes ≡ old.bytes
  pub names : new.names ≡ old.names

-- A call gave so many bytes.
pub record GaveBytes (old : Seen) (count : ℕ) (new : Seen) : Type 0 where
  pub bytes : new.bytes ≡ count_up old.bytes count
  pub names : new.names ≡ old.names

-- A call gave so many names.
pub record GaveNames (old : Seen) (count : ℕ) (new : Seen) : Type 0 where
  pub bytes : new.bytes ≡ old.bytes
  pub names : new.names ≡ count_up old.names count

-- Calls gave at most so many bytes and names.
pub record GaveAtMost (old : Seen) (most_bytes most_names : ℕ) (new : Seen) : Type 0 where
  pub bytes : new.bytes ≤ old.bytes + most_bytes
  pub names : new.names ≤ old.names + most_names

-- What a sink took, where that is told; how often it was asked; how often a call failed.
pub record Taken : Type 0 where
  pub bytes : Option (List ℕ)
  pub calls : ℕ
  pub faults : ℕ
