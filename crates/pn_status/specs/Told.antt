-- What a sink took of a text.
use Rattle.std.specs.Prelude.{◌≡◌, ◌⊎◌, ◌≤◌, ℕ, List, length, take}
use Rattle.pn_text.specs.Causes.{count_after}
use Rattle.pn_fs.specs.Seen.{Taken}
use Rattle.pn_fs.specs.Takes.{told_more}

-- The sink was asked once, and took the text.
pub record TookAll (text : List ℕ) (old new : Taken) : Type 0 where
  pub asked : new.calls ≡ count_after old.calls
  pub all : new.bytes ≡ told_more old.bytes text

-- The sink was asked once, and took a front of the text or nothing.
pub record TookSome (text : List ℕ) (old new : Taken) : Type 0 where
  pub asked : new.calls ≡ count_after old.calls
  pub front : (new.bytes ≡ old.bytes) ⊎ ((k : ℕ) × (k ≤ length text) × (new.bytes ≡ told_more old.bytes (take k text)))
