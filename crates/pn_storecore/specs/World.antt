-- The world of a store: what stands at the addresses, and the temporary files.
use Rattle.std.specs.Prelude.{◌≢◌, ℕ, Bool, false, List, [], ◌∷◌, Option, None, nat_eq}
use Rattle.std.specs.Option.{option_map, option_and_then}
use Rattle.std.specs.Map.{update}
use Rattle.std.specs.Str.{bytes_eq}
use Rattle.pn_storecore.specs.declared.step.Place.{Place}
use Rattle.pn_storecore.specs.declared.step.Place.TheVariants.{Files, Listings}

-- A folder of temporary files: its owner, and the bytes of each file by its number.
pub record Temp : Type 0 where
  pub owner : ℕ
  pub files : ℕ → Option (List ℕ)

-- One place of addresses: the first bytes whose folders stand, and the bytes at each digest.
pub record Objects : Type 0 where
  pub shards : ℕ → Bool
  pub bytes : List ℕ → Option (List ℕ)

-- folders of temporary files by their numbers
abbrev pub Temps : Type 0
Temps = ℕ → Option Temp

-- The files, the listings, and the folders of temporary files.
pub record World : Type 0 where
  pub files : Objects
  pub listings : Objects
  pub temps : Temps

abbrev pub no_objects : Objects
no_objects = record { shards = λ first. false; bytes = λ at. None }

-- the store before the first step
abbrev pub empty : World
empty = record { files = no_objects; listings = no_objects; temps = λ k. None }

abbrev pub objects : World → Place → Objects
objects w Files = w.files
objects w Listings = w.listings

-- something stands at the address
abbrev pub Stands : Objects → List ℕ → Type 0
Stands o at = o.bytes at ≢ None

-- whose the number is
abbrev pub owner_of : World → ℕ → Option ℕ
owner_of w k = option_map (λ (t : Temp). t.owner) (w.temps k)

-- the bytes of a temporary file
abbrev pub file_of : Temps → ℕ → ℕ → Option (List ℕ)
file_of temps k n = option_and_then (λ (t : Temp). t.files n) (temps k)

abbrev pub content : World → ℕ → ℕ → Option (List ℕ)
content w k n = file_of w.temps k n

-- the first byte of an address, which its shard folder is named by
abbrev pub first_byte : List ℕ → ℕ
first_byte [] = 0
first_byte (b ∷ bs) = b

-- a folder without files
abbrev pub claimed_by : ℕ → Temp
claimed_by who = record { owner = who; files = λ n. None }

-- another folder of a number; `None` takes it away
abbrev pub put_temp : Temps → ℕ → Option Temp → Temps
put_temp temps k t = update nat_eq temps k t

-- the world with other folders
abbrev pub with_temps : World → Temps → World
with_temps w temps = record { files = w.files; listings = w.listings; temps = temps }

abbrev pub with_temp : World → ℕ → Option Temp → World
with_temp w k t = with_temps w (put_temp w.temps k t)

-- the folder with other bytes of a file; `None` takes the file away
abbrev pub with_file : ℕ → Option (List ℕ) → Temp → Temp
with_file n bytes t = record { owner = t.owner; files = update nat_eq t.files n bytes }

-- other bytes of a file, where its folder stands
abbrev pub put_file : Temps → ℕ → ℕ → Option (List ℕ) → Temps
put_file temps k n bytes = put_temp temps k (option_map (with_file n bytes) (temps k))

abbrev pub with_content : World → ℕ → ℕ → Option (List ℕ) → World
with_content w k n bytes = with_temps w (put_file w.temps k n bytes)

-- other bytes at an address; `None` takes them away
abbrev pub with_bytes : Objects → List ℕ → Option (List ℕ) → Objects
with_bytes o at bytes = record { shards = o.shards; bytes = update bytes_eq o.bytes at bytes }

-- the world with other objects at a place
abbrev pub with_objects : World → Place → Objects → World
with_objects w Files o = record { files = o; listings = w.listings; temps = w.temps }
with_objects w Listings o = record { files = w.files; listings = o; temps = w.temps }
