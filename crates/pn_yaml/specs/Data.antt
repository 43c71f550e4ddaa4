-- What a text of the YAML subset says: scalars, lists and maps.
use Rattle.std.specs.Prelude.{ℕ, suc, max, List, [], ◌∷◌, Bool, true, false, ◌&&◌, ◌||◌, not, bytes_eq}

mutual
  pub data Data : Type 0 where
    scalar : List ℕ → Bool → Data  -- its text, and whether it is written plain
    list : Items → Data
    map : Members → Data

  pub data Items : Type 0 where
    no_items : Items
    item : Data → Items → Items

  pub data Members : Type 0 where
    no_members : Members
    member : List ℕ → Data → Members → Members

-- how deep scalars, lists and maps are nested
abbrev mutual
  pub depth : Data → ℕ
  depth (scalar text plain) = 1
  depth (list ds) = suc (items_depth ds)
  depth (map ms) = suc (members_depth ms)

  pub items_depth : Items → ℕ
  items_depth no_items = 0
  items_depth (item d ds) = max (depth d) (items_depth ds)

  pub members_depth : Members → ℕ
  members_depth no_members = 0
  members_depth (member k d ms) = max (depth d) (members_depth ms)

abbrev pub is_map : Data → Bool
is_map (map ms) = true
is_map d = false

-- whether a key is among keys
abbrev pub is_among : List ℕ → List (List ℕ) → Bool
is_among k [] = false
is_among k (l ∷ ls) = bytes_eq l k || is_among k ls

-- no map in it has a key twice; of members the keys before them count too
abbrev mutual
  pub are_apart : Data → Bool
  are_apart (scalar text plain) = true
  are_apart (list ds) = items_apart ds
  are_apart (map ms) = members_apart [] ms

  pub items_apart : Items → Bool
  items_apart no_items = true
  items_apart (item d ds) = are_apart d && items_apart ds

  pub members_apart : List (List ℕ) → Members → Bool
  members_apart seen no_members = true
  members_apart seen (member k d ms) = not (is_among k seen) && (are_apart d && members_apart (k ∷ seen) ms)
