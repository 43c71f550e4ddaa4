-- The members that are printed of fields and of lists.
use Rattle.std.specs.Prelude.{ℕ, List, [], ◌∷◌, Option, Some, None}
use Rattle.pn_yaml.specs.Data.{Data, map, Members, no_members, member}

-- a field, where it has a value
abbrev pub put : List ℕ → Option Data → Members → Members
put key None ms = ms
put key (Some d) ms = member key d ms

-- an entry for each of a list, under its key
abbrev pub entries : {A : Type 0} → (A → List ℕ) → (A → Data) → List A → Members
entries key write [] = no_members
entries key write (x ∷ xs) = member (key x) (write x) (entries key write xs)

-- the map of these entries, where there are some
abbrev pub filled : {A : Type 0} → (A → List ℕ) → (A → Data) → List A → Option Data
filled key write [] = None
filled key write (x ∷ xs) = Some (map (entries key write (x ∷ xs)))

-- members and more of them
abbrev pub joined : Members → Members → Members
joined no_members more = more
joined (member k d ms) more = member k d (joined ms more)
