-- The values of fields, and what is wrong with one.
use Rattle.std.specs.Prelude.{ℕ, List, [], Bool, true, false, Option, Some, None, option_and_then, option_map, unwrap_or, if◌then◌else◌}
use Rattle.serde_json.specs.Data.{Data, null, boolean, number, string, array, object, no_items, item, Members, no_members, member}
use Rattle.serde_json.specs.Find.{get, as_object}

-- absent, `null` and an empty list count as nothing
abbrev pub filled : Option Data → Option Data
filled None = None
filled (Some null) = None
filled (Some (boolean b)) = Some (boolean b)
filled (Some (number n)) = Some (number n)
filled (Some (string s)) = Some (string s)
filled (Some (array no_items)) = None
filled (Some (array (item d ds))) = Some (array (item d ds))
filled (Some (object ms)) = Some (object ms)

-- the value of a field, where it is something
abbrev pub field : List ℕ → Data → Option Data
field key d = filled (get key d)

-- a field, and a key in it; an empty key for the field itself
abbrev pub Spot : Type 0
Spot = List ℕ × List ℕ

abbrev pub or_else : {A : Type 0} → Option A → Option A → Option A
or_else (Some a) b = Some a
or_else None b = b

-- a text of the right form, or nothing
abbrev pub is_text_field : (List ℕ → Bool) → Option Data → Bool
is_text_field good None = true
is_text_field good (Some null) = false
is_text_field good (Some (boolean b)) = false
is_text_field good (Some (number n)) = false
is_text_field good (Some (string s)) = good s
is_text_field good (Some (array ds)) = false
is_text_field good (Some (object ms)) = false

abbrev pub text_field : Option Data → Option (List ℕ)
text_field None = None
text_field (Some null) = None
text_field (Some (boolean b)) = None
text_field (Some (number n)) = None
text_field (Some (string s)) = Some s
text_field (Some (array ds)) = None
text_field (Some (object ms)) = None

abbrev pub wrong_text : List ℕ → (List ℕ → Bool) → Option Data → Option Spot
wrong_text key good f = if is_text_field good f then None else Some (key, [])

-- the members of an object; none where it is something else
abbrev pub members_in : Option Data → Members
members_in f = unwrap_or (option_and_then as_object f) no_members

-- the first key whose member isn't right
abbrev pub first_bad : (List ℕ → Data → Bool) → Members → Option (List ℕ)
first_bad right no_members = None
first_bad right (member k d ms) = if right k d then first_bad right ms else Some k

abbrev pub wrong_member : List ℕ → (List ℕ → Data → Bool) → Option Members → Option Spot
wrong_member key right None = Some (key, [])
wrong_member key right (Some ms) = option_map (λ k. (key, k)) (first_bad right ms)

-- an object whose members are right, or nothing
abbrev pub wrong_object : List ℕ → (List ℕ → Data → Bool) → Option Data → Option Spot
wrong_object key right None = None
wrong_object key right (Some d) = wrong_member key right (as_object d)
