-- Flow values: lists in brackets and maps in braces, on one line.
use Rattle.std.specs.Prelude.{ℕ, zero, suc, ◌||◌, Bool, not, List, [], ◌∷◌, length, Result, Ok, Err, if◌then◌else◌}
use Rattle.pn_yaml.specs.declared.fault.Why.TheVariants as why
use Rattle.pn_yaml.specs.declared.fault.YamlFault.{YamlFault}
use Rattle.pn_yaml.specs.declared.fault.YamlFault.TheVariants as fault
use Rattle.pn_yaml.specs.declared.scalar.Place.TheVariants as place
use Rattle.pn_yaml.specs.Bytes.{starts, tail_of, unindented, is_bare}
use Rattle.pn_yaml.specs.Data.{Data, scalar, list, map, Items, no_items, item, Members, no_members, member, is_among}
use Rattle.pn_yaml.specs.Outcome.{◌>>=◌, wrong}
use Rattle.pn_yaml.specs.Scalars.{word_at, is_colon}

-- what reads a value at the front of a text, and gives what is behind it
abbrev pub Reader : Type 0
Reader = List ℕ → Result (Data × List ℕ) YamlFault

-- behind a value: a comma, and then the rest of the flow; or the byte that closes it
abbrev pub behind_value : {A : Type 0} → ℕ → ℕ → A → (List ℕ → Result (A × List ℕ) YamlFault) → List ℕ → Result (A × List ℕ) YamlFault
behind_value line close end more text = if starts 44 text then more (tail_of text) else if starts close text then Ok (end, tail_of text)
    else wrong line why.Flow

-- an item or a member before those that are read behind it
abbrev pub with_item : {Rest : Type 0} → Data → Result (Items × Rest) YamlFault → Result (Items × Rest) YamlFault
with_item d (Ok r) = Ok (item d r.0, r.1)
with_item d (Err e) = Err e

abbrev pub with_member : {Rest : Type 0} → List ℕ → Data → Result (Members × Rest) YamlFault → Result (Members × Rest) YamlFault
with_member k d (Ok r) = Ok (member k d r.0, r.1)
with_member k d (Err e) = Err e

-- the list or the map of what is read
abbrev pub list_in : {Rest : Type 0} → Result (Items × Rest) YamlFault → Result (Data × Rest) YamlFault
list_in (Ok r) = Ok (list r.0, r.1)
list_in (Err e) = Err e

abbrev pub map_in : {Rest : Type 0} → Result (Members × Rest) YamlFault → Result (Data × Rest) YamlFault
map_in (Ok r) = Ok (map r.0, r.1)
map_in (Err e) = Err e

-- the items of a list, behind `[` or a comma, in at most so many steps
abbrev pub flow_items : Reader → ℕ → ℕ → List ℕ → Result (Items × List ℕ) YamlFault
flow_items value line zero text = wrong line why.Flow
flow_items value line (suc steps) text = if is_bare text then wrong line why.Flow
    else if starts 93 (unindented text) then Ok (no_items, tail_of (unindented text))
    else value (unindented text) >>= λ v. with_item v.0 (behind_value line 93 no_items (flow_items value line steps) (unindented v.1))

-- the value behind a key's colon
abbrev pub flow_value : Reader → ℕ → List ℕ → Result (Data × List ℕ) YamlFault
flow_value value line text = if is_bare text then wrong line why.Flow else value (unindented text)

-- the text begins a flow
abbrev pub is_flow : List ℕ → Bool
is_flow text = starts 91 text || starts 123 text

-- a key and what is behind its colon, where these keys stand before it; no flow is a key
abbrev pub flow_key : ℕ → List (List ℕ) → List ℕ → Result (List ℕ × List ℕ) YamlFault
flow_key line seen text = if is_flow text then wrong line why.Flow else word_at place.Flow line text >>= λ k.
    if not (is_colon k.1) then wrong line why.Flow
    else if is_among k.0.text seen then wrong line why.Twice
    else Ok (k.0.text, tail_of k.1)

-- a key and its value
abbrev pub flow_member : Reader → ℕ → List (List ℕ) → List ℕ → Result ((List ℕ × Data) × List ℕ) YamlFault
flow_member value line seen text = flow_key line seen text >>= λ k. flow_value value line k.1 >>= λ v. Ok ((k.0, v.0), v.1)

-- the members of a map, behind `{` or a comma, in at most so many steps
abbrev pub flow_members : Reader → ℕ → ℕ → List (List ℕ) → List ℕ → Result (Members × List ℕ) YamlFault
flow_members value line zero seen text = wrong line why.Flow
flow_members value line (suc steps) seen text = if is_bare text then wrong line why.Flow
    else if starts 125 (unindented text) then Ok (no_members, tail_of (unindented text))
    else flow_member value line seen (unindented text) >>= λ m.
    with_member m.0.0 m.0.1 (behind_value line 125 no_members (flow_members value line steps (m.0.0 ∷ seen)) (unindented m.1))

-- a value in a flow, or a flow, at the front of a text, where so many levels are left; and what is behind it
abbrev pub flow_at : ℕ → ℕ → List ℕ → Result (Data × List ℕ) YamlFault
flow_at zero line text = Err fault.TooDeep
flow_at (suc levels) line text =
    if starts 91 text then list_in (flow_items (flow_at levels line) line (length text) (tail_of text))
    else if starts 123 text then map_in (flow_members (flow_at levels line) line (length text) [] (tail_of text))
    else word_at place.Flow line text >>= λ w. Ok (scalar w.0.text w.0.plain, w.1)
