-- How data is printed.
use Rattle.std.specs.Prelude.{ℕ, zero, suc, ◌+◌, ◌||◌, Bool, true, false, List, [], ◌∷◌, ◌++◌, if◌then◌else◌, bytes_eq, codes}
use Rattle.pn_yaml.specs.Bytes.{space}
use Rattle.pn_yaml.specs.Data.{Data, scalar, list, map, Items, no_items, item, Members, no_members, member}
use Rattle.pn_yaml_print.specs.PrintedScalars.{word_text, is_plain}

abbrev pub key_text : Bool → List ℕ → List ℕ
key_text flow key = word_text flow key false ++ 58 ∷ []

-- data as a flow value, on one line
abbrev mutual
  pub flow_text : Data → List ℕ
  flow_text (scalar text plain) = word_text true text plain
  flow_text (list ds) = 91 ∷ (items_text ds ++ 93 ∷ [])
  flow_text (map ms) = 123 ∷ (members_text ms ++ 125 ∷ [])

  pub items_text : Items → List ℕ
  items_text no_items = []
  items_text (item d ds) = flow_text d ++ later_items_text ds

  pub later_items_text : Items → List ℕ
  later_items_text no_items = []
  later_items_text (item d ds) = 44 ∷ space ∷ (flow_text d ++ later_items_text ds)

  pub members_text : Members → List ℕ
  members_text no_members = []
  members_text (member k d ms) = key_text true k ++ space ∷ (flow_text d ++ later_members_text ms)

  pub later_members_text : Members → List ℕ
  later_members_text no_members = []
  later_members_text (member k d ms) = 44 ∷ space ∷ (key_text true k ++ space ∷ (flow_text d ++ later_members_text ms))

abbrev pub spaces : ℕ → List ℕ
spaces zero = []
spaces (suc n) = space ∷ spaces n

-- an item of a block list behind its `-`: a list or map in it is a flow
abbrev pub item_text : Data → List ℕ
item_text (scalar text plain) = word_text false text plain
item_text (list ds) = flow_text (list ds)
item_text (map ms) = flow_text (map ms)

-- the lines of a block list
abbrev pub items_lines : ℕ → Items → List ℕ
items_lines indent no_items = []
items_lines indent (item d ds) = spaces indent ++ 45 ∷ space ∷ (item_text d ++ 10 ∷ items_lines indent ds)

-- a map under this key is printed as a flow
abbrev pub is_flow_key : List ℕ → Bool
is_flow_key key = bytes_eq key (codes "resolution")

-- an empty line stands before each entry of a map under this key of the root
abbrev pub is_spread_key : List ℕ → Bool
is_spread_key key = bytes_eq key (codes "importers") || bytes_eq key (codes "packages") || bytes_eq key (codes "snapshots")

-- where the members of a block map stand: in the root behind the first one, in a map whose entries have empty lines
-- before them, or in another one
pub data Level : Type 0 where
  root : Level
  spread : Level
  dense : Level

abbrev pub gap : Level → List ℕ
gap root = 10 ∷ []
gap spread = 10 ∷ []
gap dense = []

-- where the members of a map under this key stand
abbrev pub below : Level → List ℕ → Level
below root key = if is_spread_key key then spread else dense
below spread key = dense
below dense key = dense

-- what stands behind a key's colon, from there to the end of the last line; and the lines of members
abbrev mutual
  pub value_lines : Level → Bool → ℕ → Data → List ℕ
  value_lines level flow indent (scalar text plain) = space ∷ (word_text false text plain ++ 10 ∷ [])
  value_lines level flow indent (list no_items) = codes " []\n"
  value_lines level flow indent (list (item d ds)) = 10 ∷ items_lines (2 + indent) (item d ds)
  value_lines level flow indent (map no_members) = codes " {}\n"
  value_lines level true indent (map (member k d ms)) = space ∷ (flow_text (map (member k d ms)) ++ 10 ∷ [])
  value_lines level false indent (map (member k d ms)) = 10 ∷ members_lines level (2 + indent) (member k d ms)

  pub members_lines : Level → ℕ → Members → List ℕ
  members_lines level indent no_members = []
  members_lines level indent (member k d ms) =
      gap level ++ spaces indent ++ key_text false k ++ value_lines (below level k) (is_flow_key k) indent d ++ members_lines level indent ms

-- a map as a whole text: no empty line stands before the first key
abbrev pub members_printed : Members → List ℕ
members_printed no_members = []
members_printed (member k d ms) = key_text false k ++ value_lines (below root k) (is_flow_key k) 0 d ++ members_lines root 0 ms

abbrev pub printed : Data → List ℕ
printed (scalar text plain) = []
printed (list ds) = []
printed (map ms) = members_printed ms

-- data as it is read back from a flow: each scalar is plain where it was printed plain
abbrev mutual
  pub flow_marked : Data → Data
  flow_marked (scalar text plain) = scalar text (is_plain true text plain)
  flow_marked (list ds) = list (flow_items_marked ds)
  flow_marked (map ms) = map (flow_members_marked ms)

  pub flow_items_marked : Items → Items
  flow_items_marked no_items = no_items
  flow_items_marked (item d ds) = item (flow_marked d) (flow_items_marked ds)

  pub flow_members_marked : Members → Members
  flow_members_marked no_members = no_members
  flow_members_marked (member k d ms) = member k (flow_marked d) (flow_members_marked ms)

abbrev pub item_marked : Data → Data
item_marked (scalar text plain) = scalar text (is_plain false text plain)
item_marked (list ds) = flow_marked (list ds)
item_marked (map ms) = flow_marked (map ms)

abbrev pub items_marked : Items → Items
items_marked no_items = no_items
items_marked (item d ds) = item (item_marked d) (items_marked ds)

-- the same of what stands in a block
abbrev mutual
  pub value_marked : Bool → Data → Data
  value_marked flow (scalar text plain) = scalar text (is_plain false text plain)
  value_marked flow (list ds) = list (items_marked ds)
  value_marked true (map ms) = flow_marked (map ms)
  value_marked false (map ms) = map (members_marked ms)

  pub members_marked : Members → Members
  members_marked no_members = no_members
  members_marked (member k d ms) = member k (value_marked (is_flow_key k) d) (members_marked ms)

-- a map as it is read back from its text
abbrev pub marked : Data → Data
marked d = value_marked false d
