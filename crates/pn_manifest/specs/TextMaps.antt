-- Objects of texts: dependency maps, whose keys are package names, and others.
use Rattle.std.specs.Prelude.{ℕ, ◌&&◌, List, [], ◌∷◌, Bool, Option, is_some}
use Rattle.serde_json.specs.Data.{Data, null, boolean, number, string, array, object, Members, no_members, member}
use Rattle.serde_json.specs.Find.{as_str}
use Rattle.pn_text.specs.Name.{is_name}
use Rattle.pn_manifest.specs.Pairs.{Pair}
use Rattle.pn_manifest.specs.Values.{Spot, members_in, wrong_object}

-- any key, and a text under it
abbrev pub is_entry : List ℕ → Data → Bool
is_entry k d = is_some (as_str d)

-- a package name, and a text under it
abbrev pub is_dependency : List ℕ → Data → Bool
is_dependency k d = is_name k && is_some (as_str d)

-- an object of texts, or nothing
abbrev pub wrong_texts : List ℕ → Option Data → Option Spot
wrong_texts key f = wrong_object key is_entry f

-- an object of texts under package names, or nothing
abbrev pub wrong_map : List ℕ → Option Data → Option Spot
wrong_map key f = wrong_object key is_dependency f

abbrev pub pair_with : List ℕ → Data → List Pair → List Pair
pair_with k null rest = rest
pair_with k (boolean b) rest = rest
pair_with k (number n) rest = rest
pair_with k (string s) rest = (k, s) ∷ rest
pair_with k (array ds) rest = rest
pair_with k (object ms) rest = rest

-- keys with the texts under them
abbrev pub pairs : Members → List Pair
pairs no_members = []
pairs (member k d ms) = pair_with k d (pairs ms)

abbrev pub map_field : Option Data → List Pair
map_field f = pairs (members_in f)
