-- What a manifest says, in the subject's own words.
use Rattle.std.specs.Prelude.{◌≡◌, ℕ, List, [], ◌∷◌, Bool, true, false, Option, Some, None, codes, option_and_then, unwrap_or, if◌then◌else◌}
use Rattle.std.specs.List.{Contains, list_any}
use Rattle.std.specs.Str.{bytes_eq}
use Rattle.serde_json.specs.Data.{Data}
use Rattle.serde_json.specs.Find.{as_bool, as_str, get}
use Rattle.pn_manifest.specs.Commands.{last_part}
use Rattle.pn_manifest.specs.Fields.{first_wrong, name_of, said}
use Rattle.pn_manifest.specs.Overrides.{overrides_in}
use Rattle.pn_manifest.specs.Pairs.{Pair}
use Rattle.pn_manifest.specs.Said.{Peer}
use Rattle.pn_manifest.specs.Text.{IsObjectText}
use Rattle.pn_manifest.specs.Values.{field, text_field}

-- what the object in a field has under a key
abbrev pub under : List ℕ → Option Data → Option Data
under k f = option_and_then (get k) f

-- the text that it has there
abbrev pub text_in : List ℕ → Option Data → Option (List ℕ)
text_in k f = option_and_then as_str (under k f)

-- whether it has an object there whose flag is true
abbrev pub has_flag_in : List ℕ → List ℕ → Option Data → Bool
has_flag_in flag name f = unwrap_or (option_and_then as_bool (under flag (under name f))) false

abbrev pub text_of : List ℕ → List Pair → Option (List ℕ)
text_of k [] = None
text_of k (p ∷ ps) = if bytes_eq k p.0 then Some p.1 else text_of k ps

abbrev pub peer_of : List ℕ → List Peer → Option Peer
peer_of name [] = None
peer_of name (p ∷ ps) = if bytes_eq name p.name then Some p else peer_of name ps

-- a peer by the text that it is declared with, and whether it is said to be optional
abbrev pub peer_by : List ℕ → Option (List ℕ) → Bool → Option Peer
peer_by name (Some text) optional = Some record { name = name; text = text; optional = optional }
peer_by name None true = Some record { name = name; text = codes "*"; optional = true }
peer_by name None false = None

-- Each list says of each key what the object in its field has under it. A text as `bin` is the one command of a package
-- with a name.
pub record IsSaid (d : Data) : Type 0 where
  pub dependencies : (k : List ℕ) → text_of k (said d).dependencies ≡ text_in k (field (codes "dependencies") d)
  pub dev : (k : List ℕ) → text_of k (said d).dev ≡ text_in k (field (codes "devDependencies") d)
  pub optional : (k : List ℕ) → text_of k (said d).optional ≡ text_in k (field (codes "optionalDependencies") d)
  pub peers : (k : List ℕ) → peer_of k (said d).peers ≡ peer_by k (text_in k (field (codes "peerDependencies") d)) (has_flag_in (codes "optional") k (field (codes "peerDependenciesMeta") d))
  pub scripts : (k : List ℕ) → text_of k (said d).scripts ≡ text_in k (field (codes "scripts") d)
  pub bins : (k : List ℕ) → text_field (field (codes "bin") d) ≡ None → text_of k (said d).bins ≡ text_in k (field (codes "bin") d)
  pub own_bin : (name path : List ℕ) → name_of d ≡ Some name → text_field (field (codes "bin") d) ≡ Some path → (said d).bins ≡ (last_part name, path) ∷ []
  pub injected : (k : List ℕ) → list_any (bytes_eq k) (said d).injected ≡ has_flag_in (codes "injected") k (field (codes "dependenciesMeta") d)
  pub overrides : (k : List ℕ) → text_of k (said d).overrides ≡ text_in k (overrides_in (field (codes "pnpm") d))

-- the fields that are read
abbrev pub read_fields : List (List ℕ)
read_fields =
    codes "name" ∷ codes "version" ∷ codes "dependencies" ∷ codes "devDependencies" ∷ codes "optionalDependencies" ∷ codes "peerDependencies" ∷ codes "scripts" ∷ codes "bin"
    ∷ codes "peerDependenciesMeta" ∷ codes "dependenciesMeta" ∷ codes "pnpm" ∷ []

-- A text's object says what its fields have; all other fields are passed over.
pub record ManifestLaw : Type 0 where
  pub each : (bytes : List ℕ) (d : Data) → IsObjectText bytes d → IsSaid d
  pub passed : (d e : Data) → ((f : List ℕ) → Contains read_fields f → get f d ≡ get f e) → (first_wrong d ≡ first_wrong e) × (said d ≡ said e)
