-- What a manifest says.
use Rattle.std.specs.Prelude.{◌≡◌, ℕ, List, None, option_map}
use Rattle.serde_json.specs.Data.{Data}
use Rattle.semver.specs.Identifiers.{parts_of}
use Rattle.pn_manifest.specs.Fields.{first_wrong, said}
use Rattle.pn_manifest.specs.Said.{Said}
use Rattle.pn_manifest.specs.Text.{IsObjectText}
use Rattle.pn_manifest.specs.declared.manifest.Manifest.{Manifest}

-- what contracts see of a manifest
abbrev pub said_of : Manifest → Said
said_of m = record {
  name = m.name;
  version = option_map parts_of m.version;
  dependencies = m.dependencies;
  dev = m.dev;
  optional = m.optional;
  peers = m.peers;
  scripts = m.scripts;
  bins = m.bins;
  injected = m.injected;
  overrides = m.overrides;
}

-- The manifest that the bytes say; nothing in it is wrong.
pub record Reads (bytes : List ℕ) (m : Manifest) : Type 0 where
  pub value : Data
  pub text : IsObjectText bytes value
  pub right : first_wrong value ≡ None
  pub says : said_of m ≡ said value
