-- The fields of a `package.json`.
use Rattle.std.specs.Prelude.{ℕ, List, Option, codes, option_and_then}
use Rattle.serde_json.specs.Data.{Data}
use Rattle.pn_text.specs.Ids.{is_version, parts_text}
use Rattle.pn_text.specs.Name.{is_name}
use Rattle.pn_manifest.specs.Commands.{bin_field, wrong_bin}
use Rattle.pn_manifest.specs.FlagMaps.{flag_field, wrong_flags}
use Rattle.pn_manifest.specs.Overrides.{overrides_in, wrong_overrides}
use Rattle.pn_manifest.specs.PeerLists.{peers_of}
use Rattle.pn_manifest.specs.Said.{Said}
pub use Rattle.pn_manifest.specs.TextMaps.{map_field, wrong_map, wrong_texts}
pub use Rattle.pn_manifest.specs.Values.{Spot, field, or_else, text_field, wrong_text}

-- the first wrong field and key, in the order of the fields and then of the keys
abbrev pub first_wrong : Data → Option Spot
first_wrong d =
    or_else (wrong_text (codes "name") is_name (field (codes "name") d))
    (or_else (wrong_text (codes "version") is_version (field (codes "version") d))
    (or_else (wrong_map (codes "dependencies") (field (codes "dependencies") d))
    (or_else (wrong_map (codes "devDependencies") (field (codes "devDependencies") d))
    (or_else (wrong_map (codes "optionalDependencies") (field (codes "optionalDependencies") d))
    (or_else (wrong_map (codes "peerDependencies") (field (codes "peerDependencies") d))
    (or_else (wrong_texts (codes "scripts") (field (codes "scripts") d))
    (or_else (wrong_bin (field (codes "bin") d))
    (or_else (wrong_flags (codes "peerDependenciesMeta") (codes "optional") (field (codes "peerDependenciesMeta") d))
    (or_else (wrong_flags (codes "dependenciesMeta") (codes "injected") (field (codes "dependenciesMeta") d))
    (wrong_overrides (field (codes "pnpm") d)))))))))))

abbrev pub name_of : Data → Option (List ℕ)
name_of d = text_field (field (codes "name") d)

abbrev pub version_of : Data → Option (List ℕ)
version_of d = text_field (field (codes "version") d)

-- what the object says
abbrev pub said : Data → Said
said d = record {
  name = name_of d;
  version = option_and_then parts_text (version_of d);
  dependencies = map_field (field (codes "dependencies") d);
  dev = map_field (field (codes "devDependencies") d);
  optional = map_field (field (codes "optionalDependencies") d);
  peers = peers_of (map_field (field (codes "peerDependencies") d)) (flag_field (codes "optional") (field (codes "peerDependenciesMeta") d));
  scripts = map_field (field (codes "scripts") d);
  bins = bin_field (name_of d) (field (codes "bin") d);
  injected = flag_field (codes "injected") (field (codes "dependenciesMeta") d);
  overrides = map_field (overrides_in (field (codes "pnpm") d));
}

-- the same, a few fields at a time

abbrev pub wrong_own : Data → Option Spot
wrong_own d =
    or_else (wrong_text (codes "name") is_name (field (codes "name") d))
    (wrong_text (codes "version") is_version (field (codes "version") d))

abbrev pub wrong_maps : Data → Option Spot
wrong_maps d =
    or_else (wrong_map (codes "dependencies") (field (codes "dependencies") d))
    (or_else (wrong_map (codes "devDependencies") (field (codes "devDependencies") d))
    (or_else (wrong_map (codes "optionalDependencies") (field (codes "optionalDependencies") d))
    (wrong_map (codes "peerDependencies") (field (codes "peerDependencies") d))))

abbrev pub wrong_commands : Data → Option Spot
wrong_commands d =
    or_else (wrong_texts (codes "scripts") (field (codes "scripts") d))
    (wrong_bin (field (codes "bin") d))

abbrev pub wrong_notes : Data → Option Spot
wrong_notes d =
    or_else (wrong_flags (codes "peerDependenciesMeta") (codes "optional") (field (codes "peerDependenciesMeta") d))
    (or_else (wrong_flags (codes "dependenciesMeta") (codes "injected") (field (codes "dependenciesMeta") d))
    (wrong_overrides (field (codes "pnpm") d)))
