-- What a workspace file says, key by key in its order.
use Rattle.std.specs.Prelude.{◌≡◌, ◌⊎◌, ℕ, List, [], ◌∷◌, Option, Some, None, if◌then◌else◌}
use Rattle.std.specs.BTreeMap.{insert_entry}
use Rattle.std.specs.Cmp.Lexicographic.{slice_cmp}
use Rattle.std.specs.Ordering.{nat_cmp}
use Rattle.pn_yaml.specs.Data.{Data, scalar, list, map, Members, no_members, member}
use Rattle.pn_config.specs.declared.config.Config.{Config}
use Rattle.pn_config.specs.declared.settings.Settings.{Settings}
use Rattle.pn_config.specs.Keys.{key_of}
use Rattle.pn_config.specs.Settings.{IsBad, Takes, all_names, default_settings}
use Rattle.pn_config.specs.Values.{Pair}

-- the settings after these members, where none of them is bad
abbrev pub ReadsOn : Settings → Members → Settings → Type 0
ReadsOn s no_members t = t ≡ s
ReadsOn s (member k d ms) t = (u : Settings) × Takes (key_of k) k d s u × ReadsOn u ms t

-- the first bad key of these members
abbrev pub FirstBad : Settings → Members → List ℕ → Type 0
FirstBad s no_members bad = ⊥
FirstBad s (member k d ms) bad = (IsBad (key_of k) k d s × (bad ≡ k)) ⊎ ((u : Settings) × Takes (key_of k) k d s u × FirstBad u ms bad)

-- pairs put into a list in byte order of their first texts, a later one in place of an earlier one
abbrev pub put_pairs : List Pair → List Pair → List Pair
put_pairs [] into = into
put_pairs (p ∷ ps) into = put_pairs ps (insert_entry (slice_cmp nat_cmp) into p.0 p.1)

-- The file's overrides count before those of the root manifest.
abbrev pub joined : List Pair → List Pair → List Pair
joined root file = put_pairs file (put_pairs root [])

abbrev pub config_of : List Pair → Settings → Config
config_of root s = record {
  packages = s.packages;
  hoist_pattern = s.hoist_pattern;
  public_hoist_pattern = if s.shamefully then all_names else s.public_hoist_pattern;
  catalogs = s.catalogs;
  overrides = joined root s.overrides;
  auto_install_peers = s.auto_install_peers;
  strict = s.strict;
  from_root = s.from_root;
  hoist = s.hoist;
  virtual_text = s.virtual_text;
}

-- the settings of a file; one that is absent says what one without keys does
abbrev pub ReadsFile : Option Data → Settings → Type 0
ReadsFile None s = ReadsOn default_settings no_members s
ReadsFile (Some (scalar text plain)) s = ⊥
ReadsFile (Some (list ds)) s = ⊥
ReadsFile (Some (map ms)) s = ReadsOn default_settings ms s

-- what a file says with the root manifest's overrides
abbrev pub ReadsConfig : Option Data → List Pair → Config → Type 0
ReadsConfig file root c = (s : Settings) × ReadsFile file s × (c ≡ config_of root s)

-- the key that a refusal names, empty where the file is no map
abbrev pub NamesBad : Option Data → List ℕ → Type 0
NamesBad None bad = ⊥
NamesBad (Some (scalar text plain)) bad = bad ≡ []
NamesBad (Some (list ds)) bad = bad ≡ []
NamesBad (Some (map ms)) bad = FirstBad default_settings ms bad
