-- What each key says, and the settings after it.
use Rattle.std.specs.Prelude.{◌≡◌, ◌≢◌, ◌⊎◌, ℕ, List, [], ◌∷◌, Bool, true, false, ◌&&◌, ◌||◌, Some, None, codes}
use Rattle.pn_glob.specs.declared.fault.GlobFault.{GlobFault}
use Rattle.pn_glob.specs.declared.fault.GlobFault.TheVariants as glob
use Rattle.pn_glob.specs.declared.kind.Kind.TheVariants.{Paths, Names}
use Rattle.pn_glob.specs.Lists.{AreNames, ArePaths, Refused}
use Rattle.pn_glob.specs.Matching.{Patterns}
use Rattle.pn_spec.specs.declared.entry.CatalogEntry.{CatalogEntry}
use Rattle.pn_yaml.specs.Data.{Data}
use Rattle.pn_config.specs.declared.key.Key.{Key}
use Rattle.pn_config.specs.declared.key.Key.TheVariants as key
use Rattle.pn_config.specs.declared.settings.Settings.{Settings}
use Rattle.pn_config.specs.Keys.{only_value}
use Rattle.pn_config.specs.Values.{Pair, filled_text, flag_of, is_allowed, pairs_of, texts_of}
use Rattle.pn_config.specs.CatalogValues.{AreCatalogsOf, AreNoCatalogs, IsCatalogOf, IsNoCatalog, names_default, puts}

-- what a value says as patterns of paths, and when it says none
abbrev pub SaysPaths : Data → Patterns → Type 0
SaysPaths d l = (texts : List (List ℕ)) × (texts_of d ≡ Some texts) × ArePaths texts l

abbrev pub SaysNoPaths : Data → Type 0
SaysNoPaths d = (texts_of d ≡ None) ⊎ ((texts : List (List ℕ)) × (e : GlobFault) × (texts_of d ≡ Some texts) × (e ≢ glob.Memory) × Refused Paths texts e)

-- the same as patterns of names
abbrev pub SaysNames : Data → Patterns → Type 0
SaysNames d l = (texts : List (List ℕ)) × (texts_of d ≡ Some texts) × AreNames texts l

abbrev pub SaysNoNames : Data → Type 0
SaysNoNames d = (texts_of d ≡ None) ⊎ ((texts : List (List ℕ)) × (e : GlobFault) × (texts_of d ≡ Some texts) × (e ≢ glob.Memory) × Refused Names texts e)

-- what may be said under a key
abbrev pub Value : Key → Type 0
Value key.Packages = Patterns
Value key.Catalog = List CatalogEntry
Value key.Catalogs = List CatalogEntry
Value key.Overrides = List Pair
Value key.AutoInstallPeers = Bool
Value key.StrictPeerDependencies = Bool
Value key.ResolvePeersFromWorkspaceRoot = Bool
Value key.Hoist = Bool
Value key.HoistPattern = Patterns
Value key.PublicHoistPattern = Patterns
Value key.ShamefullyHoist = Bool
Value key.VirtualStoreDir = List ℕ
Value key.Other = Unit {0}

-- what a value says under a key; `k` is the key's text
abbrev pub Says : (key : Key) → List ℕ → Data → Value key → Type 0
Says key.Packages k d l = SaysPaths d l
Says key.Catalog k d es = IsCatalogOf (codes "default") d es
Says key.Catalogs k d es = AreCatalogsOf d es
Says key.Overrides k d ps = pairs_of d ≡ Some ps
Says key.AutoInstallPeers k d b = flag_of d ≡ Some b
Says key.StrictPeerDependencies k d b = flag_of d ≡ Some b
Says key.ResolvePeersFromWorkspaceRoot k d b = flag_of d ≡ Some b
Says key.Hoist k d b = flag_of d ≡ Some b
Says key.HoistPattern k d l = SaysNames d l
Says key.PublicHoistPattern k d l = SaysNames d l
Says key.ShamefullyHoist k d b = flag_of d ≡ Some b
Says key.VirtualStoreDir k d t = filled_text d ≡ Some t
Says key.Other k d u = is_allowed (only_value k) d ≡ true

-- when it says nothing that the key may have
abbrev pub SaysNothing : Key → List ℕ → Data → Type 0
SaysNothing key.Packages k d = SaysNoPaths d
SaysNothing key.Catalog k d = IsNoCatalog d
SaysNothing key.Catalogs k d = AreNoCatalogs d
SaysNothing key.Overrides k d = pairs_of d ≡ None
SaysNothing key.AutoInstallPeers k d = flag_of d ≡ None
SaysNothing key.StrictPeerDependencies k d = flag_of d ≡ None
SaysNothing key.ResolvePeersFromWorkspaceRoot k d = flag_of d ≡ None
SaysNothing key.Hoist k d = flag_of d ≡ None
SaysNothing key.HoistPattern k d = SaysNoNames d
SaysNothing key.PublicHoistPattern k d = SaysNoNames d
SaysNothing key.ShamefullyHoist k d = flag_of d ≡ None
SaysNothing key.VirtualStoreDir k d = filled_text d ≡ None
SaysNothing key.Other k d = is_allowed (only_value k) d ≡ false

-- whether a key gives the catalog `default`
abbrev pub gives_default : Key → Data → Bool
gives_default key.Catalog d = true
gives_default key.Catalogs d = names_default d
gives_default _ d = false

-- the settings after a key; the value says what stands there
abbrev pub put : (key : Key) → Data → Value key → Settings → Settings
put key.Packages d l s = record s { packages = l }
put key.Catalog d es s = record s { catalogs = puts es s.catalogs; has_default = true }
put key.Catalogs d es s = record s { catalogs = puts es s.catalogs; has_default = s.has_default || names_default d }
put key.Overrides d ps s = record s { overrides = ps }
put key.AutoInstallPeers d b s = record s { auto_install_peers = b }
put key.StrictPeerDependencies d b s = record s { strict = b }
put key.ResolvePeersFromWorkspaceRoot d b s = record s { from_root = b }
put key.Hoist d b s = record s { hoist = b }
put key.HoistPattern d l s = record s { hoist_pattern = l }
put key.PublicHoistPattern d l s = record s { public_hoist_pattern = l }
put key.ShamefullyHoist d b s = record s { shamefully = b }
put key.VirtualStoreDir d t s = record s { virtual_text = t }
put key.Other d u s = s

-- Between two keys the settings change by what the value says; no second key gives the catalog `default`.
pub record Takes (key : Key) (k : List ℕ) (d : Data) (old new : Settings) : Type 0 where
  pub value : Value key
  pub says : Says key k d value
  pub once : (old.has_default && gives_default key d) ≡ false
  pub new_is : new ≡ put key d value old

-- a key is bad: its value says nothing that it may have, or it is the second that gives the catalog `default`
abbrev pub IsBad : Key → List ℕ → Data → Settings → Type 0
IsBad key k d s = SaysNothing key k d ⊎ ((s.has_default && gives_default key d) ≡ true)

-- the settings of a file without keys
abbrev pub no_paths : Patterns
no_paths = record { kind = Paths; positive = []; negative = [] }

abbrev pub no_names : Patterns
no_names = record { kind = Names; positive = []; negative = [] }

abbrev pub all_names : Patterns
all_names = record { kind = Names; positive = (42 ∷ []) ∷ []; negative = [] }

abbrev pub default_settings : Settings
default_settings = record {
  packages = no_paths;
  catalogs = [];
  has_default = false;
  overrides = [];
  auto_install_peers = true;
  strict = false;
  from_root = true;
  hoist = true;
  hoist_pattern = all_names;
  public_hoist_pattern = no_names;
  shamefully = false;
  virtual_text = codes "node_modules/.pnpm";
}
