-- Laws of the settings in the subject's own words.
use Rattle.std.specs.Prelude.{◌≡◌, ◌≢◌, ◌↔◌, ℕ, List, [], ◌∷◌, ◌++◌, Bool, true, false, IsTrue, Option, Some, None, MatchOption, if◌then◌else◌, codes}
use Rattle.std.specs.Option.{option_or}
use Rattle.std.specs.Str.{bytes_eq}
use Rattle.pn_glob.specs.Matching.{Patterns}
use Rattle.pn_text.specs.Path.{Path, SpellsAbs, SpellsParts, is_flat, is_part, is_path}
use Rattle.pn_text.specs.Relative.{parent_of}
use Rattle.pn_yaml.specs.Data.{Data, map, Members, no_members, member}
use Rattle.pn_config.specs.declared.config.Config.{Config}
use Rattle.pn_config.specs.declared.key.Key.TheVariants as key
use Rattle.pn_config.specs.CatalogTexts.{HasTexts}
use Rattle.pn_config.specs.Files.{NamesBad, ReadsConfig, joined}
use Rattle.pn_config.specs.Folders.{resolved}
use Rattle.pn_config.specs.Keys.{key_of, only_value}
use Rattle.pn_config.specs.Settings.{SaysNames, SaysPaths, all_names, no_names, no_paths}
use Rattle.pn_config.specs.Values.{Pair, filled_text, flag_of, pairs_of}

-- A file has at most one answer, memory aside: one value or one bad key, and never both.
pub record AnswerLaw : Type 0 where
  pub value : (file : Option Data) (root : List Pair) (c e : Config) → ReadsConfig file root c → ReadsConfig file root e → c ≡ e
  pub named : (file : Option Data) (k l : List ℕ) → NamesBad file k → NamesBad file l → k ≡ l
  pub either : (file : Option Data) (root : List Pair) (c : Config) (k : List ℕ) → ReadsConfig file root c → NamesBad file k → ⊥

-- members before others
abbrev pub onto : Members → Members → Members
onto no_members back = back
onto (member k d ms) back = member k d (onto ms back)

abbrev pub file_with : Members → Members → Option Data
file_with front back = Some (map (onto front back))

-- A key that says nothing and may have any value changes nothing, wherever it stands.
pub record PassedLaw : Type 0 where
  pub value : (front back : Members) (k : List ℕ) (d : Data) (root : List Pair) (c : Config) → key_of k ≡ key.Other → only_value k ≡ None
      → ReadsConfig (file_with front (member k d back)) root c ↔ ReadsConfig (file_with front back) root c
  pub named : (front back : Members) (k : List ℕ) (d : Data) (bad : List ℕ) → key_of k ≡ key.Other → only_value k ≡ None
      → NamesBad (file_with front (member k d back)) bad ↔ NamesBad (file_with front back) bad

-- the last value under a key; a file has at most one
abbrev pub under : List ℕ → Members → Option Data
under k no_members = None
under k (member l d ms) = option_or (under k ms) (if bytes_eq l k then Some d else None)

-- A setting is what its key's value says, or the default where there is none.
abbrev pub Settles : Members → List ℕ → Type 0 → (Data → Type 0) → Type 0
Settles ms k Default Said = MatchOption (under k ms) Default Said

abbrev pub IsFlag : Members → List ℕ → Bool → Bool → Type 0
IsFlag ms k default b = Settles ms k (b ≡ default) (λ d. flag_of d ≡ Some b)

abbrev pub ArePublic : Members → Bool → Patterns → Type 0
ArePublic ms true l = l ≡ all_names
ArePublic ms false l = Settles ms (codes "publicHoistPattern") (l ≡ no_names) (λ d. SaysNames d l)

-- Each setting is settled by its key alone, public hoisting and the catalogs by two.
pub record AreSettled (ms : Members) (root : List Pair) (c : Config) : Type 0 where
  pub packages : Settles ms (codes "packages") (c.packages ≡ no_paths) (λ d. SaysPaths d c.packages)
  pub auto_install_peers : IsFlag ms (codes "autoInstallPeers") true c.auto_install_peers
  pub strict : IsFlag ms (codes "strictPeerDependencies") false c.strict
  pub from_root : IsFlag ms (codes "resolvePeersFromWorkspaceRoot") true c.from_root
  pub hoist : IsFlag ms (codes "hoist") true c.hoist
  pub hoist_pattern : Settles ms (codes "hoistPattern") (c.hoist_pattern ≡ all_names) (λ d. SaysNames d c.hoist_pattern)
  pub shamefully : Bool
  pub shamefully_is : IsFlag ms (codes "shamefullyHoist") false shamefully
  pub public_hoist_pattern : ArePublic ms shamefully c.public_hoist_pattern
  pub virtual_text : Settles ms (codes "virtualStoreDir") (c.virtual_text ≡ codes "node_modules/.pnpm") (λ d. filled_text d ≡ Some c.virtual_text)
  pub pairs : List Pair
  pub pairs_are : Settles ms (codes "overrides") (pairs ≡ []) (λ d. pairs_of d ≡ Some pairs)
  pub overrides : c.overrides ≡ joined root pairs
  pub catalogs : HasTexts ms c.catalogs

abbrev pub SettledLaw : Type 0
SettledLaw = (ms : Members) (root : List Pair) (c : Config) → ReadsConfig (Some (map ms)) root c → AreSettled ms root c

-- the text under a selector, and the last one
abbrev pub text_at : List ℕ → List Pair → Option (List ℕ)
text_at selector [] = None
text_at selector (p ∷ ps) = if bytes_eq p.0 selector then Some p.1 else text_at selector ps

abbrev pub last_text : List ℕ → List Pair → Option (List ℕ)
last_text selector [] = None
last_text selector (p ∷ ps) = option_or (last_text selector ps) (if bytes_eq p.0 selector then Some p.1 else None)

-- Where the file has a selector its text counts, and else that of the root manifest.
abbrev pub JoinLaw : Type 0
JoinLaw = (root file : List Pair) (selector : List ℕ) → text_at selector (joined root file) ≡ option_or (last_text selector file) (last_text selector root)

-- Where the text of the virtual store's folder leads. The first six settle each text, by its last part; the others say what
-- follows of paths' own texts.
pub record ResolvedLaw : Type 0 where
  pub absolute : (text : List ℕ) (root : Path) → resolved (47 ∷ text) root ≡ resolved (46 ∷ 47 ∷ text) []
  pub last : (text part : List ℕ) (root : Path) → text ≢ [] → IsTrue (is_flat part) → resolved (text ++ 47 ∷ part) root ≡ resolved part (resolved text root)
  pub empty : (root : Path) → resolved [] root ≡ root
  pub here : (root : Path) → resolved (codes ".") root ≡ root
  pub up : (root : Path) → resolved (codes "..") root ≡ parent_of root
  pub down : (part : List ℕ) (root : Path) → IsTrue (is_part part) → resolved part root ≡ part ∷ root
  pub own : (text : List ℕ) (p root : Path) → SpellsAbs text p → resolved text root ≡ p
  pub below : (text : List ℕ) (p root : Path) → SpellsParts text p → resolved text root ≡ p ++ root
  pub path : (text : List ℕ) (root : Path) → IsTrue (is_path root) → IsTrue (is_path (resolved text root))
