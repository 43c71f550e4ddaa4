-- Each setting is settled by its key alone.
use Rattle.std.proofs.Common.{◌≡◌, ℕ, List, [], ◌∷◌, Bool, true, false, Some, None, refl, sym, ap, ◌∙◌, subst, inl, inr, codes}
use Rattle.std.specs.Prelude.{◌≢◌, ◌⊎◌, Option, MatchOption, if◌then◌else◌}
use Rattle.std.specs.List.{AllByRecursion}
use Rattle.std.specs.Option.{option_or}
use Rattle.std.specs.Str.{bytes_eq}
use Rattle.std.proofs.lemmas.Slice.Eq.{bytes_eq-Decides}
use Rattle.pn_glob.specs.Matching.{Patterns}
use Rattle.pn_yaml.specs.Data.{Data, Members, no_members, member}
use Rattle.pn_config.specs.declared.key.Key.{Key}
use Rattle.pn_config.specs.declared.key.Key.TheVariants as key
use Rattle.pn_config.specs.declared.settings.Settings.{Settings}
use Rattle.pn_config.specs.Files.{ReadsOn, config_of}
use Rattle.pn_config.specs.Keys.{in_table, key_of, keys}
use Rattle.pn_config.specs.Laws.{ArePublic, AreSettled, SettledLaw, under}
use Rattle.pn_config.specs.Settings.{SaysNames, SaysPaths, Takes, all_names, default_settings}
use Rattle.pn_config.specs.Values.{Pair, filled_text, flag_of, pairs_of}
use Rattle.pn_config.proofs.CatalogProofs.{has_texts}

abbrev name_of : Key → List ℕ
name_of key.Packages = codes "packages"
name_of key.Catalog = codes "catalog"
name_of key.Catalogs = codes "catalogs"
name_of key.Overrides = codes "overrides"
name_of key.AutoInstallPeers = codes "autoInstallPeers"
name_of key.StrictPeerDependencies = codes "strictPeerDependencies"
name_of key.ResolvePeersFromWorkspaceRoot = codes "resolvePeersFromWorkspaceRoot"
name_of key.Hoist = codes "hoist"
name_of key.HoistPattern = codes "hoistPattern"
name_of key.PublicHoistPattern = codes "publicHoistPattern"
name_of key.ShamefullyHoist = codes "shamefullyHoist"
name_of key.VirtualStoreDir = codes "virtualStoreDir"
name_of key.Other = []

-- each row of the table has its key's name
rows_named : AllByRecursion (λ (r : List ℕ × Key). r.0 ≡ name_of r.1) keys
rows_named = (refl, (refl, (refl, (refl, (refl, (refl, (refl, (refl, (refl, (refl, (refl, (refl, tt))))))))))))

found_named : (rows : List (List ℕ × Key)) → AllByRecursion (λ (r : List ℕ × Key). r.0 ≡ name_of r.1) rows → (k : List ℕ)
    → (in_table rows key.Other k ≡ key.Other) ⊎ (bytes_eq k (name_of (in_table rows key.Other k)) ≡ true)
found_named [] h k = inl refl
found_named (r ∷ rows) h k = at (bytes_eq k r.0) refl (found_named rows h.1 k) where
  at : (b : Bool) → bytes_eq k r.0 ≡ b → (in_table rows key.Other k ≡ key.Other) ⊎ (bytes_eq k (name_of (in_table rows key.Other k)) ≡ true)
      → ((if b then r.1 else in_table rows key.Other k) ≡ key.Other) ⊎ (bytes_eq k (name_of (if b then r.1 else in_table rows key.Other k)) ≡ true)
  at true is rest = inr (ap (bytes_eq k) (sym h.0) ∙ is)
  at false is rest = rest

named : (y : Key) (k : List ℕ) → y ≢ key.Other → key_of k ≡ y → bytes_eq k (name_of y) ≡ true
named y k some is = elim (found_named keys rows_named k) [
  | inl none ↦ absurd (some (sym is ∙ none))
  | inr hit ↦ ap (λ z. bytes_eq k (name_of z)) (sym is) ∙ hit
]

module _ {A : Type 0} (y : Key) (some : y ≢ key.Other) (is : key_of (name_of y) ≡ y) (field : Settings → A) (Said : Data → A → Type 0)
    (hit : (k : List ℕ) (d : Data) (s t : Settings) → Takes y k d s t → Said d (field t))
    (miss : (other : Key) (k : List ℕ) (d : Data) (s t : Settings) → other ≢ y → Takes other k d s t → field t ≡ field s) where
  -- a key's value, or what stood before
  settles : (ms : Members) (s t : Settings) → ReadsOn s ms t → MatchOption (under (name_of y) ms) (field t ≡ field s) (λ d. Said d (field t))
  settles no_members s t h = ap field h
  settles (member k d ms) s t (u, takes, rest) = at (under (name_of y) ms) (settles ms u t rest) (bytes_eq k (name_of y)) refl where
    at : (o : Option Data) → MatchOption o (field t ≡ field u) (λ e. Said e (field t)) → (b : Bool) → bytes_eq k (name_of y) ≡ b
        → MatchOption (option_or o (if b then Some d else None)) (field t ≡ field s) (λ e. Said e (field t))
    at (Some e) said b here = said
    at None same true here =
        let kind : key_of k ≡ y = ap key_of ((bytes_eq-Decides k (name_of y)).0 here) ∙ is in
        subst (λ x. Said d x) (sym same) (hit k d s u (subst (λ z. Takes z k d s u) kind takes))
    at None same false here = same ∙ miss (key_of k) k d s u (λ kind. let there = named y k some kind in cc (there, here)) takes

said_packages : (ms : Members) (s t : Settings) → ReadsOn s ms t → MatchOption (under (name_of key.Packages) ms) (t.packages ≡ s.packages) (λ d. SaysPaths d t.packages)
said_packages = settles key.Packages (λ e. cc e) refl (λ (s : Settings). s.packages) (λ (d : Data) (x : Patterns). SaysPaths d x)
    (λ k d s t h. subst (λ (x : Patterns). SaysPaths d x) (sym (ap (λ (x : Settings). x.packages) h.new_is)) h.says) miss where
      miss : (other : Key) (k : List ℕ) (d : Data) (s t : Settings) → other ≢ key.Packages → Takes other k d s t → t.packages ≡ s.packages
      miss key.Packages k d s t isnt h = absurd (isnt refl)
      miss _ k d s t isnt h = ap (λ (x : Settings). x.packages) h.new_is

said_overrides : (ms : Members) (s t : Settings) → ReadsOn s ms t → MatchOption (under (name_of key.Overrides) ms) (t.overrides ≡ s.overrides) (λ d. pairs_of d ≡ Some t.overrides)
said_overrides = settles key.Overrides (λ e. cc e) refl (λ (s : Settings). s.overrides) (λ (d : Data) (x : List Pair). pairs_of d ≡ Some x)
    (λ k d s t h. subst (λ (x : List Pair). pairs_of d ≡ Some x) (sym (ap (λ (x : Settings). x.overrides) h.new_is)) h.says) miss where
      miss : (other : Key) (k : List ℕ) (d : Data) (s t : Settings) → other ≢ key.Overrides → Takes other k d s t → t.overrides ≡ s.overrides
      miss key.Overrides k d s t isnt h = absurd (isnt refl)
      miss _ k d s t isnt h = ap (λ (x : Settings). x.overrides) h.new_is

said_auto_install_peers : (ms : Members) (s t : Settings) → ReadsOn s ms t → MatchOption (under (name_of key.AutoInstallPeers) ms) (t.auto_install_peers ≡ s.auto_install_peers) (λ d. flag_of d ≡ Some t.auto_install_peers)
said_auto_install_peers = settles key.AutoInstallPeers (λ e. cc e) refl (λ (s : Settings). s.auto_install_peers) (λ (d : Data) (x : Bool). flag_of d ≡ Some x)
    (λ k d s t h. subst (λ (x : Bool). flag_of d ≡ Some x) (sym (ap (λ (x : Settings). x.auto_install_peers) h.new_is)) h.says) miss where
      miss : (other : Key) (k : List ℕ) (d : Data) (s t : Settings) → other ≢ key.AutoInstallPeers → Takes other k d s t → t.auto_install_peers ≡ s.auto_install_peers
      miss key.AutoInstallPeers k d s t isnt h = absurd (isnt refl)
      miss _ k d s t isnt h = ap (λ (x : Settings). x.auto_install_peers) h.new_is

said_strict : (ms : Members) (s t : Settings) → ReadsOn s ms t → MatchOption (under (name_of key.StrictPeerDependencies) ms) (t.strict ≡ s.strict) (λ d. flag_of d ≡ Some t.strict)
said_strict = settles key.StrictPeerDependencies (λ e. cc e) refl (λ (s : Settings). s.strict) (λ (d : Data) (x : Bool). flag_of d ≡ Some x)
    (λ k d s t h. subst (λ (x : Bool). flag_of d ≡ Some x) (sym (ap (λ (x : Settings). x.strict) h.new_is)) h.says) miss where
      miss : (other : Key) (k : List ℕ) (d : Data) (s t : Settings) → other ≢ key.StrictPeerDependencies → Takes other k d s t → t.strict ≡ s.strict
      miss key.StrictPeerDependencies k d s t isnt h = absurd (isnt refl)
      miss _ k d s t isnt h = ap (λ (x : Settings). x.strict) h.new_is

said_from_root : (ms : Members) (s t : Settings) → ReadsOn s ms t → MatchOption (under (name_of key.ResolvePeersFromWorkspaceRoot) ms) (t.from_root ≡ s.from_root) (λ d. flag_of d ≡ Some t.from_root)
said_from_root = settles key.ResolvePeersFromWorkspaceRoot (λ e. cc e) refl (λ (s : Settings). s.from_root) (λ (d : Data) (x : Bool). flag_of d ≡ Some x)
    (λ k d s t h. subst (λ (x : Bool). flag_of d ≡ Some x) (sym (ap (λ (x : Settings). x.from_root) h.new_is)) h.says) miss where
      miss : (other : Key) (k : List ℕ) (d : Data) (s t : Settings) → other ≢ key.ResolvePeersFromWorkspaceRoot → Takes other k d s t → t.from_root ≡ s.from_root
      miss key.ResolvePeersFromWorkspaceRoot k d s t isnt h = absurd (isnt refl)
      miss _ k d s t isnt h = ap (λ (x : Settings). x.from_root) h.new_is

said_hoist : (ms : Members) (s t : Settings) → ReadsOn s ms t → MatchOption (under (name_of key.Hoist) ms) (t.hoist ≡ s.hoist) (λ d. flag_of d ≡ Some t.hoist)
said_hoist = settles key.Hoist (λ e. cc e) refl (λ (s : Settings). s.hoist) (λ (d : Data) (x : Bool). flag_of d ≡ Some x)
    (λ k d s t h. subst (λ (x : Bool). flag_of d ≡ Some x) (sym (ap (λ (x : Settings). x.hoist) h.new_is)) h.says) miss where
      miss : (other : Key) (k : List ℕ) (d : Data) (s t : Settings) → other ≢ key.Hoist → Takes other k d s t → t.hoist ≡ s.hoist
      miss key.Hoist k d s t isnt h = absurd (isnt refl)
      miss _ k d s t isnt h = ap (λ (x : Settings). x.hoist) h.new_is

said_hoist_pattern : (ms : Members) (s t : Settings) → ReadsOn s ms t → MatchOption (under (name_of key.HoistPattern) ms) (t.hoist_pattern ≡ s.hoist_pattern) (λ d. SaysNames d t.hoist_pattern)
said_hoist_pattern = settles key.HoistPattern (λ e. cc e) refl (λ (s : Settings). s.hoist_pattern) (λ (d : Data) (x : Patterns). SaysNames d x)
    (λ k d s t h. subst (λ (x : Patterns). SaysNames d x) (sym (ap (λ (x : Settings). x.hoist_pattern) h.new_is)) h.says) miss where
      miss : (other : Key) (k : List ℕ) (d : Data) (s t : Settings) → other ≢ key.HoistPattern → Takes other k d s t → t.hoist_pattern ≡ s.hoist_pattern
      miss key.HoistPattern k d s t isnt h = absurd (isnt refl)
      miss _ k d s t isnt h = ap (λ (x : Settings). x.hoist_pattern) h.new_is

said_public_hoist_pattern : (ms : Members) (s t : Settings) → ReadsOn s ms t → MatchOption (under (name_of key.PublicHoistPattern) ms) (t.public_hoist_pattern ≡ s.public_hoist_pattern) (λ d. SaysNames d t.public_hoist_pattern)
said_public_hoist_pattern = settles key.PublicHoistPattern (λ e. cc e) refl (λ (s : Settings). s.public_hoist_pattern) (λ (d : Data) (x : Patterns). SaysNames d x)
    (λ k d s t h. subst (λ (x : Patterns). SaysNames d x) (sym (ap (λ (x : Settings). x.public_hoist_pattern) h.new_is)) h.says) miss where
      miss : (other : Key) (k : List ℕ) (d : Data) (s t : Settings) → other ≢ key.PublicHoistPattern → Takes other k d s t → t.public_hoist_pattern ≡ s.public_hoist_pattern
      miss key.PublicHoistPattern k d s t isnt h = absurd (isnt refl)
      miss _ k d s t isnt h = ap (λ (x : Settings). x.public_hoist_pattern) h.new_is

said_shamefully : (ms : Members) (s t : Settings) → ReadsOn s ms t → MatchOption (under (name_of key.ShamefullyHoist) ms) (t.shamefully ≡ s.shamefully) (λ d. flag_of d ≡ Some t.shamefully)
said_shamefully = settles key.ShamefullyHoist (λ e. cc e) refl (λ (s : Settings). s.shamefully) (λ (d : Data) (x : Bool). flag_of d ≡ Some x)
    (λ k d s t h. subst (λ (x : Bool). flag_of d ≡ Some x) (sym (ap (λ (x : Settings). x.shamefully) h.new_is)) h.says) miss where
      miss : (other : Key) (k : List ℕ) (d : Data) (s t : Settings) → other ≢ key.ShamefullyHoist → Takes other k d s t → t.shamefully ≡ s.shamefully
      miss key.ShamefullyHoist k d s t isnt h = absurd (isnt refl)
      miss _ k d s t isnt h = ap (λ (x : Settings). x.shamefully) h.new_is

said_virtual_text : (ms : Members) (s t : Settings) → ReadsOn s ms t → MatchOption (under (name_of key.VirtualStoreDir) ms) (t.virtual_text ≡ s.virtual_text) (λ d. filled_text d ≡ Some t.virtual_text)
said_virtual_text = settles key.VirtualStoreDir (λ e. cc e) refl (λ (s : Settings). s.virtual_text) (λ (d : Data) (x : List ℕ). filled_text d ≡ Some x)
    (λ k d s t h. subst (λ (x : List ℕ). filled_text d ≡ Some x) (sym (ap (λ (x : Settings). x.virtual_text) h.new_is)) h.says) miss where
      miss : (other : Key) (k : List ℕ) (d : Data) (s t : Settings) → other ≢ key.VirtualStoreDir → Takes other k d s t → t.virtual_text ≡ s.virtual_text
      miss key.VirtualStoreDir k d s t isnt h = absurd (isnt refl)
      miss _ k d s t isnt h = ap (λ (x : Settings). x.virtual_text) h.new_is

public_is : (ms : Members) (root : List Pair) (t : Settings) → ReadsOn default_settings ms t → (b : Bool) → t.shamefully ≡ b → ArePublic ms b (if b then all_names else t.public_hoist_pattern)
public_is ms root t reads true is = refl
public_is ms root t reads false is = said_public_hoist_pattern ms default_settings t reads

settled_by : (ms : Members) (root : List Pair) (t : Settings) → ReadsOn default_settings ms t → AreSettled ms root (config_of root t)
settled_by ms root t reads = record {
  packages = said_packages ms default_settings t reads;
  auto_install_peers = said_auto_install_peers ms default_settings t reads;
  strict = said_strict ms default_settings t reads;
  from_root = said_from_root ms default_settings t reads;
  hoist = said_hoist ms default_settings t reads;
  hoist_pattern = said_hoist_pattern ms default_settings t reads;
  shamefully = t.shamefully;
  shamefully_is = said_shamefully ms default_settings t reads;
  public_hoist_pattern = public_is ms root t reads t.shamefully refl;
  virtual_text = said_virtual_text ms default_settings t reads;
  pairs = t.overrides;
  pairs_are = said_overrides ms default_settings t reads;
  overrides = refl;
  catalogs = has_texts ms t reads;
}

pub settled : SettledLaw
settled ms root c (t, reads, is) = subst (AreSettled ms root) (sym is) (settled_by ms root t reads)
