-- The keys of the file that say something.
use Rattle.std.specs.Prelude.{ℕ, List, [], ◌∷◌, Option, Some, None, if◌then◌else◌, codes}
use Rattle.std.specs.Str.{bytes_eq}
use Rattle.pn_config.specs.declared.key.Key.{Key}
use Rattle.pn_config.specs.declared.key.Key.TheVariants as key

-- what a table has under a text, or else what is meant where it has none
abbrev pub in_table : {A : Type 0} → List (List ℕ × A) → A → List ℕ → A
in_table [] other k = other
in_table (row ∷ rows) other k = if bytes_eq k row.0 then row.1 else in_table rows other k

abbrev pub keys : List (List ℕ × Key)
keys =
    (codes "packages", key.Packages)
    ∷ (codes "catalog", key.Catalog)
    ∷ (codes "catalogs", key.Catalogs)
    ∷ (codes "overrides", key.Overrides)
    ∷ (codes "autoInstallPeers", key.AutoInstallPeers)
    ∷ (codes "strictPeerDependencies", key.StrictPeerDependencies)
    ∷ (codes "resolvePeersFromWorkspaceRoot", key.ResolvePeersFromWorkspaceRoot)
    ∷ (codes "hoist", key.Hoist)
    ∷ (codes "hoistPattern", key.HoistPattern)
    ∷ (codes "publicHoistPattern", key.PublicHoistPattern)
    ∷ (codes "shamefullyHoist", key.ShamefullyHoist)
    ∷ (codes "virtualStoreDir", key.VirtualStoreDir)
    ∷ []

abbrev pub key_of : List ℕ → Key
key_of k = in_table keys key.Other k

-- keys that may have one value alone
abbrev pub fixed : List (List ℕ × Option (List ℕ))
fixed =
    (codes "nodeLinker", Some (codes "isolated"))
    ∷ (codes "linkWorkspacePackages", Some (codes "false"))
    ∷ (codes "dedupeDirectDeps", Some (codes "false"))
    ∷ (codes "injectWorkspacePackages", Some (codes "false"))
    ∷ (codes "excludeLinksFromLockfile", Some (codes "false"))
    ∷ (codes "sharedWorkspaceLockfile", Some (codes "true"))
    ∷ (codes "lockfile", Some (codes "true"))
    ∷ (codes "modulesDir", Some (codes "node_modules"))
    ∷ (codes "resolutionMode", Some (codes "highest"))
    ∷ []

-- the one value that a key may have
abbrev pub only_value : List ℕ → Option (List ℕ)
only_value k = in_table fixed None k
