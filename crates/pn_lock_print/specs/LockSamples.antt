-- Worked locks, and their texts.
use Rattle.std.specs.Prelude.{◌≡◌, ℕ, List, [], ◌∷◌, refl, true, false, codes}
use Rattle.base64.specs.Rfc4648.{encode_symbols}
use Rattle.pn_yaml_print.specs.Printing.{printed}
use Rattle.pn_lock.specs.declared.goal.LockGoal.{LockGoal}
use Rattle.pn_lock.specs.declared.goal.LockGoal.TheVariants as goal
use Rattle.pn_lock.specs.declared.lists.LockCatalog.{LockCatalog}
use Rattle.pn_lock.specs.declared.lists.LockDependency.{LockDependency}
use Rattle.pn_lock.specs.declared.lists.LockImporter.{LockImporter}
use Rattle.pn_lock.specs.declared.lists.LockLink.{LockLink}
use Rattle.pn_lock.specs.declared.lists.LockPackage.{LockPackage}
use Rattle.pn_lock.specs.declared.lists.LockPeer.{LockPeer}
use Rattle.pn_lock.specs.declared.lists.LockSnapshot.{LockSnapshot}
use Rattle.pn_lock.specs.declared.lists.Override.{Override}
use Rattle.pn_lock.specs.Locks.{Locked, locked}
use Rattle.pn_lock_print.specs.LockData.{lock_data}

-- the SHA-512 of no bytes
abbrev pub digest_of_none : List ℕ
digest_of_none = (207 ∷ 131 ∷ 225 ∷ 53 ∷ 126 ∷ 239 ∷ 184 ∷ 189 ∷ 241 ∷ 84 ∷ 40 ∷ 80 ∷ 214 ∷ 109 ∷ 128 ∷ 7 ∷ 214 ∷ 32 ∷ 228 ∷ 5 ∷ 11 ∷ 87 ∷ 21 ∷ 220 ∷ 131 ∷ 244 ∷ 169 ∷ 33 ∷ 211 ∷ 108 ∷ 233 ∷ 206 ∷ 71 ∷ 208 ∷ 209 ∷ 60 ∷ 93 ∷ 133 ∷ 242 ∷ 176 ∷ 255 ∷ 131 ∷ 24 ∷ 210 ∷ 135 ∷ 126 ∷ 236 ∷ 47 ∷ 99 ∷ 185 ∷ 49 ∷ 189 ∷ 71 ∷ 65 ∷ 122 ∷ 129 ∷ 165 ∷ 56 ∷ 50 ∷ 122 ∷ 249 ∷ 39 ∷ 218 ∷ 62 ∷ [])

abbrev pub entry : List ℕ → List ℕ → List ℕ → List ℕ → LockCatalog
entry catalog name specifier version = record { catalog = catalog; name = name; specifier = specifier; version = version }

abbrev pub rule : List ℕ → List ℕ → Override
rule selector value = record { selector = selector; value = value }

abbrev pub dependency : List ℕ → List ℕ → LockGoal → LockDependency
dependency alias specifier to = record { alias = alias; specifier = specifier; to = to }

abbrev pub importer : List ℕ → List LockDependency → List LockDependency → List LockDependency → LockImporter
importer folder dependencies dev optional = record { folder = folder; dependencies = dependencies; dev = dev; optional = optional }

abbrev pub peer : List ℕ → List ℕ → LockPeer
peer name range = record { name = name; range = range }

abbrev pub packed : List ℕ → List LockPeer → List (List ℕ) → LockPackage
packed id peers optional = record { id = id; integrity = digest_of_none; peers = peers; optional_peers = optional }

abbrev pub link : List ℕ → LockGoal → LockLink
link alias to = record { alias = alias; to = to }

abbrev pub snapshot : List ℕ → List LockLink → List LockLink → List (List ℕ) → LockSnapshot
snapshot path dependencies optional transitive = record { path = path; dependencies = dependencies; optional = optional; transitive = transitive }

-- a project without dependencies
abbrev pub no_packages : Locked
no_packages = locked true
    []
    []
    (importer (codes ".") [] [] [] ∷ [])
    []
    []

pub no_packages_printed : printed (lock_data no_packages) ≡ codes "lockfileVersion: '9.0'\n\nsettings:\n  autoInstallPeers: true\n  excludeLinksFromLockfile: false\n\nimporters:\n\n  .: {}\n"
unfolding encode_symbols
no_packages_printed = refl

-- one dependency, which has one too
abbrev pub two_packages : Locked
two_packages = locked true
    []
    []
    (importer (codes ".") (dependency (codes "a") (codes "1.0.0") (goal.Snapshot 0) ∷ []) [] [] ∷ [])
    (packed (codes "a@1.0.0") [] [] ∷ packed (codes "b@1.0.0") [] [] ∷ [])
    (snapshot (codes "a@1.0.0") (link (codes "b") (goal.Snapshot 1) ∷ []) [] [] ∷ snapshot (codes "b@1.0.0") [] [] [] ∷ [])

pub two_packages_printed : printed (lock_data two_packages) ≡ codes "lockfileVersion: '9.0'\n\nsettings:\n  autoInstallPeers: true\n  excludeLinksFromLockfile: false\n\nimporters:\n\n  .:\n    dependencies:\n      a:\n        specifier: 1.0.0\n        version: 1.0.0\n\npackages:\n\n  a@1.0.0:\n    resolution: {integrity: sha512-z4PhNX7vuL3xVChQ1m2AB9Yg5AULVxXcg/SpIdNs6c5H0NE8XYXysP+DGNKHfuwvY7kxvUdBeoGlODJ6+SfaPg==}\n\n  b@1.0.0:\n    resolution: {integrity: sha512-z4PhNX7vuL3xVChQ1m2AB9Yg5AULVxXcg/SpIdNs6c5H0NE8XYXysP+DGNKHfuwvY7kxvUdBeoGlODJ6+SfaPg==}\n\nsnapshots:\n\n  a@1.0.0:\n    dependencies:\n      b: 1.0.0\n\n  b@1.0.0: {}\n"
unfolding encode_symbols
two_packages_printed = refl

-- packages that need each other, each in two peer contexts
abbrev pub two_contexts : Locked
two_contexts = locked true
    []
    []
    (importer (codes ".") (dependency (codes "p") (codes "1.0.0") (goal.Snapshot 0) ∷ dependency (codes "x") (codes "1.0.0") (goal.Snapshot 2) ∷ dependency (codes "y") (codes "1.0.0") (goal.Snapshot 4) ∷ []) [] [] ∷ [])
    (packed (codes "p@1.0.0") [] [] ∷ packed (codes "p@2.0.0") [] [] ∷ packed (codes "x@1.0.0") (peer (codes "p") (codes "*") ∷ []) [] ∷ packed (codes "y@1.0.0") [] [] ∷ [])
    (snapshot (codes "p@1.0.0") [] [] [] ∷ snapshot (codes "p@2.0.0") [] [] [] ∷ snapshot (codes "x@1.0.0(p@1.0.0)") (link (codes "p") (goal.Snapshot 0) ∷ link (codes "y") (goal.Snapshot 5) ∷ []) [] [] ∷ snapshot (codes "x@1.0.0(p@2.0.0)") (link (codes "p") (goal.Snapshot 1) ∷ link (codes "y") (goal.Snapshot 4) ∷ []) [] [] ∷ snapshot (codes "y@1.0.0") (link (codes "p") (goal.Snapshot 1) ∷ link (codes "x") (goal.Snapshot 3) ∷ []) [] [] ∷ snapshot (codes "y@1.0.0(~2)") (link (codes "p") (goal.Snapshot 1) ∷ link (codes "x") (goal.Snapshot 2) ∷ []) [] [] ∷ [])

pub two_contexts_printed : printed (lock_data two_contexts) ≡ codes "lockfileVersion: '9.0'\n\nsettings:\n  autoInstallPeers: true\n  excludeLinksFromLockfile: false\n\nimporters:\n\n  .:\n    dependencies:\n      p:\n        specifier: 1.0.0\n        version: 1.0.0\n      x:\n        specifier: 1.0.0\n        version: 1.0.0(p@1.0.0)\n      y:\n        specifier: 1.0.0\n        version: 1.0.0\n\npackages:\n\n  p@1.0.0:\n    resolution: {integrity: sha512-z4PhNX7vuL3xVChQ1m2AB9Yg5AULVxXcg/SpIdNs6c5H0NE8XYXysP+DGNKHfuwvY7kxvUdBeoGlODJ6+SfaPg==}\n\n  p@2.0.0:\n    resolution: {integrity: sha512-z4PhNX7vuL3xVChQ1m2AB9Yg5AULVxXcg/SpIdNs6c5H0NE8XYXysP+DGNKHfuwvY7kxvUdBeoGlODJ6+SfaPg==}\n\n  x@1.0.0:\n    resolution: {integrity: sha512-z4PhNX7vuL3xVChQ1m2AB9Yg5AULVxXcg/SpIdNs6c5H0NE8XYXysP+DGNKHfuwvY7kxvUdBeoGlODJ6+SfaPg==}\n    peerDependencies:\n      p: '*'\n\n  y@1.0.0:\n    resolution: {integrity: sha512-z4PhNX7vuL3xVChQ1m2AB9Yg5AULVxXcg/SpIdNs6c5H0NE8XYXysP+DGNKHfuwvY7kxvUdBeoGlODJ6+SfaPg==}\n\nsnapshots:\n\n  p@1.0.0: {}\n\n  p@2.0.0: {}\n\n  x@1.0.0(p@1.0.0):\n    dependencies:\n      p: 1.0.0\n      y: 1.0.0(~2)\n\n  x@1.0.0(p@2.0.0):\n    dependencies:\n      p: 2.0.0\n      y: 1.0.0\n\n  y@1.0.0:\n    dependencies:\n      p: 2.0.0\n      x: 1.0.0(p@2.0.0)\n\n  y@1.0.0(~2):\n    dependencies:\n      p: 2.0.0\n      x: 1.0.0(p@1.0.0)\n"
unfolding encode_symbols
two_contexts_printed = refl

-- a workspace with a catalog, a link to a project and a peer
abbrev pub workspace : Locked
workspace = locked true
    (entry (codes "default") (codes "react") (codes "^18.2.0") (codes "18.3.1") ∷ entry (codes "default") (codes "react-dom") (codes "^18.2.0") (codes "18.3.1") ∷ [])
    []
    (importer (codes ".") [] (dependency (codes "typescript") (codes "^5.4.0") (goal.Snapshot 5) ∷ []) [] ∷ importer (codes "packages/app") (dependency (codes "@acme/ui") (codes "workspace:^") (goal.Importer 2) ∷ dependency (codes "react") (codes "catalog:") (goal.Snapshot 3) ∷ dependency (codes "react-dom") (codes "catalog:") (goal.Snapshot 2) ∷ []) [] [] ∷ importer (codes "packages/ui") [] (dependency (codes "react") (codes "catalog:") (goal.Snapshot 3) ∷ []) [] ∷ [])
    (packed (codes "js-tokens@4.0.0") [] [] ∷ packed (codes "loose-envify@1.4.0") [] [] ∷ packed (codes "react-dom@18.3.1") (peer (codes "react") (codes "^18.3.1") ∷ []) [] ∷ packed (codes "react@18.3.1") [] [] ∷ packed (codes "scheduler@0.23.2") [] [] ∷ packed (codes "typescript@5.4.5") [] [] ∷ [])
    (snapshot (codes "js-tokens@4.0.0") [] [] [] ∷ snapshot (codes "loose-envify@1.4.0") (link (codes "js-tokens") (goal.Snapshot 0) ∷ []) [] [] ∷ snapshot (codes "react-dom@18.3.1(react@18.3.1)") (link (codes "loose-envify") (goal.Snapshot 1) ∷ link (codes "react") (goal.Snapshot 3) ∷ link (codes "scheduler") (goal.Snapshot 4) ∷ []) [] [] ∷ snapshot (codes "react@18.3.1") (link (codes "loose-envify") (goal.Snapshot 1) ∷ []) [] [] ∷ snapshot (codes "scheduler@0.23.2") (link (codes "loose-envify") (goal.Snapshot 1) ∷ []) [] [] ∷ snapshot (codes "typescript@5.4.5") [] [] [] ∷ [])

pub workspace_printed : printed (lock_data workspace) ≡ codes "lockfileVersion: '9.0'\n\nsettings:\n  autoInstallPeers: true\n  excludeLinksFromLockfile: false\n\ncatalogs:\n  default:\n    react:\n      specifier: ^18.2.0\n      version: 18.3.1\n    react-dom:\n      specifier: ^18.2.0\n      version: 18.3.1\n\nimporters:\n\n  .:\n    devDependencies:\n      typescript:\n        specifier: ^5.4.0\n        version: 5.4.5\n\n  packages/app:\n    dependencies:\n      '@acme/ui':\n        specifier: workspace:^\n        version: link:../ui\n      react:\n        specifier: 'catalog:'\n        version: 18.3.1\n      react-dom:\n        specifier: 'catalog:'\n        version: 18.3.1(react@18.3.1)\n\n  packages/ui:\n    devDependencies:\n      react:\n        specifier: 'catalog:'\n        version: 18.3.1\n\npackages:\n\n  js-tokens@4.0.0:\n    resolution: {integrity: sha512-z4PhNX7vuL3xVChQ1m2AB9Yg5AULVxXcg/SpIdNs6c5H0NE8XYXysP+DGNKHfuwvY7kxvUdBeoGlODJ6+SfaPg==}\n\n  loose-envify@1.4.0:\n    resolution: {integrity: sha512-z4PhNX7vuL3xVChQ1m2AB9Yg5AULVxXcg/SpIdNs6c5H0NE8XYXysP+DGNKHfuwvY7kxvUdBeoGlODJ6+SfaPg==}\n\n  react-dom@18.3.1:\n    resolution: {integrity: sha512-z4PhNX7vuL3xVChQ1m2AB9Yg5AULVxXcg/SpIdNs6c5H0NE8XYXysP+DGNKHfuwvY7kxvUdBeoGlODJ6+SfaPg==}\n    peerDependencies:\n      react: ^18.3.1\n\n  react@18.3.1:\n    resolution: {integrity: sha512-z4PhNX7vuL3xVChQ1m2AB9Yg5AULVxXcg/SpIdNs6c5H0NE8XYXysP+DGNKHfuwvY7kxvUdBeoGlODJ6+SfaPg==}\n\n  scheduler@0.23.2:\n    resolution: {integrity: sha512-z4PhNX7vuL3xVChQ1m2AB9Yg5AULVxXcg/SpIdNs6c5H0NE8XYXysP+DGNKHfuwvY7kxvUdBeoGlODJ6+SfaPg==}\n\n  typescript@5.4.5:\n    resolution: {integrity: sha512-z4PhNX7vuL3xVChQ1m2AB9Yg5AULVxXcg/SpIdNs6c5H0NE8XYXysP+DGNKHfuwvY7kxvUdBeoGlODJ6+SfaPg==}\n\nsnapshots:\n\n  js-tokens@4.0.0: {}\n\n  loose-envify@1.4.0:\n    dependencies:\n      js-tokens: 4.0.0\n\n  react-dom@18.3.1(react@18.3.1):\n    dependencies:\n      loose-envify: 1.4.0\n      react: 18.3.1\n      scheduler: 0.23.2\n\n  react@18.3.1:\n    dependencies:\n      loose-envify: 1.4.0\n\n  scheduler@0.23.2:\n    dependencies:\n      loose-envify: 1.4.0\n\n  typescript@5.4.5: {}\n"
unfolding encode_symbols
workspace_printed = refl

-- every form that a lockfile has
abbrev pub every_form : Locked
every_form = locked false
    (entry (codes "a") (codes "c") (codes "^1.0.0") (codes "1.0.0") ∷ entry (codes "default") (codes "c") (codes "^2.0.0") (codes "2.0.0") ∷ [])
    (rule (codes "a>b") (codes "-") ∷ rule (codes "b") (codes "^3.0.0") ∷ [])
    (importer (codes "apps/web") (dependency (codes "other") (codes "npm:c@2.0.0") (goal.Snapshot 2) ∷ []) (dependency (codes "c") (codes "catalog:a") (goal.Snapshot 1) ∷ []) (dependency (codes "o") (codes "~1.0.0") (goal.Snapshot 3) ∷ []) ∷ importer (codes "apps/web/lib") (dependency (codes "web") (codes "link:..") (goal.Importer 0) ∷ []) [] [] ∷ importer (codes "lib") (dependency (codes "web") (codes "workspace:*") (goal.Importer 0) ∷ []) [] [] ∷ [])
    (packed (codes "@s/p@1.0.0-rc.1") (peer (codes "c") (codes "^1.0.0 || ^2.0.0") ∷ peer (codes "z") (codes "*") ∷ []) (codes "z" ∷ []) ∷ packed (codes "c@1.0.0") [] [] ∷ packed (codes "c@2.0.0") [] [] ∷ packed (codes "o@1.0.0+build") [] [] ∷ [])
    (snapshot (codes "@s/p@1.0.0-rc.1(c@1.0.0)") (link (codes "c") (goal.Snapshot 1) ∷ link (codes "lib") (goal.Importer 2) ∷ []) (link (codes "d") (goal.Snapshot 2) ∷ []) (codes "react" ∷ codes "z" ∷ []) ∷ snapshot (codes "c@1.0.0") [] [] [] ∷ snapshot (codes "c@2.0.0") (link (codes "@s/p") (goal.Snapshot 0) ∷ []) [] [] ∷ snapshot (codes "o@1.0.0+build") [] [] [] ∷ [])

pub every_form_printed : printed (lock_data every_form) ≡ codes "lockfileVersion: '9.0'\n\nsettings:\n  autoInstallPeers: false\n  excludeLinksFromLockfile: false\n\ncatalogs:\n  a:\n    c:\n      specifier: ^1.0.0\n      version: 1.0.0\n  default:\n    c:\n      specifier: ^2.0.0\n      version: 2.0.0\n\noverrides:\n  a>b: '-'\n  b: ^3.0.0\n\nimporters:\n\n  apps/web:\n    dependencies:\n      other:\n        specifier: npm:c@2.0.0\n        version: c@2.0.0\n    devDependencies:\n      c:\n        specifier: catalog:a\n        version: 1.0.0\n    optionalDependencies:\n      o:\n        specifier: ~1.0.0\n        version: 1.0.0+build\n\n  apps/web/lib:\n    dependencies:\n      web:\n        specifier: link:..\n        version: link:..\n\n  lib:\n    dependencies:\n      web:\n        specifier: workspace:*\n        version: link:../apps/web\n\npackages:\n\n  '@s/p@1.0.0-rc.1':\n    resolution: {integrity: sha512-z4PhNX7vuL3xVChQ1m2AB9Yg5AULVxXcg/SpIdNs6c5H0NE8XYXysP+DGNKHfuwvY7kxvUdBeoGlODJ6+SfaPg==}\n    peerDependencies:\n      c: ^1.0.0 || ^2.0.0\n      z: '*'\n    peerDependenciesMeta:\n      z:\n        optional: true\n\n  c@1.0.0:\n    resolution: {integrity: sha512-z4PhNX7vuL3xVChQ1m2AB9Yg5AULVxXcg/SpIdNs6c5H0NE8XYXysP+DGNKHfuwvY7kxvUdBeoGlODJ6+SfaPg==}\n\n  c@2.0.0:\n    resolution: {integrity: sha512-z4PhNX7vuL3xVChQ1m2AB9Yg5AULVxXcg/SpIdNs6c5H0NE8XYXysP+DGNKHfuwvY7kxvUdBeoGlODJ6+SfaPg==}\n\n  o@1.0.0+build:\n    resolution: {integrity: sha512-z4PhNX7vuL3xVChQ1m2AB9Yg5AULVxXcg/SpIdNs6c5H0NE8XYXysP+DGNKHfuwvY7kxvUdBeoGlODJ6+SfaPg==}\n\nsnapshots:\n\n  '@s/p@1.0.0-rc.1(c@1.0.0)':\n    dependencies:\n      c: 1.0.0\n      lib: link:lib\n    optionalDependencies:\n      d: c@2.0.0\n    transitivePeerDependencies:\n      - react\n      - z\n\n  c@1.0.0: {}\n\n  c@2.0.0:\n    dependencies:\n      '@s/p': 1.0.0-rc.1(c@1.0.0)\n\n  o@1.0.0+build: {}\n"
unfolding encode_symbols
every_form_printed = refl

-- one entry of each list
abbrev pub one_of_each : Locked
one_of_each = locked false
    (entry (codes "default") (codes "c") (codes "^2.0.0") (codes "2.0.0") ∷ [])
    (rule (codes "a>b") (codes "-") ∷ [])
    (importer (codes "lib") (dependency (codes "other") (codes "npm:c@2.0.0") (goal.Snapshot 0) ∷ []) (dependency (codes "self") (codes "link:.") (goal.Importer 0) ∷ []) [] ∷ [])
    (packed (codes "c@2.0.0") (peer (codes "z") (codes "*") ∷ []) (codes "z" ∷ []) ∷ [])
    (snapshot (codes "c@2.0.0(z@1.0.0)") (link (codes "lib") (goal.Importer 0) ∷ []) (link (codes "d") (goal.Snapshot 0) ∷ []) (codes "react" ∷ []) ∷ [])

pub one_of_each_printed : printed (lock_data one_of_each) ≡ codes "lockfileVersion: '9.0'\n\nsettings:\n  autoInstallPeers: false\n  excludeLinksFromLockfile: false\n\ncatalogs:\n  default:\n    c:\n      specifier: ^2.0.0\n      version: 2.0.0\n\noverrides:\n  a>b: '-'\n\nimporters:\n\n  lib:\n    dependencies:\n      other:\n        specifier: npm:c@2.0.0\n        version: c@2.0.0(z@1.0.0)\n    devDependencies:\n      self:\n        specifier: link:.\n        version: link:.\n\npackages:\n\n  c@2.0.0:\n    resolution: {integrity: sha512-z4PhNX7vuL3xVChQ1m2AB9Yg5AULVxXcg/SpIdNs6c5H0NE8XYXysP+DGNKHfuwvY7kxvUdBeoGlODJ6+SfaPg==}\n    peerDependencies:\n      z: '*'\n    peerDependenciesMeta:\n      z:\n        optional: true\n\nsnapshots:\n\n  c@2.0.0(z@1.0.0):\n    dependencies:\n      lib: link:lib\n    optionalDependencies:\n      d: c@2.0.0(z@1.0.0)\n    transitivePeerDependencies:\n      - react\n"
unfolding encode_symbols
one_of_each_printed = refl
