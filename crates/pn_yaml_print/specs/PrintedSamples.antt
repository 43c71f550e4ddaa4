-- Worked data: how it is printed, and lockfiles that are read back.
use Rattle.std.specs.Prelude.{◌≡◌, refl, [], true, false, Ok, codes}
use Rattle.pn_yaml.specs.Data.{Data, scalar, list, map, no_items, item, no_members, member}
use Rattle.pn_yaml.specs.Blocks.{text_says}
use Rattle.pn_yaml_print.specs.Printing.{printed}

-- the lockfile of a project with one dependency, which has one too
abbrev pub small_lock : Data
small_lock = (map (member (codes "lockfileVersion") (scalar (codes "9.0") false) (member (codes "settings") (map (member (codes "autoInstallPeers") (scalar (codes "true") true) (member (codes "excludeLinksFromLockfile") (scalar (codes "false") true) no_members))) (member (codes "importers") (map (member (codes ".") (map (member (codes "dependencies") (map (member (codes "a") (map (member (codes "specifier") (scalar (codes "1.0.0") true) (member (codes "version") (scalar (codes "1.0.0") true) no_members))) no_members)) no_members)) no_members)) (member (codes "packages") (map (member (codes "a@1.0.0") (map (member (codes "resolution") (map (member (codes "integrity") (scalar (codes "I(a)") true) no_members)) no_members)) (member (codes "b@1.0.0") (map (member (codes "resolution") (map (member (codes "integrity") (scalar (codes "I(b)") true) no_members)) no_members)) no_members))) (member (codes "snapshots") (map (member (codes "a@1.0.0") (map (member (codes "dependencies") (map (member (codes "b") (scalar (codes "1.0.0") true) no_members)) no_members)) (member (codes "b@1.0.0") (map no_members) no_members))) no_members))))))

pub small_lock_printed : printed small_lock ≡ codes "lockfileVersion: '9.0'\n\nsettings:\n  autoInstallPeers: true\n  excludeLinksFromLockfile: false\n\nimporters:\n\n  .:\n    dependencies:\n      a:\n        specifier: 1.0.0\n        version: 1.0.0\n\npackages:\n\n  a@1.0.0:\n    resolution: {integrity: I(a)}\n\n  b@1.0.0:\n    resolution: {integrity: I(b)}\n\nsnapshots:\n\n  a@1.0.0:\n    dependencies:\n      b: 1.0.0\n\n  b@1.0.0: {}\n"
small_lock_printed = refl

pub small_lock_read : text_says (codes "lockfileVersion: '9.0'\n\nsettings:\n  autoInstallPeers: true\n  excludeLinksFromLockfile: false\n\nimporters:\n\n  .:\n    dependencies:\n      a:\n        specifier: 1.0.0\n        version: 1.0.0\n\npackages:\n\n  a@1.0.0:\n    resolution: {integrity: I(a)}\n\n  b@1.0.0:\n    resolution: {integrity: I(b)}\n\nsnapshots:\n\n  a@1.0.0:\n    dependencies:\n      b: 1.0.0\n\n  b@1.0.0: {}\n") ≡ Ok small_lock
small_lock_read = refl

-- the lockfile of a workspace with three projects, a catalog and a peer
abbrev pub workspace_lock : Data
workspace_lock = (map (member (codes "lockfileVersion") (scalar (codes "9.0") false) (member (codes "settings") (map (member (codes "autoInstallPeers") (scalar (codes "true") true) (member (codes "excludeLinksFromLockfile") (scalar (codes "false") true) no_members))) (member (codes "catalogs") (map (member (codes "default") (map (member (codes "react") (map (member (codes "specifier") (scalar (codes "^18.2.0") true) (member (codes "version") (scalar (codes "18.3.1") true) no_members))) (member (codes "react-dom") (map (member (codes "specifier") (scalar (codes "^18.2.0") true) (member (codes "version") (scalar (codes "18.3.1") true) no_members))) no_members))) no_members)) (member (codes "importers") (map (member (codes ".") (map (member (codes "devDependencies") (map (member (codes "typescript") (map (member (codes "specifier") (scalar (codes "^5.4.0") true) (member (codes "version") (scalar (codes "5.4.5") true) no_members))) no_members)) no_members)) (member (codes "packages/app") (map (member (codes "dependencies") (map (member (codes "@acme/ui") (map (member (codes "specifier") (scalar (codes "workspace:^") true) (member (codes "version") (scalar (codes "link:../ui") true) no_members))) (member (codes "react") (map (member (codes "specifier") (scalar (codes "catalog:") false) (member (codes "version") (scalar (codes "18.3.1") true) no_members))) (member (codes "react-dom") (map (member (codes "specifier") (scalar (codes "catalog:") false) (member (codes "version") (scalar (codes "18.3.1(react@18.3.1)") true) no_members))) no_members)))) no_members)) (member (codes "packages/ui") (map (member (codes "devDependencies") (map (member (codes "react") (map (member (codes "specifier") (scalar (codes "catalog:") false) (member (codes "version") (scalar (codes "18.3.1") true) no_members))) no_members)) no_members)) no_members)))) (member (codes "packages") (map (member (codes "js-tokens@4.0.0") (map (member (codes "resolution") (map (member (codes "integrity") (scalar (codes "I(js-tokens)") true) no_members)) no_members)) (member (codes "loose-envify@1.4.0") (map (member (codes "resolution") (map (member (codes "integrity") (scalar (codes "I(loose-envify)") true) no_members)) no_members)) (member (codes "react-dom@18.3.1") (map (member (codes "resolution") (map (member (codes "integrity") (scalar (codes "I(react-dom)") true) no_members)) (member (codes "peerDependencies") (map (member (codes "react") (scalar (codes "^18.3.1") true) no_members)) no_members))) (member (codes "react@18.3.1") (map (member (codes "resolution") (map (member (codes "integrity") (scalar (codes "I(react)") true) no_members)) no_members)) (member (codes "scheduler@0.23.2") (map (member (codes "resolution") (map (member (codes "integrity") (scalar (codes "I(scheduler)") true) no_members)) no_members)) (member (codes "typescript@5.4.5") (map (member (codes "resolution") (map (member (codes "integrity") (scalar (codes "I(typescript)") true) no_members)) no_members)) no_members))))))) (member (codes "snapshots") (map (member (codes "js-tokens@4.0.0") (map no_members) (member (codes "loose-envify@1.4.0") (map (member (codes "dependencies") (map (member (codes "js-tokens") (scalar (codes "4.0.0") true) no_members)) no_members)) (member (codes "react-dom@18.3.1(react@18.3.1)") (map (member (codes "dependencies") (map (member (codes "loose-envify") (scalar (codes "1.4.0") true) (member (codes "react") (scalar (codes "18.3.1") true) (member (codes "scheduler") (scalar (codes "0.23.2") true) no_members)))) no_members)) (member (codes "react@18.3.1") (map (member (codes "dependencies") (map (member (codes "loose-envify") (scalar (codes "1.4.0") true) no_members)) no_members)) (member (codes "scheduler@0.23.2") (map (member (codes "dependencies") (map (member (codes "loose-envify") (scalar (codes "1.4.0") true) no_members)) no_members)) (member (codes "typescript@5.4.5") (map no_members) no_members))))))) no_members)))))))

pub workspace_lock_printed : printed workspace_lock ≡ codes "lockfileVersion: '9.0'\n\nsettings:\n  autoInstallPeers: true\n  excludeLinksFromLockfile: false\n\ncatalogs:\n  default:\n    react:\n      specifier: ^18.2.0\n      version: 18.3.1\n    react-dom:\n      specifier: ^18.2.0\n      version: 18.3.1\n\nimporters:\n\n  .:\n    devDependencies:\n      typescript:\n        specifier: ^5.4.0\n        version: 5.4.5\n\n  packages/app:\n    dependencies:\n      '@acme/ui':\n        specifier: workspace:^\n        version: link:../ui\n      react:\n        specifier: 'catalog:'\n        version: 18.3.1\n      react-dom:\n        specifier: 'catalog:'\n        version: 18.3.1(react@18.3.1)\n\n  packages/ui:\n    devDependencies:\n      react:\n        specifier: 'catalog:'\n        version: 18.3.1\n\npackages:\n\n  js-tokens@4.0.0:\n    resolution: {integrity: I(js-tokens)}\n\n  loose-envify@1.4.0:\n    resolution: {integrity: I(loose-envify)}\n\n  react-dom@18.3.1:\n    resolution: {integrity: I(react-dom)}\n    peerDependencies:\n      react: ^18.3.1\n\n  react@18.3.1:\n    resolution: {integrity: I(react)}\n\n  scheduler@0.23.2:\n    resolution: {integrity: I(scheduler)}\n\n  typescript@5.4.5:\n    resolution: {integrity: I(typescript)}\n\nsnapshots:\n\n  js-tokens@4.0.0: {}\n\n  loose-envify@1.4.0:\n    dependencies:\n      js-tokens: 4.0.0\n\n  react-dom@18.3.1(react@18.3.1):\n    dependencies:\n      loose-envify: 1.4.0\n      react: 18.3.1\n      scheduler: 0.23.2\n\n  react@18.3.1:\n    dependencies:\n      loose-envify: 1.4.0\n\n  scheduler@0.23.2:\n    dependencies:\n      loose-envify: 1.4.0\n\n  typescript@5.4.5: {}\n"
workspace_lock_printed = refl

pub workspace_lock_read : text_says (codes "lockfileVersion: '9.0'\n\nsettings:\n  autoInstallPeers: true\n  excludeLinksFromLockfile: false\n\ncatalogs:\n  default:\n    react:\n      specifier: ^18.2.0\n      version: 18.3.1\n    react-dom:\n      specifier: ^18.2.0\n      version: 18.3.1\n\nimporters:\n\n  .:\n    devDependencies:\n      typescript:\n        specifier: ^5.4.0\n        version: 5.4.5\n\n  packages/app:\n    dependencies:\n      '@acme/ui':\n        specifier: workspace:^\n        version: link:../ui\n      react:\n        specifier: 'catalog:'\n        version: 18.3.1\n      react-dom:\n        specifier: 'catalog:'\n        version: 18.3.1(react@18.3.1)\n\n  packages/ui:\n    devDependencies:\n      react:\n        specifier: 'catalog:'\n        version: 18.3.1\n\npackages:\n\n  js-tokens@4.0.0:\n    resolution: {integrity: I(js-tokens)}\n\n  loose-envify@1.4.0:\n    resolution: {integrity: I(loose-envify)}\n\n  react-dom@18.3.1:\n    resolution: {integrity: I(react-dom)}\n    peerDependencies:\n      react: ^18.3.1\n\n  react@18.3.1:\n    resolution: {integrity: I(react)}\n\n  scheduler@0.23.2:\n    resolution: {integrity: I(scheduler)}\n\n  typescript@5.4.5:\n    resolution: {integrity: I(typescript)}\n\nsnapshots:\n\n  js-tokens@4.0.0: {}\n\n  loose-envify@1.4.0:\n    dependencies:\n      js-tokens: 4.0.0\n\n  react-dom@18.3.1(react@18.3.1):\n    dependencies:\n      loose-envify: 1.4.0\n      react: 18.3.1\n      scheduler: 0.23.2\n\n  react@18.3.1:\n    dependencies:\n      loose-envify: 1.4.0\n\n  scheduler@0.23.2:\n    dependencies:\n      loose-envify: 1.4.0\n\n  typescript@5.4.5: {}\n") ≡ Ok workspace_lock
workspace_lock_read = refl

-- lists, flows in lists, and scalars that are quoted
abbrev pub quoted : Data
quoted = (map (member (codes "lockfileVersion") (scalar (codes "9.0") false) (member (codes "packages") (list (item (scalar (codes "packages/*") true) (item (list (item (scalar (codes "a") true) (item (map (member (codes "b") (scalar (codes "1") false) no_members)) no_items))) no_items))) (member (codes "x") (map (member (codes "on") (scalar (codes "yes") false) (member (codes "t") (scalar (codes "true") true) (member (codes "5") (scalar [] true) (member (codes "c") (scalar (codes "a\tb\r\"") true) no_members))))) no_members))))

pub quoted_printed : printed quoted ≡ codes "lockfileVersion: '9.0'\n\npackages:\n  - packages/*\n  - [a, {b: '1'}]\n\nx:\n  'on': 'yes'\n  t: true\n  '5': ''\n  c: \"a\\tb\\r\\\"\"\n"
quoted_printed = refl
