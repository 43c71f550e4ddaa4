-- Worked faults, each by computing.
use Rattle.std.specs.Prelude.{◌≡◌, ℕ, refl, true, false, List, [], Some, None, Err, codes}
use Rattle.pn_yaml.specs.Data.{Data, scalar, map, no_members, member}
use Rattle.pn_lock_shape.specs.Targets.{folder_at}
use Rattle.pn_lock_read.specs.declared.fault.LockFault.TheVariants as fault
use Rattle.pn_lock_read.specs.LockTexts.{lock_of}

abbrev word : List ℕ → Data
word t = scalar t true

abbrev one : List ℕ → Data → Data
one key d = map (member key d no_members)

-- a lockfile with one project, the root
abbrev with_root : Data → Data
with_root d = map (member (codes "lockfileVersion") (scalar (codes "9.0") false) (member (codes "importers") (one (codes ".") d) no_members))

abbrev entry : List ℕ → Data
entry version = map (member (codes "specifier") (word (codes "1")) (member (codes "version") (word version) no_members))

pub no_version : lock_of (map no_members) ≡ Err (fault.Version [])
no_version = refl

pub other_version : lock_of (one (codes "lockfileVersion") (scalar (codes "6.0") false)) ≡ Err (fault.Version (codes "6.0"))
other_version = refl

pub no_importers : lock_of (one (codes "lockfileVersion") (scalar (codes "9.0") false)) ≡ Err (fault.Shape (codes "importers"))
no_importers = refl

pub no_specifier : lock_of (with_root (one (codes "dependencies") (one (codes "a") (map no_members)))) ≡ Err (fault.Shape (codes "importers>.>dependencies>a>specifier"))
no_specifier = refl

pub no_name : lock_of (with_root (one (codes "dependencies") (one (codes "_a") (entry (codes "1.0.0"))))) ≡ Err (fault.Shape (codes "importers>.>dependencies>_a"))
no_name = refl

pub twice : lock_of (with_root (map (member (codes "dependencies") (one (codes "a") (entry (codes "link:x"))) (member (codes "devDependencies") (one (codes "a") (entry (codes "link:x"))) no_members))))
    ≡ Err (fault.Shape (codes "importers>.>devDependencies>a"))
twice = refl

pub quoted_truth : lock_of (map (member (codes "lockfileVersion") (scalar (codes "9.0") false) (member (codes "settings") (one (codes "autoInstallPeers") (scalar (codes "true") false)) no_members)))
    ≡ Err (fault.Shape (codes "settings>autoInstallPeers"))
quoted_truth = refl

pub dangling_link : lock_of (with_root (one (codes "dependencies") (one (codes "a") (entry (codes "link:x"))))) ≡ Err (fault.Dangling (codes ".") (codes "link:x"))
dangling_link = refl

pub above_root : folder_at (codes "packages/x") (codes "../../../y") ≡ None
above_root = refl

pub normalized : folder_at (codes "packages/x") (codes "./../ui//.") ≡ Some (codes "packages/ui")
normalized = refl
