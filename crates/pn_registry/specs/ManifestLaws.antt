-- A tree settles what the manifest of a package says, or why there is none.
use Rattle.std.specs.Prelude.{◌≡◌}
use Rattle.pn_fs.specs.Tree.{Tree}
use Rattle.pn_manifest.specs.Says.{said_of}
use Rattle.pn_manifest.specs.declared.manifest.Manifest.{Manifest}
use Rattle.pn_registry.specs.Places.{Id, manifest_path}
use Rattle.pn_registry.specs.Package.{IsFound}
use Rattle.pn_registry.specs.PackageFaults.{PackageCause}
use Rattle.pn_registry.specs.declared.package.PackageFault.{PackageFault}

-- No two causes stand.
abbrev pub ManifestCauseLaw : Type 0
ManifestCauseLaw = (t : Tree) (id : Id) (fault other : PackageFault) → PackageCause id t fault → PackageCause id t other → fault ≡ other

-- Where there is a manifest, no cause stands.
abbrev pub ManifestPassedLaw : Type 0
ManifestPassedLaw = (t : Tree) (id : Id) (m : Manifest) (fault : PackageFault) → IsFound id (t (manifest_path id)) m → PackageCause id t fault → ⊥

-- There is one manifest.
abbrev pub ManifestSameLaw : Type 0
ManifestSameLaw = (t : Tree) (id : Id) (m other : Manifest) → IsFound id (t (manifest_path id)) m → IsFound id (t (manifest_path id)) other → said_of m ≡ said_of other
