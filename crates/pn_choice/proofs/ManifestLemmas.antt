-- What a package's manifest says, and why it isn't told.
use Rattle.std.proofs.Common.{Option, Some, None}
use Rattle.std.specs.Prelude.{IfSome}
use Rattle.serde_json.specs.Data.{Data}
use Rattle.pn_fs.specs.Tree.{Tree}
use Rattle.pn_fs.specs.Seen.{Seen}
use Rattle.pn_manifest.specs.Said.{Said, IsRisingSaid}
use Rattle.pn_manifest.specs.Says.{said_of}
use Rattle.pn_manifest.specs.declared.manifest.Manifest.{Manifest}
use Rattle.pn_registry.specs.Places.{manifest_path}
use Rattle.pn_registry.specs.Package.{IsRead, IsFound}
use Rattle.pn_walk.specs.Wants.{Id}
use Rattle.pn_choice.specs.Shows.{HasManifest}
use Rattle.pn_choice.specs.Ways.{IsUntold, IsUnbuiltIn, Broke}
use Rattle.pn_choice.specs.declared.fault.RegistryLack.TheVariants.{BadTags as LackTags, Entries as LackEntries, Wrong as LackManifest, TooLarge as LackText, Unbuilt as LackUnbuilt}
use Rattle.pn_choice.specs.declared.way.WayFault.{WayFault}
use Rattle.pn_choice.specs.declared.way.WayFault.TheVariants.{Unsupported, Unbuilt, NoVersion, Registry, Fault, Memory}

pub has_manifest : (r : Option Tree) (i : Id) (m : Manifest) → IfSome r (λ t. IsFound i (t (manifest_path i)) m) → (d : Data) × IsRead i d m → IsRisingSaid (said_of m) → HasManifest r i (said_of m)
has_manifest None i m found read rising = record { value = read.0; text = tt; right = read.1.right; says = read.1.says; rising = rising }
has_manifest (Some t) i m found read rising = record { value = found.value; text = found.text; right = found.read.right; says = found.read.says; rising = rising }

pub unbuilt_untold : (r : Option Tree) (i : Id) (m : Said) (f : WayFault) → HasManifest r i m → IsUnbuiltIn i m f → IsUntold r i f
unbuilt_untold r i m Unsupported h k = absurd k
unbuilt_untold r i m Unbuilt h k = absurd k
unbuilt_untold r i m NoVersion h k = absurd k
unbuilt_untold r i m (Registry (LackTags n)) h k = absurd k
unbuilt_untold r i m (Registry LackEntries) h k = absurd k
unbuilt_untold r i m (Registry (LackManifest j why)) h k = absurd k
unbuilt_untold r i m (Registry (LackText j l)) h k = absurd k
unbuilt_untold r i m (Registry (LackUnbuilt text)) h k = (m, h, k)
unbuilt_untold r i m Fault h k = absurd k
unbuilt_untold r i m Memory h k = tt

pub unbuilt_broke : (i : Id) (m : Said) (f : WayFault) (old new : Seen) → IsUnbuiltIn i m f → Broke old new f
unbuilt_broke i m Unsupported old new k = tt
unbuilt_broke i m Unbuilt old new k = tt
unbuilt_broke i m NoVersion old new k = tt
unbuilt_broke i m (Registry lack) old new k = tt
unbuilt_broke i m Fault old new k = absurd k
unbuilt_broke i m Memory old new k = tt
