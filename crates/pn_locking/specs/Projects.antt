-- Projects by their manifests.
use Rattle.std.specs.Prelude.{◌≡◌, ℕ, List, true}
use Rattle.pn_lock.specs.Folders.{is_folder}
use Rattle.pn_manifest.specs.Said.{IsRisingSaid}
use Rattle.pn_manifest.specs.Says.{said_of}
use Rattle.pn_plain.specs.Plains.{Project}
use Rattle.pn_locking.specs.declared.project.ProjectManifest.{ProjectManifest}

abbrev pub folder_of : ProjectManifest → List ℕ
folder_of p = p.folder

abbrev pub project_of : ProjectManifest → Project
project_of p = record { folder = p.folder; said = said_of p.manifest }

-- the manifest's lists rise
abbrev pub IsRisingProject : ProjectManifest → Type 0
IsRisingProject p = IsRisingSaid (said_of p.manifest)

abbrev pub HasFolder : ProjectManifest → Type 0
HasFolder p = is_folder p.folder ≡ true
