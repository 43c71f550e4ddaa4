-- What is told of a status.
use Rattle.std.specs.Prelude.{◌≡◌, ◌≢◌, ◌⊎◌, ℕ, List, [], ◌∷◌, ◌++◌, Option, Some, None, codes}
use Rattle.std.specs.Fmt.{decimal}
use Rattle.hex.specs.Hex.{encode_lower}
use Rattle.pn_text.specs.Causes.{Rose}
use Rattle.pn_text.specs.declared.ids.Edge.{Edge}
use Rattle.pn_fs.specs.Seen.{Taken}
use Rattle.pn_fs.specs.Takes.{told_more}
use Rattle.pn_text.specs.Path.{Path, path_text, text_below}
use Rattle.pn_manifest.specs.declared.fault.ManifestWhy.{ManifestWhy}
use Rattle.pn_manifest.specs.declared.fault.ManifestWhy.TheVariants.{Missing, NotJson, BadField}
use Rattle.pn_status.specs.declared.status.Which.{Which}
use Rattle.pn_status.specs.declared.status.Which.TheVariants.{Packages, File, Text, Path as PathLength, Entries, Numbers}
use Rattle.pn_status.specs.declared.status.FileWhy.{FileWhy}
use Rattle.pn_status.specs.declared.status.IntegrityWhy.{IntegrityWhy}
use Rattle.pn_status.specs.declared.status.IntegrityWhy.TheVariants.{Stored}
use Rattle.pn_yaml.specs.WhyTexts.{why_text as yaml_text}
use Rattle.pn_workspace.specs.declared.fault.WorkspaceWhy.{WorkspaceWhy}
use Rattle.pn_workspace.specs.declared.fault.WorkspaceWhy.TheVariants.{NotUtf8, TooDeep, Line, BadKey}
use Rattle.pn_status.specs.declared.status.FileWhy.TheVariants.{Manifest as of_manifest, Workspace as of_workspace, BadTags}
use Rattle.pn_status.specs.declared.status.Status.{Status}
use Rattle.pn_status.specs.declared.status.Status.TheVariants.{Done, Memory, Usage, Manifest, NoVersion, Unsupported, Integrity, Foreign, Limit, Bundled, DigestClash, ProjectFault, StoreFault, RegistryFault, SinkFault, NotYet}
use Rattle.pn_status.specs.Told.{TookSome}

abbrev pub why_text : ManifestWhy → List ℕ
why_text Missing = codes "missing\n"
why_text NotJson = codes "not JSON\n"
why_text (BadField f k) = codes "bad field " ++ f ++ codes " " ++ k ++ codes "\n"

-- the same of a workspace file
abbrev pub space_text : WorkspaceWhy → List ℕ
space_text NotUtf8 = codes "not UTF-8\n"
space_text TooDeep = codes "too deep\n"
space_text (Line n why) = codes "line " ++ decimal n ++ codes ": " ++ yaml_text why ++ codes "\n"
space_text (BadKey k) = codes "bad key " ++ k ++ codes "\n"

abbrev pub file_text : FileWhy → List ℕ
file_text (of_manifest why) = why_text why
file_text (of_workspace why) = space_text why
file_text BadTags = codes "bad tags\n"

abbrev pub which_text : Which → List ℕ
which_text Packages = codes "packages "
which_text File = codes "file "
which_text Text = codes "text "
which_text PathLength = codes "path "
which_text Entries = codes "entries "
which_text Numbers = codes "numbers "

-- whose dependency, what is said of it, and the dependency
abbrev pub edge_text : List ℕ → Edge → List ℕ
edge_text verb e = e.from ++ verb ++ e.alias ++ codes "@" ++ e.specifier ++ codes "\n"

abbrev pub behind_first : List ℕ → List ℕ
behind_first [] = []
behind_first (b ∷ bs) = bs

-- the text of a relative path
abbrev pub tail_text : Path → List ℕ
tail_text q = behind_first (text_below q)

-- the digest that was found, or that there is none
abbrev pub found_text : Option (List ℕ) → List ℕ
found_text None = codes "absent"
found_text (Some d) = encode_lower d

abbrev pub integrity_text : IntegrityWhy → List ℕ
integrity_text (Stored at found) = codes "stored " ++ encode_lower at ++ codes " is " ++ found_text found ++ codes "\n"

-- the line of each refusal
abbrev pub status_line : Status → List ℕ
status_line Done = []
status_line Memory = codes "pnpm-rs: out of memory\n"
status_line Usage = codes "pnpm-rs: usage: install\n"
status_line (Manifest path why) = codes "pnpm-rs: manifest: " ++ path ++ codes ": " ++ file_text why
status_line (NoVersion edge) = codes "pnpm-rs: no version: " ++ edge_text (codes " needs ") edge
status_line (Unsupported edge) = codes "pnpm-rs: unsupported: " ++ edge_text (codes " has ") edge
status_line (Integrity why) = codes "pnpm-rs: integrity: " ++ integrity_text why
status_line (Foreign path) = codes "pnpm-rs: foreign: " ++ path_text path ++ codes "\n"
status_line (Limit which n) = codes "pnpm-rs: limit: " ++ which_text which ++ decimal n ++ codes "\n"
status_line (Bundled id path) = codes "pnpm-rs: bundled: " ++ id ++ codes " " ++ tail_text path ++ codes "\n"
status_line (DigestClash at) = codes "pnpm-rs: digest clash: " ++ encode_lower at ++ codes "\n"
status_line ProjectFault = codes "pnpm-rs: project fault\n"
status_line StoreFault = codes "pnpm-rs: store fault\n"
status_line RegistryFault = codes "pnpm-rs: registry fault\n"
status_line SinkFault = codes "pnpm-rs: output fault\n"
status_line (NotYet text) = codes "pnpm-rs: not yet: " ++ text ++ codes "\n"

-- The line of an answer was taken, or a front of it where a fault rose.
pub record TellsLine (s : Status) (old new : Taken) : Type 0 where
  pub some : TookSome (status_line s) old new
  pub all : (Rose old.faults new.faults → ⊥) → new.bytes ≡ told_more old.bytes (status_line s)

-- What is told of an answer: nothing where the run is done; where there was no memory, at most the line of an answer that
-- there could have been; else its line.
abbrev pub Tells : (Status → Type 0) → Taken → Taken → Status → Type 0
Tells Could old new Done = new ≡ old
Tells Could old new Memory = (s : Status) × Could s × TookSome (status_line s) old new
Tells Could old new s = TellsLine s old new

-- This answer, or want of memory in place of a refusal.
abbrev pub OrMemory : Status → Status → Type 0
OrMemory s v = (v ≡ s) ⊎ ((v ≡ Memory) × (s ≢ Done))
