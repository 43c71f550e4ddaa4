-- Why no small file was read.
use Rattle.std.specs.Prelude.{◌≡◌, ◌≢◌, ℕ, ◌<◌, List, length, Option, Some, IfSome}
use Rattle.pn_text.specs.Causes.{Rose}
use Rattle.pn_text.specs.Path.{Path}
use Rattle.pn_fs.specs.Seen.{Seen}
use Rattle.pn_fs.specs.Tree.{Entry, file}
use Rattle.pn_read.specs.declared.small.SmallFault.{SmallFault}
use Rattle.pn_read.specs.declared.small.SmallFault.TheVariants.{Missing, TooLarge, Fault, Memory}

-- no file stands there
abbrev pub IsNoFile : Option Entry → Type 0
IsNoFile e = (bytes : List ℕ) → e ≢ Some (file bytes)

-- a file of this length
abbrev pub IsFileOf : ℕ → Option Entry → Type 0
IsFileOf n e = (bytes : List ℕ) × (e ≡ Some (file bytes)) × (n ≡ length bytes)

abbrev pub NotRead : Seen → Seen → Path → ℕ → SmallFault → Type 0
NotRead old new p limit Missing = IfSome old.tree (λ t. IsNoFile (t p))
NotRead old new p limit (TooLarge n) = (limit < n) × IfSome old.tree (λ t. IsFileOf n (t p))
NotRead old new p limit Fault = Rose old.faults new.faults
NotRead old new p limit Memory = Unit {0}
