-- Why a file wasn't read.
use Rattle.std.specs.Prelude.{◌≡◌, ℕ, ◌<◌, List, length, Option, Some, IfSome}
use Rattle.pn_text.specs.Path.{Path}
use Rattle.pn_fs.specs.Tree.{Entry, file}
use Rattle.pn_text.specs.Causes.{Rose}
use Rattle.pn_fs.specs.Seen.{Seen}
use Rattle.pn_read.specs.declared.pieces.ReadFault.{ReadFault}
use Rattle.pn_read.specs.declared.pieces.ReadFault.TheVariants.{Fault, TooLarge, Memory}

-- a file with more bytes than that
abbrev pub IsLarge : ℕ → Option Entry → Type 0
IsLarge limit e = (bytes : List ℕ) × (e ≡ Some (file bytes)) × (limit < length bytes)

abbrev pub ReadRefused : Seen → Seen → Path → ℕ → ReadFault → Type 0
ReadRefused old new p limit Fault = Rose old.faults new.faults
ReadRefused old new p limit TooLarge = IfSome old.tree (λ t. IsLarge limit (t p))
ReadRefused old new p limit Memory = Unit {0}
