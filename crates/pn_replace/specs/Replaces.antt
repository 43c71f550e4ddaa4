-- A file that is replaced by a rename.
use Rattle.std.specs.Prelude.{◌≡◌, ◌≢◌, ◌⊎◌, ℕ, List, Option, Some, None}
use Rattle.std.specs.Option.{ForSome, option_map}
use Rattle.pn_text.specs.Path.{Path}
use Rattle.pn_text.specs.Causes.{Rose}
use Rattle.pn_fs.specs.Tree.{Tree, file, put}
use Rattle.pn_replace.specs.declared.fault.ReplaceFault.{ReplaceFault}
use Rattle.pn_replace.specs.declared.fault.ReplaceFault.TheVariants.{Fault, Memory}

-- a file with the new bytes stands there, and nothing at the temporary path
abbrev pub told_replaced : Option Tree → Path → Path → List ℕ → Option Tree
told_replaced shown path temp bytes = option_map (λ t. put (put t temp None) path (Some (file bytes))) shown

-- What stood at the path stands there, or a file with the new bytes; elsewhere only the temporary path may differ.
pub record HalfReplaced (path temp : Path) (bytes : List ℕ) (t u : Tree) : Type 0 where
  pub there : (u path ≡ t path) ⊎ (u path ≡ Some (file bytes))
  pub others : (q : Path) → q ≢ path → q ≢ temp → u q ≡ t q

-- where the tree is told
abbrev pub IsHalfReplaced : Path → Path → List ℕ → Option Tree → Option Tree → Type 0
IsHalfReplaced path temp bytes old new = ForSome old (λ t. (u : Tree) × (new ≡ Some u) × HalfReplaced path temp bytes t u)

-- a call of the tree failed
abbrev pub ReplaceRefused : ℕ → ℕ → ReplaceFault → Type 0
ReplaceRefused before now Fault = Rose before now
ReplaceRefused before now Memory = Unit {0}
