-- When no plan is given.
use Rattle.std.specs.Prelude.{◌≡◌, ◌<◌, ◌≤◌, ℕ, length}
use Rattle.std.specs.Cmp.Lexicographic.{slice_cmp}
use Rattle.std.specs.Ordering.{nat_cmp}
use Rattle.std.specs.declared.cmp.Ordering.TheVariants.{Less}
use Rattle.pn_text.specs.declared.limits.TheConstants.{PATH_LIMIT}
use Rattle.pn_text.specs.Path.{Path, path_text}
use Rattle.pn_digest.specs.declared.planned.Planned.{Planned}
use Rattle.pn_tree.specs.Trees.{Layout, IsEntry}
use Rattle.pn_tree.specs.declared.fault.LayoutFault.{LayoutFault}
use Rattle.pn_tree.specs.declared.fault.LayoutFault.TheVariants.{TooLong, Memory}

-- The first path of what is planned, in byte order, whose text has more than 4,096 bytes has so many.
pub record IsTooLong (l : Layout) (size : ℕ) : Type 0 where
  pub path : Path
  pub what : Planned
  pub planned : IsEntry l path what
  pub size_is : size ≡ length (path_text path)
  pub long : PATH_LIMIT < size
  pub first : (q : Path) (w : Planned) → IsEntry l q w → slice_cmp nat_cmp (path_text q) (path_text path) ≡ Less → length (path_text q) ≤ PATH_LIMIT

abbrev pub LayoutRefused : Layout → LayoutFault → Type 0
LayoutRefused l (TooLong size) = IsTooLong l size
LayoutRefused l Memory = Unit {0}
