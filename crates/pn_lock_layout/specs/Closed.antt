-- What a plan of managed folders has.
use Rattle.std.specs.Prelude.{◌≡◌, ℕ, List, ◌∷◌, ◌++◌}
use Rattle.std.specs.List.{Contains}
use Rattle.pn_text.specs.Path.{Path}
use Rattle.pn_digest.specs.declared.planned.Planned.{Planned}
use Rattle.pn_digest.specs.declared.planned.Planned.TheVariants.{Folder, Bytes}
use Rattle.pn_node.specs.Plan.{marker_name}
use Rattle.pn_tree.specs.Trees.{Managed}

-- Each managed folder and its marker are planned, and all that is planned is one of them or below one, there in a folder that
-- is planned too.
pub record AreClosed (managed : List Managed) (plan : List (Path × Planned)) : Type 0 where
  pub tops : (m : Managed) → Contains managed m → Contains plan (m.0, Folder)
  pub markers : (m : Managed) → Contains managed m → Contains plan (marker_name ∷ m.0, Bytes m.1)
  pub within : (q : Path) (w : Planned) → Contains plan (q, w) → (m : Managed) × Contains managed m × ((r : Path) × (q ≡ r ++ m.0))
  pub parents : (x : List ℕ) (r : Path) (w : Planned) (m : Managed) → Contains managed m → Contains plan (x ∷ (r ++ m.0), w) → Contains plan (r ++ m.0, Folder)
