-- What the removal of entries asks and leaves.
use Rattle.std.specs.Prelude.{◌≡◌, ◌++◌, ℕ, true, List, ◌∷◌, Some, None}
use Rattle.std.specs.List.{Contains}
use Rattle.pn_text.specs.Path.{Path}
use Rattle.pn_fs.specs.Tree.{Entry, Tree}
use Rattle.pn_fs.specs.Seen.{Seen}
use Rattle.pn_fs.specs.declared.kind.Kind.{Kind}
use Rattle.pn_scan.specs.Scans.{Found}
use Rattle.pn_clear.specs.Items.{Item, is_doomed}

-- The entries that are to go stand, none of them is `/`, and all that stands in one of them is to go too.
pub record CanClear (plan : List Item) (entries : List Found) (t : Tree) : Type 0 where
  pub below : (e : Found) → Contains entries e → is_doomed plan e ≡ true → (x : List ℕ) × (p : Path) × (e.0 ≡ x ∷ p)
  pub stand : (e : Found) → Contains entries e → is_doomed plan e ≡ true → t e.0 ≡ None → ⊥
  pub children : (e : Found) (y : List ℕ) (f : Entry) → Contains entries e → is_doomed plan e ≡ true → t (y ∷ e.0) ≡ Some f → (k : Kind) × Contains entries (y ∷ e.0, k) × (is_doomed plan (y ∷ e.0, k) ≡ true)

-- Writing calls were made on such paths alone.
pub record Touched (Why : Path → Type 0) (old new : Seen) : Type 0 where
  pub added : List Path
  pub touched : new.touched ≡ old.touched ++ added
  pub why : (p : Path) → Contains added p → Why p
