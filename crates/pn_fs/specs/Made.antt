-- What a call makes of a tree of which nothing was known.
use Rattle.std.specs.Prelude.{◌≡◌, Bool, true, false, Option, Some}
use Rattle.std.specs.Option.{ForSome}
use Rattle.pn_text.specs.Path.{Path}
use Rattle.pn_fs.specs.Tree.{Entry, Tree, IsFree, put}

-- The entry was put at a free path, or the path is not free and nothing was changed.
abbrev pub IsMade : Tree → Path → Entry → Option Tree → Bool → Type 0
IsMade t p e new true = IsFree t p × (new ≡ Some (put t p (Some e)))
IsMade t p e new false = (IsFree t p → ⊥) × (new ≡ Some t)

-- The tree that is told differs at these paths alone.
abbrev pub DiffersOnly : (Path → Bool) → Option Tree → Option Tree → Type 0
DiffersOnly there old new = ForSome old (λ t. (u : Tree) × (new ≡ Some u) × ((q : Path) → there q ≡ false → u q ≡ t q))
