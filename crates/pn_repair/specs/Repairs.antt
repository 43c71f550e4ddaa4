-- What the repair of one planned entry leaves.
use Rattle.std.specs.Prelude.{◌≡◌, ◌⊎◌, ◌++◌, ◌==◌, if◌then◌else◌, nat_le, ℕ, Bool, true, false, List, [], length, take, Option, Some, None, IfSome}
use Rattle.std.specs.List.{Contains}
use Rattle.std.specs.Option.{ForSome, MatchOption}
use Rattle.pn_text.specs.Path.{Path, same_path}
use Rattle.pn_text.specs.declared.limits.TheConstants.{FILE_LIMIT}
use Rattle.pn_fs.specs.declared.kind.Kind.{Kind}
use Rattle.pn_fs.specs.declared.kind.Kind.TheVariants as kind
use Rattle.pn_fs.specs.Tree.{Entry, folder, file, link, Tree}
use Rattle.pn_fs.specs.Seen.{Seen}
use Rattle.pn_digest.specs.declared.planned.Planned.{Planned}
use Rattle.pn_digest.specs.declared.planned.Planned.TheVariants.{Folder, Bytes, Stored, Link}
use Rattle.pn_repair.specs.Stands.{StandsAs}

-- The told tree differs at this path at most.
pub record DiffersAt (p : Path) (t u : Tree) : Type 0 where
  pub others : (q : Path) → same_path p q ≡ false → u q ≡ t q

-- After Ok: where the tree was told, the new one is, it has what is planned, and differs there at most.
abbrev pub Repaired : Path × Planned → Option Tree → Option Tree → Type 0
Repaired e old new = MatchOption old (new ≡ None) (λ t. (u : Tree) × (new ≡ Some u) × DiffersAt e.0 t u × StandsAs e.1 (u e.0))

-- What may stand at the path of an entry that was half made: what stood there, or the folder; a front of the text; some
-- bytes of a stored file; nothing in place of a link, or the link.
abbrev pub IsHalf : Planned → Option Entry → Option Entry → Type 0
IsHalf Folder was now = (now ≡ was) ⊎ (now ≡ Some folder)
IsHalf (Bytes text) was now = (now ≡ was) ⊎ ((n : ℕ) × (now ≡ Some (file (take n text))))
IsHalf (Stored d) was now = (now ≡ was) ⊎ ((bytes : List ℕ) × (now ≡ Some (file bytes)))
IsHalf (Link text) was now = (now ≡ was) ⊎ (now ≡ None) ⊎ (now ≡ Some (link text))

-- whether what stands needn't be taken away first: nothing, or an entry of the planned kind
abbrev pub fits : Planned → Kind → Bool
fits w kind.Absent = true
fits Folder kind.Folder = true
fits (Bytes text) (kind.File n) = true
fits (Stored d) (kind.File n) = true
fits (Link text) kind.Link = true
fits w k = false

-- After a refusal: it differs at that path at most, where something half done may stand.
abbrev pub HalfRepaired : Path × Planned → Option Tree → Option Tree → Type 0
HalfRepaired e old new = ForSome old (λ t. (u : Tree) × (new ≡ Some u) × DiffersAt e.0 t u × IsHalf e.1 (t e.0) (u e.0))

-- Writing calls were made on the entry's path alone, and on none where it stood as planned.
pub record TouchesWrong (e : Path × Planned) (t : Tree) (old new : Seen) : Type 0 where
  pub added : List Path
  pub touched : new.touched ≡ old.touched ++ added
  pub alone : (p : Path) → Contains added p → p ≡ e.0
  pub wrong : StandsAs e.1 (t e.0) → added ≡ []

-- whatever was answered
abbrev pub Touches : Path × Planned → Seen → Seen → Type 0
Touches e old new = IfSome old.tree (λ t. TouchesWrong e t old new)

-- How many bytes are read of what stands: at most all of a file whose length is right, and none of another one.
abbrev pub most_read : Planned → Kind → ℕ
most_read (Bytes text) (kind.File n) = if n == length text then n else 0
most_read (Stored d) (kind.File n) = if nat_le n FILE_LIMIT then n else 0
most_read w k = 0
