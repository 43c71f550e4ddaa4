-- The points at which nothing is to stand at a path.
use Rattle.std.specs.Prelude.{◌≡◌, ◌≢◌, ◌<◌, ◌≤◌, length, Option, None, IfSome}
use Rattle.pn_text.specs.declared.limits.TheConstants.{PATH_LIMIT}
use Rattle.pn_text.specs.Path.{Path, path_text}
use Rattle.pn_fs.specs.Tree.{Tree}
use Rattle.pn_fs.specs.declared.kind.Kind.{Kind}
use Rattle.pn_fs.specs.declared.kind.Kind.TheVariants.{Absent}
use Rattle.pn_status.specs.declared.status.Which.TheVariants.{Path as PathLength}
use Rattle.pn_status.specs.declared.status.Status.{Status}
use Rattle.pn_status.specs.declared.status.Status.TheVariants.{Memory, Limit, ProjectFault, NotYet}
use Rattle.pn_cmd.specs.World.{Shown}
use Rattle.pn_cmd.specs.Points.{Point}

pub record NothingStands (project : Option Tree) (p : Path) : Type 0 where
  pub fits : length (path_text p) ≤ PATH_LIMIT
  pub absent : IfSome project (λ t. t p ≡ None)

-- The path is too long, or something stands there. A path that is too long isn't asked for.
abbrev pub Stands : Path → Shown → Status → Type 0
Stands p w (Limit PathLength n) = (n ≡ length (path_text p)) × (PATH_LIMIT < n)
Stands p w (NotYet text) = (text ≡ path_text p) × (length text ≤ PATH_LIMIT) × IfSome w.trees.project (λ t. t p ≢ None)
Stands p w ProjectFault = length (path_text p) ≤ PATH_LIMIT
Stands p w s = ⊥

-- Something of this kind stands at the path, or there was no memory.
abbrev pub IsStood : Path → Kind → Status → Type 0
IsStood p k (NotYet text) = (text ≡ path_text p) × (length text ≤ PATH_LIMIT) × (k ≢ Absent)
IsStood p k Memory = Unit {0}
IsStood p k s = ⊥

abbrev pub standing : Point Path (Unit {0})
standing = record { Finds = λ p t u. NothingStands t.project p; Cause = Stands }
