-- Lemmas on the points at which nothing is to stand.
use Rattle.std.proofs.Common.{◌≡◌, ◌≢◌, ◌≤◌, Option, Some, None, Result, Ok, Err, sym, ap, ◌∙◌, subst, length}
use Rattle.std.specs.Prelude.{IfSome, IfErr, OnOk}
use Rattle.pn_text.specs.declared.limits.TheConstants.{PATH_LIMIT}
use Rattle.pn_text.specs.Path.{Path, path_text}
use Rattle.pn_fs.specs.Tree.{Tree}
use Rattle.pn_fs.specs.Calls.{kind_of}
use Rattle.pn_fs.specs.declared.kind.Kind.{Kind}
use Rattle.pn_fs.specs.declared.kind.Kind.TheVariants.{Absent}
use Rattle.pn_fs.proofs.Puts.{is_absent}
use Rattle.pn_status.specs.declared.status.Status.{Status}
use Rattle.pn_status.specs.declared.status.Status.TheVariants.{Memory, NotYet}
use Rattle.pn_cmd.specs.World.{World}
use Rattle.pn_cmd.specs.Points.{Refuses}
use Rattle.pn_cmd.specs.Standing.{NothingStands, Stands, IsStood}

absent : (shown : Option Tree) (p : Path) (k : Kind) → k ≡ Absent → IfSome shown (λ t. k ≡ kind_of (t p)) → IfSome shown (λ t. t p ≡ None)
absent None p k is h = tt
absent (Some t) p k is h = is_absent (t p) (sym h ∙ is)

stands : (shown : Option Tree) (p : Path) (k : Kind) → k ≢ Absent → IfSome shown (λ t. k ≡ kind_of (t p)) → IfSome shown (λ t. t p ≢ None)
stands None p k other h = tt
stands (Some t) p k other h = λ none. other (h ∙ ap kind_of none)

pub passed_at : {T : Type 0} (r : Result T Status) (shown : Option Tree) (p q : Path) (k : Kind) → length (path_text q) ≤ PATH_LIMIT → p ≡ q → IfSome shown (λ t. k ≡ kind_of (t p)) → OnOk r (k ≡ Absent) → OnOk r (NothingStands shown q)
passed_at (Ok v) shown p q k fits at is h = record { fits = fits; absent = absent shown q k h (subst (λ x. IfSome shown (λ t. k ≡ kind_of (t x))) at is) }
passed_at (Err s) shown p q k fits at is h = tt

stood_at : (s : Status) (old new : World) (p : Path) (k : Kind) → IfSome old.project.tree (λ t. k ≡ kind_of (t p)) → IsStood p k s → Refuses (Stands p) old new s
stood_at (NotYet text) old new p k is h = (h.0, h.1, stands old.project.tree p k h.2 is)
stood_at Memory old new p k is h = tt
stood_at s old new p k is h = absurd h

pub refused_at : {T : Type 0} (r : Result T Status) (old new : World) (p q : Path) (k : Kind) → p ≡ q → IfSome old.project.tree (λ t. k ≡ kind_of (t p)) → IfErr r (IsStood p k) → IfErr r (Refuses (Stands q) old new)
refused_at (Ok v) old new p q k at is h = tt
refused_at (Err s) old new p q k at is h = subst (λ x. Refuses (Stands x) old new s) at (stood_at s old new p k is h)
