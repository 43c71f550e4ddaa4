use Rattle.std.proofs.Common.{◌≤◌, ℕ, Option, length, subst, IfSome}
use Rattle.std.specs.Prelude.{Vec}
use Rattle.std.specs.Global.{Global}
use Rattle.pn_lockfile.specs.declared.limits.TheConstants.{LOCKFILE_LIMIT}
use Rattle.pn_lockfile.proofs.FoundLemmas.{found_in}
use Rattle.pn_lockfile.proofs.reading.read_lockfile.Goals as goal

pub returns-in-Ok-clause-found : goal.returns-in-Ok-clause-found
returns-in-Ok-clause-found g c =
    found_in (g.P.ReadFs.seen c.args.fs.now).tree c.args.path.now c.in-Ok.found c.in_ok-bytes.field-0 c.in-Some.bytes c.in_ok-bytes.ensures.bytes c.in-Some.is c.in-Ok.ensures.bytes
    (subst (λ (o : Option (Vec ℕ Global)). IfSome o (λ v. length v.items ≤ LOCKFILE_LIMIT)) c.in-Some.is c.in_ok-bytes.ensures.short) c.in-Ok.ensures.spells
