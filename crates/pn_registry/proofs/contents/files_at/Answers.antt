use Rattle.std.proofs.Common.{subst}
use Rattle.pn_registry.specs.FilesFaults.{IsPassed, IsNamed}
use Rattle.pn_registry.proofs.Clean.{all_clean, named_refused}
use Rattle.pn_registry.proofs.ShortFiles.{named_short}
use Rattle.pn_registry.proofs.contents.files_at.Goals as goal

pub returns-in-Ok-refuse-clause-clean : goal.returns-in-Ok-refuse-clause-clean
returns-in-Ok-refuse-clause-clean g c = all_clean c.in-Ok.files (subst IsPassed c.as_slice.ensures.files c.in-Ok-refuse.ensures.clean)

pub returns-in-Err-refuse-clause-fault : goal.returns-in-Err-refuse-clause-fault
returns-in-Err-refuse-clause-fault g c =
    named_refused c.args.at.now (g.R.ReadFs.seen c.args.registry.now) (g.R.ReadFs.seen c.all_files.new.registry) c.in-Ok.files c.in-Err-refuse.fault c.in-Ok.ensures.files c.in-Ok.ensures.few c.as_slice.ensures.rising
    (subst (λ fs. IsNamed fs c.in-Err-refuse.fault) c.as_slice.ensures.files c.in-Err-refuse.ensures.named)

pub returns-in-Err-refuse-clause-named : goal.returns-in-Err-refuse-clause-named
returns-in-Err-refuse-clause-named g c =
    named_short c.args.at.now c.in-Ok.files c.in-Err-refuse.fault c.in-Ok.ensures.short c.as_slice.ensures.rising
    (subst (λ fs. IsNamed fs c.in-Err-refuse.fault) c.as_slice.ensures.files c.in-Err-refuse.ensures.named)
