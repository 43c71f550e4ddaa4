use Rattle.std.proofs.Common.{subst}
use Rattle.std.specs.Bool.{Decides}
use Rattle.pn_storecore.specs.Stored.{AllStand}
use Rattle.pn_memstore.specs.Kept.{objects_in}
use Rattle.pn_memstore.proofs.IsWholeLemmas.{whole}
use Rattle.pn_memstore.proofs.check.is_whole.Goals as goal

pub returns-in-Ok : goal.returns-in-Ok
returns-in-Ok c = whole c.listing_law.ensures (objects_in c.args.files.now) c.args.bytes.now c.in-Ok.listing c.all_stand.result c.in-Ok.ensures.listing c.in-Ok.ensures.ok
    (subst (λ es. Decides c.all_stand.result (AllStand (objects_in c.args.files.now) es)) c.as_slice.ensures.files c.all_stand.ensures)
