use Rattle.std.proofs.Common.{sym, subst, ap, ◌∷◌, [], ◌++◌, ◌∙◌}
use Rattle.std.proofs.Math.Logic.{∥∥₁_map}
use Rattle.pn_storecore.specs.World.{empty}
use Rattle.pn_storecore.specs.Lawful.{AreLawfulOrDiscards}
use Rattle.pn_storecore.specs.Steps.{Journal}
use Rattle.pn_memstore.specs.Kept.{world_in}
use Rattle.pn_storecore.proofs.JournalLemmas.{made_more, one_more}
use Rattle.pn_memstore.proofs.ledger.Ledger.take.Goals as goal

pub invariant_of-self-2 : goal.invariant_of-self-2
invariant_of-self-2 c =
    let j = c.args.self.now.journal.items in
    let grew = c.push_reserved.ensures.items ∙ ap (λ (x : Journal). x ++ (c.args.who, c.args.step) ∷ []) c.reserve.ensures.items in
    record {
      made = made_more j c.push_reserved.new.self.items c.args.who c.args.step (world_in c.args.self.now.world) (world_in c.take.new.self) c.args.self.now.made grew c.in_ok-take.ensures.ok;
      lawful = ∥∥₁_map c.args.self.now.lawful (λ h. subst (AreLawfulOrDiscards empty) (sym grew) (one_more empty j c.args.who c.args.step h c.requires));
    }
