use Rattle.std.proofs.Common.{ap, ◌∷◌, [], ◌++◌, ◌∙◌}
use Rattle.pn_storecore.specs.Steps.{Journal}
use Rattle.pn_memstore.specs.Kept.{world_in}
use Rattle.pn_storecore.proofs.JournalLemmas.{made_more}
use Rattle.pn_memstore.proofs.found.FoundStore.make.Goals as goal

pub invariant_of-self-2 : goal.invariant_of-self-2
invariant_of-self-2 c =
    let j = c.args.self.now.journal.items in
    let me = c.args.self.now.me in
    let grew = c.push_reserved.ensures.items ∙ ap (λ (x : Journal). x ++ (me, c.args.step) ∷ []) c.reserve.ensures.items in
    record { made = made_more j c.push_reserved.new.self.items me c.args.step (world_in c.args.self.now.world) (world_in c.take.new.self) c.args.self.now.made grew c.in_ok-take.ensures.ok }
