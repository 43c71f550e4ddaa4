use Rattle.std.proofs.Common.{ap, subst, ◌∙◌, Ok}
use Rattle.pn_storecore.specs.declared.step.StoreStep.TheVariants.{Read}
use Rattle.pn_storecore.specs.World.{Objects, World, objects}
use Rattle.pn_memstore.specs.Kept.{world_in}
use Rattle.pn_storecore.specs.Calls.{IsRead}
use Rattle.pn_memstore.proofs.AloneLemmas.{own, same_world}
use Rattle.pn_memstore.proofs.found.FoundStoreStoreDisk.read.Goals as goal

pub returns-clause-step : goal.returns-clause-step
returns-clause-step c =
    let me = c.args.self.now.me in
    let j = c.args.self.now.journal.items in
    let now = c.make.new.self in
    let same = same_world j now.journal.items me (world_in now.world) now.made c.in_ok-make.ensures.ok in
    let there = ap (λ (o : Objects). o.bytes c.args.at.now) (c.objects.ensures ∙ ap (λ (w : World). objects w c.args.place) same) in
    own (Ok c.read.result) _ _ me j now.journal.items Read c.in_ok-make.ensures.ok tt (subst (λ e. IsRead e c.args.from c.read.new.into c.read.result) there c.read.ensures.read)
