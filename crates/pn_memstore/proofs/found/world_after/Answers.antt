use Rattle.std.proofs.Common.{◌≡◌, take, length, ◌+◌, ◌<◌, ◌++◌, ◌∷◌, [], ap, sym, ◌∙◌, arith}
use Rattle.std.proofs.lemmas.List.{take_more}
use Rattle.pn_storecore.specs.Steps.{Event}
use Rattle.pn_memstore.specs.Kept.{world_in}
use Rattle.pn_storecore.proofs.JournalLemmas.{made_more}
use Rattle.pn_memstore.proofs.found.world_after.Goals as goal

pub steps-preserved : goal.steps-preserved
steps-preserved c =
    let xs = c.args.steps.now in
    let i = c.steps.who-index in
    let item = c.steps-item.result in
    let within : i < length xs = omega arith in
    let grew : take (i + 1) xs ≡ take i xs ++ item ∷ [] = take_more xs i item within ∙ ap (λ (x : Event). take i xs ++ x ∷ []) (sym c.steps-item.is) in
    made_more (take i xs) (take (i + 1) xs) item.0 item.1 (world_in c.steps.world) (world_in c.take.new.self) c.steps.invariant grew c.in_ok-take.ensures.ok
