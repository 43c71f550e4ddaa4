-- Lemmas on journals that grow.
use Rattle.std.proofs.Common.{◌≡◌, ℕ, [], ◌∷◌, ◌++◌, refl, sym, ap, ◌∙◌, ◌⊎◌}
use Rattle.pn_storecore.specs.declared.step.StoreStep.{StoreStep}
use Rattle.pn_storecore.specs.World.{World, empty}
use Rattle.pn_storecore.specs.Steps.{Journal, after, world_after, world_of}
use Rattle.pn_storecore.specs.Lawful.{IsLawful, AreLawful, AreOthers, IsDiscard, AreLawfulOrDiscards}

pub after_both : (w : World) (xs ys : Journal) → world_after w (xs ++ ys) ≡ world_after (world_after w xs) ys
after_both w [] ys = refl
after_both w (e ∷ xs) ys = after_both (after e.0 e.1 w) xs ys

pub lawful_both : (w : World) (xs ys : Journal) → AreLawful w xs → AreLawful (world_after w xs) ys → AreLawful w (xs ++ ys)
lawful_both w [] ys first second = second
lawful_both w (e ∷ xs) ys first second = (first.0, lawful_both (after e.0 e.1 w) xs ys first.1 second)

pub others_both : (me : ℕ) (xs ys : Journal) → AreOthers me xs → AreOthers me ys → AreOthers me (xs ++ ys)
others_both me [] ys first second = second
others_both me (e ∷ xs) ys first second = (first.0, others_both me xs ys first.1 second)

pub one_more : (w : World) (xs : Journal) (who : ℕ) (s : StoreStep) → AreLawfulOrDiscards w xs → IsLawful who s (world_after w xs) ⊎ IsDiscard s → AreLawfulOrDiscards w (xs ++ (who, s) ∷ [])
one_more w [] who s first last = (last, tt)
one_more w (e ∷ xs) who s first last = (first.0, one_more (after e.0 e.1 w) xs who s first.1 last)

-- the world of a journal with one more step
pub made_more : (j k : Journal) (who : ℕ) (s : StoreStep) (v w : World) → world_of j ≡ v → k ≡ j ++ (who, s) ∷ [] → w ≡ after who s v → world_of k ≡ w
made_more j k who s v w is grew next = ap world_of grew ∙ after_both empty j ((who, s) ∷ []) ∙ ap (after who s) is ∙ sym next
