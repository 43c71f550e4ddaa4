-- Lemmas on calls before which no other installer made a step.
use Rattle.std.proofs.Common.{◌≡◌, ℕ, [], ◌∷◌, ◌++◌, sym, ap, ◌∙◌, append-nil, inl, Some, Ok, Err}
use Rattle.std.specs.Prelude.{Result, OnOk, OnErr, IfOk}
use Rattle.pn_text.specs.declared.fault.DevFault.{DevFault}
use Rattle.pn_storecore.specs.declared.step.StoreStep.{StoreStep}
use Rattle.pn_storecore.specs.declared.step.StoreStep.TheVariants.{Read}
use Rattle.pn_storecore.specs.World.{World, empty}
use Rattle.pn_storecore.specs.Steps.{Journal, world_of}
use Rattle.pn_storecore.specs.Calls.{Grows}
use Rattle.pn_storecore.proofs.JournalLemmas.{after_both}

pub own : {T : Type 0} (r : Result T DevFault) (Made : StoreStep → Type 0) (Answer : World → T → Type 0) (me : ℕ) (j k : Journal) (s : StoreStep) → OnOk r (k ≡ j ++ (me, s) ∷ []) → OnErr r (k ≡ j) → IfOk r (Answer (world_of j)) → Grows me j s Made Answer (Some k) r
own (Ok v) Made Answer me j k s ok err answer = record { others = []; lawful = tt; theirs = tt; ok = (ap Some (ok ∙ ap (λ (x : Journal). x ++ (me, s) ∷ []) (sym (append-nil j))), answer); err = tt }
own (Err e) Made Answer me j k s ok err answer = record { others = []; lawful = tt; theirs = tt; ok = tt; err = inl (ap Some (err ∙ sym (append-nil j))) }

pub any : {T : Type 0} (r : Result T DevFault) → IfOk r (λ v. Unit {0})
any (Ok v) = tt
any (Err e) = tt

-- a step that reads leaves the world
pub same_world : (j k : Journal) (me : ℕ) (w : World) → world_of k ≡ w → k ≡ j ++ (me, Read) ∷ [] → w ≡ world_of j
same_world j k me w is grew = sym is ∙ ap world_of grew ∙ after_both empty j ((me, Read) ∷ [])
