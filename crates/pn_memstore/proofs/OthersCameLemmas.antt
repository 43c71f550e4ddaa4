-- Lemmas on calls before which steps of other installers came.
use Rattle.pn_text.proofs.Results.{if_ok, on_err}
use Rattle.std.proofs.Common.{◌≡◌, ℕ, [], ◌∷◌, ◌++◌, refl, sym, ap, ◌∙◌, subst, append_assoc, inl, inr, Some, Err}
use Rattle.std.specs.Prelude.{Option, Result}
use Rattle.pn_text.specs.declared.fault.DevFault.{DevFault}
use Rattle.pn_storecore.specs.declared.step.StoreStep.{StoreStep}
use Rattle.pn_storecore.specs.World.{World, empty}
use Rattle.pn_storecore.specs.Steps.{Journal, world_after, world_of}
use Rattle.pn_storecore.specs.Lawful.{IsLawful, AreLawful}
use Rattle.pn_storecore.specs.Calls.{Grows}
use Rattle.pn_memstore.specs.Came.{OthersCame}
use Rattle.pn_storecore.proofs.JournalLemmas.{after_both, lawful_both, others_both}
use Rattle.pn_storecore.proofs.OwnerLemmas.{place}

world_came : (me : ℕ) (j k : Journal) (c : OthersCame me j k) → world_of k ≡ world_after (world_of j) c.others
world_came me j k c = ap world_of c.came ∙ after_both empty j c.others

pub more_came : (me : ℕ) (j k l : Journal) → OthersCame me j k → OthersCame me k l → OthersCame me j l
more_came me j k l first second = record {
  others = first.others ++ second.others;
  lawful = lawful_both (world_of j) first.others second.others first.lawful (subst (λ w. AreLawful w second.others) (world_came me j k first) second.lawful);
  theirs = others_both me first.others second.others first.theirs second.theirs;
  came = second.came ∙ ap (λ (x : Journal). x ++ second.others) first.came ∙ append_assoc j first.others second.others;
}

-- what a call asks is so when it comes to it
pub asks_behind : (me : ℕ) (s : StoreStep) (j k : Journal) → OthersCame me j k → IsLawful me s (world_of j) → IsLawful me s (world_of k)
asks_behind me s j k c h = subst (IsLawful me s) (sym (world_came me j k c)) (place (world_of j) c.others me s c.lawful c.theirs h)

pub behind : {T : Type 0} (r : Result T DevFault) (Made : StoreStep → Type 0) (Answer : World → T → Type 0) (me : ℕ) (s : StoreStep) (j k : Journal) (new : Option Journal)
    → OthersCame me j k → Grows me k s Made Answer new r → Grows me j s Made Answer new r
behind r Made Answer me s j k new c g = record {
  others = c.others ++ g.others;
  lawful = lawful_both (world_of j) c.others g.others c.lawful (subst (λ w. AreLawful w g.others) (world_came me j k c) g.lawful);
  theirs = others_both me c.others g.others c.theirs g.theirs;
  ok = if_ok r (λ v h. (h.0 ∙ ap (λ (x : Journal). Some (x ++ (me, s) ∷ [])) longer, subst (λ w. Answer w v) later h.1)) g.ok;
  err = on_err r (λ h. elim h [
    | inl none ↦ inl (none ∙ ap Some longer)
    | inr part ↦ inr (part.0, part.1, part.2 ∙ ap (λ (x : Journal). Some (x ++ (me, part.0) ∷ [])) longer)
  ]) g.err;
} where
  longer : k ++ g.others ≡ j ++ (c.others ++ g.others)
  longer = ap (λ (x : Journal). x ++ g.others) c.came ∙ append_assoc j c.others g.others

  later : world_after (world_of k) g.others ≡ world_after (world_of j) (c.others ++ g.others)
  later = ap (λ w. world_after w g.others) (world_came me j k c) ∙ sym (after_both (world_of j) c.others g.others)

-- a call that was refused before its own step
pub refused : {T : Type 0} (e : DevFault) (Made : StoreStep → Type 0) (Answer : World → T → Type 0) (me : ℕ) (s : StoreStep) (j k : Journal)
    → OthersCame me j k → Grows me j s Made Answer (Some k) (Err e)
refused e Made Answer me s j k c = record { others = c.others; lawful = c.lawful; theirs = c.theirs; ok = tt; err = inl (ap Some c.came) }

-- the same where the installer's number is told twice
pub behind_turn : {T : Type 0} (r : Result T DevFault) (Made : StoreStep → Type 0) (Answer : World → T → Type 0) (me now : ℕ) (s : StoreStep) (j k : Journal) (new : Option Journal)
    → now ≡ me → OthersCame me j k → Grows now k s Made Answer new r → Grows me j s Made Answer new r
behind_turn r Made Answer me now s j k new same c g = behind r Made Answer me s j k new c (subst (λ m. Grows m k s Made Answer new r) same g)

pub asks_turn : (me now : ℕ) (s : StoreStep) (j k : Journal) → now ≡ me → OthersCame me j k → ((x : Journal) → Some j ≡ Some x → IsLawful me s (world_of x)) → (x : Journal) → Some k ≡ Some x → IsLawful now s (world_of x)
asks_turn me now s j k same c h x told =
    let one : k ≡ x = cc in
    subst (λ y. IsLawful now s (world_of y)) one (subst (λ m. IsLawful m s (world_of k)) (sym same) (asks_behind me s j k c (h j refl)))
