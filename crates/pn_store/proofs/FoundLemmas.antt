-- Lemmas on the files of a listing that stood at a step.
use Rattle.std.proofs.Common.{◌≡◌, ℕ, List, [], ◌∷◌, ◌++◌, sym, ◌∙◌, subst, append_assoc, inl, inr, ◌⊎◌, Some}
use Rattle.std.specs.Prelude.{Option}
use Rattle.std.proofs.lemmas.List.{append_cancel_left}
use Rattle.pn_digest.specs.Listing.{Names}
use Rattle.pn_storecore.specs.declared.step.Place.TheVariants.{Files, Listings}
use Rattle.pn_storecore.specs.World.{World, empty, objects, Stands}
use Rattle.pn_storecore.specs.Steps.{Journal, after, world_after, world_of}
use Rattle.pn_storecore.specs.Lawful.{AreLawful}
use Rattle.pn_storecore.specs.Sound.{IsSound}
use Rattle.pn_storecore.specs.Held.{HasObject}
use Rattle.pn_storecore.specs.Grew.{GrewTo, WasTo}
use Rattle.pn_storecore.proofs.JournalLemmas.{after_both}
use Rattle.pn_storecore.proofs.IsSoundLemmas.{sound_steps, published}
use Rattle.pn_storecore.proofs.DidLemmas.{if_told, told_if}
use Rattle.pn_store.specs.Reads.{Changed, FoundLaw}

lawful_cut : (w : World) (xs ys : Journal) → AreLawful w (xs ++ ys) → AreLawful w xs × AreLawful (world_after w xs) ys
lawful_cut w [] ys h = (tt, h)
lawful_cut w (e ∷ xs) ys h = let c = lawful_cut (after e.0 e.1 w) xs ys h.1 in ((h.0, c.0), c.1)

named_stand : (j : Journal) (at text file : List ℕ) (new : Option Journal) → GrewTo j new → IsSound (world_of j) → WasTo Listings at (Some text) j new → Names text file → (x : Journal) → new ≡ Some x → Stands (objects (world_of x) Files) file
named_stand j at text file new g sound h names x told =
    let twice : j ++ g.steps ≡ j ++ h.front ++ h.back = cc (g.came, h.came) in
    let same = append_cancel_left j g.steps (h.front ++ h.back) (twice ∙ append_assoc j h.front h.back) in
    let lawful = lawful_cut (world_of j) h.front h.back (subst (AreLawful (world_of j)) same g.lawful) in
    let mid : IsSound (world_of (j ++ h.front)) = subst IsSound (sym (after_both empty j h.front)) (sound_steps (world_of j) h.front sound lawful.0) in
    let there = published.named (world_of (j ++ h.front)) h.back mid (subst (λ w. AreLawful w h.back) (sym (after_both empty j h.front)) lawful.1) at text file h.was names in
    let is : j ++ h.front ++ h.back ≡ x = cc (h.came, told) in
    subst (λ (y : Journal). Stands (objects (world_of y) Files) file) is (subst (λ (w : World). Stands w.files file) (sym (after_both empty (j ++ h.front) h.back)) there)

pub found : FoundLaw
found at text old new grew sound stood = if_told (λ j. ((file : List ℕ) → Names text file → HasObject new Files file) ⊎ Changed Listings at old new) old.journal (λ j is. elim stood [
  | inl was ↦ inl (λ file names x told.
      named_stand j at text file new.journal (told_if (λ j. GrewTo j new.journal) old.journal j is grew.journal) (sound j is) (told_if (λ j. WasTo Listings at (Some text) j new.journal) old.journal j is was) names x told)
  | inr changed ↦ inr changed
])
