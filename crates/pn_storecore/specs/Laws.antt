-- What lawful steps of any number of installers leave.
use Rattle.std.specs.Prelude.{◌≡◌, ◌≢◌, ℕ, true, List, take, Some, None}
use Rattle.std.specs.List.{AllByRecursion}
use Rattle.sha2.specs.Sha512.{sha512}
use Rattle.pn_digest.specs.Listing.{Names}
use Rattle.pn_storecore.specs.declared.step.StoreStep.{StoreStep}
use Rattle.pn_storecore.specs.declared.step.StoreStep.TheVariants.{Claim, DropTemp}
use Rattle.pn_storecore.specs.World.{Objects, World, empty, Stands, owner_of, claimed_by}
use Rattle.pn_storecore.specs.Steps.{Event, Journal, after, world_after, world_of}
use Rattle.pn_storecore.specs.Lawful.{IsLawful, AreLawful, AreOthers, IsDiscard, AreLawfulOrDiscards}
use Rattle.pn_storecore.specs.Sound.{IsSound, IsAddressed}

-- The empty store is sound, and a sound one stays so after each lawful step. What stands in a sound store has its
-- address as digest, and that stays so after discards too. So a lawful journal without discards leaves a sound
-- store, and after any lawful journal, discards aside, what stands has its address as digest.
pub record SoundLaw : Type 0 where
  pub at_first : IsSound empty
  pub stays : (w : World) (steps : Journal) → IsSound w → AreLawful w steps → (k : ℕ) → IsSound (world_after w (take k steps))
  pub digests : (w : World) → IsSound w → IsAddressed w
  pub digests_stay : (w : World) (steps : Journal) → IsAddressed w → AreLawfulOrDiscards w steps → (k : ℕ) → IsAddressed (world_after w (take k steps))
  pub told : (journal : Journal) → ∥ AreLawfulOrDiscards empty journal ∥₁ → AllByRecursion (λ (e : Event). IsDiscard e.1 → ⊥) journal → ∥ IsSound (world_of journal) ∥₁
  pub addressed : (journal : Journal) → ∥ AreLawfulOrDiscards empty journal ∥₁ → IsAddressed (world_of journal)

-- Where something stood, something stands that has the address as digest.
pub record KeepsObjects (old new : Objects) : Type 0 where
  pub stands : (at bytes : List ℕ) → old.bytes at ≡ Some bytes → (now : List ℕ) × (new.bytes at ≡ Some now) × (sha512 now ≡ at)
  pub shards : (first : ℕ) → old.shards first ≡ true → new.shards first ≡ true

-- Where something is published, something of that digest stays, and so at each file that a published
-- listing names.
pub record PublishedLaw : Type 0 where
  pub files : (w : World) (steps : Journal) → IsSound w → AreLawful w steps → KeepsObjects w.files (world_after w steps).files
  pub listings : (w : World) (steps : Journal) → IsSound w → AreLawful w steps → KeepsObjects w.listings (world_after w steps).listings
  pub named : (w : World) (steps : Journal) → IsSound w → AreLawful w steps → (at bytes file : List ℕ) → w.listings.bytes at ≡ Some bytes → Names bytes file → Stands (world_after w steps).files file

-- the step by which an installer drops a number
abbrev pub dropping : ℕ → ℕ → Event
dropping who k = (who, DropTemp k None)

-- A number belongs to one installer from its claim until it drops it.
pub record OwnerLaw : Type 0 where
  pub free : (w : World) (who k : ℕ) → w.temps k ≡ None → (after who (Claim k) w).temps k ≡ Some (claimed_by who)
  pub taken : (w : World) (who k : ℕ) → w.temps k ≢ None → after who (Claim k) w ≡ w
  pub others : (w : World) (steps : Journal) (me k : ℕ) → owner_of w k ≡ Some me → AreLawful w steps → AreOthers me steps → (world_after w steps).temps k ≡ w.temps k
  pub undropped : (w : World) (steps : Journal) (me k : ℕ) → owner_of w k ≡ Some me → AreLawful w steps → AllByRecursion (λ (e : Event). e ≢ dropping me k) steps → owner_of (world_after w steps) k ≡ Some me

-- A step that is lawful for an installer is so after any lawful steps of others.
abbrev pub PlaceLaw : Type 0
PlaceLaw = (w : World) (others : Journal) (me : ℕ) (step : StoreStep) → AreLawful w others → AreOthers me others → IsLawful me step w → IsLawful me step (world_after w others)
