-- What stands at addresses after lawful steps, and after discards.
use Rattle.std.proofs.Common.{◌≡◌, ℕ, ◌≤◌, zero, suc, List, [], ◌∷◌, length, take, true, sym, ◌∙◌, subst, inl, inr, Some, None}
use Rattle.std.specs.Prelude.{Option}
use Rattle.std.specs.List.{AllByRecursion}
use Rattle.std.specs.Map.{update}
use Rattle.std.specs.Str.{bytes_eq}
use Rattle.std.proofs.Math.Logic.{∥∥₁_map, ∥∥₁_elim}
use Rattle.std.proofs.Props.{props}
use Rattle.sha2.specs.Sha512.{sha512}
use Rattle.pn_storecore.specs.declared.step.Place.{Place}
use Rattle.pn_storecore.specs.declared.step.Place.TheVariants.{Files, Listings}
use Rattle.pn_storecore.specs.declared.step.Discard.TheVariants as what
use Rattle.pn_storecore.specs.declared.step.StoreStep.{StoreStep}
use Rattle.pn_storecore.specs.declared.step.StoreStep.TheVariants.{Claim, Create, Append, Shard, PublishFile, PublishListing, DropTemp, Read, Discard}
use Rattle.pn_storecore.specs.World.{Objects, World, empty, objects, Stands}
use Rattle.pn_text.specs.declared.limits.TheConstants.{FILE_LIMIT}
use Rattle.pn_storecore.specs.Stored.{IsStoredFile}
use Rattle.pn_storecore.specs.Steps.{Event, Journal, after, world_after, world_of}
use Rattle.pn_storecore.specs.Lawful.{IsLawful, AreLawful, IsDiscard, AreLawfulOrDiscards}
use Rattle.pn_storecore.specs.Sound.{IsSound, IsAddressed, MayStand}
use Rattle.pn_storecore.specs.Laws.{SoundLaw, PublishedLaw, KeepsObjects}
use Rattle.pn_storecore.proofs.UpdateLemmas.{at_address}
use Rattle.pn_storecore.proofs.IsLawfulLemmas.{Changes, files_change, listings_change, file_shards, listing_shards, stays, sound_step}

pub sound_empty : IsSound empty
sound_empty = record { files = λ at bytes e. cc; listings = λ at bytes e. cc; owners = λ k a b p q. cc }

pub sound_steps : (w : World) (steps : Journal) → IsSound w → AreLawful w steps → IsSound (world_after w steps)
sound_steps w [] sound h = sound
sound_steps w (e ∷ es) sound h = sound_steps (after e.0 e.1 w) es (sound_step w e.0 e.1 sound h.0) h.1

front : (w : World) (steps : Journal) (k : ℕ) → AreLawful w steps → AreLawful w (take k steps)
front w [] zero h = tt
front w [] (suc k) h = tt
front w (e ∷ es) zero h = tt
front w (e ∷ es) (suc k) h = (h.0, front (after e.0 e.1 w) es k h.1)

undiscarded : (w : World) (steps : Journal) → AreLawfulOrDiscards w steps → AllByRecursion (λ (e : Event). IsDiscard e.1 → ⊥) steps → AreLawful w steps
undiscarded w [] h none = tt
undiscarded w (e ∷ es) h none = (elim h.0 [ inl lawful ↦ lawful | inr discard ↦ absurd (none.0 discard) ], undiscarded (after e.0 e.1 w) es h.1 none.1)

addressed_lawful : (w : World) (who : ℕ) (s : StoreStep) → IsAddressed w → IsLawful who s w → IsAddressed (after who s w)
addressed_lawful w who s is h = record {
  files = λ at bytes e. elim (files_change w who s h at) [
    | inl same ↦ is.files at bytes (sym same ∙ e)
    | inr now ↦ let one : now.0 ≡ bytes = cc (now.1, e) in subst (IsStoredFile at) one now.2
  ];
  listings = λ at bytes e. elim (listings_change w who s h at) [
    | inl same ↦ is.listings at bytes (sym same ∙ e)
    | inr now ↦ let one : now.0 ≡ bytes = cc (now.1, e) in subst (λ b. sha512 b ≡ at) one now.2.addressed
  ];
}

-- what stands where one address was emptied stood before
pub emptied_at : (f : List ℕ → Option (List ℕ)) (at q bytes : List ℕ) → update bytes_eq f at None q ≡ Some bytes → f q ≡ Some bytes
emptied_at f at q bytes e = elim (at_address f at None q) [
  | inl here ↦ let clash : None ≡ Some bytes = sym here.1 ∙ e in cc
  | inr other ↦ sym other.1 ∙ e
]

pub addressed_discard : (w : World) (who : ℕ) (s : StoreStep) → IsAddressed w → IsDiscard s → IsAddressed (after who s w)
addressed_discard w who (Claim k) is h = absurd h
addressed_discard w who (Create k n) is h = absurd h
addressed_discard w who (Append k n more) is h = absurd h
addressed_discard w who (Shard place first) is h = absurd h
addressed_discard w who (PublishFile k n at) is h = absurd h
addressed_discard w who (PublishListing k n at) is h = absurd h
addressed_discard w who (DropTemp k n) is h = absurd h
addressed_discard w who Read is h = absurd h
addressed_discard w who (Discard (what.Temp k)) is h = record { files = is.files; listings = is.listings }
addressed_discard w who (Discard (what.File at)) is h = record { files = λ q bytes e. is.files q bytes (emptied_at w.files.bytes at q bytes e); listings = is.listings }
addressed_discard w who (Discard (what.Listing at)) is h = record { files = is.files; listings = λ q bytes e. is.listings q bytes (emptied_at w.listings.bytes at q bytes e) }

pub addressed_steps : (w : World) (steps : Journal) → IsAddressed w → AreLawfulOrDiscards w steps → IsAddressed (world_after w steps)
addressed_steps w [] is h = is
addressed_steps w (e ∷ es) is h = addressed_steps (after e.0 e.1 w) es (elim h.0 [ inl lawful ↦ addressed_lawful w e.0 e.1 is lawful | inr discard ↦ addressed_discard w e.0 e.1 is discard ]) h.1

addressed_told : (journal : Journal) → AreLawfulOrDiscards empty journal → IsAddressed (world_of journal)
addressed_told journal h = addressed_steps empty journal (record { files = λ at bytes e. cc; listings = λ at bytes e. cc }) h

pub addressed_at : (w : World) (place : Place) (at bytes : List ℕ) → IsAddressed w → (objects w place).bytes at ≡ Some bytes → MayStand place at bytes
addressed_at w Files at bytes is e = is.files at bytes e
addressed_at w Listings at bytes is e = is.listings at bytes e

pub right_digest : (place : Place) (at bytes : List ℕ) → MayStand place at bytes → sha512 bytes ≡ at
right_digest Files at bytes h = h.addressed
right_digest Listings at bytes h = h

pub sound_addressed : (w : World) → IsSound w → IsAddressed w
sound_addressed w is = record { files = is.files; listings = λ at bytes e. (is.listings at bytes e).addressed }

front_any : (w : World) (steps : Journal) (k : ℕ) → AreLawfulOrDiscards w steps → AreLawfulOrDiscards w (take k steps)
front_any w [] zero h = tt
front_any w [] (suc k) h = tt
front_any w (e ∷ es) zero h = tt
front_any w (e ∷ es) (suc k) h = (h.0, front_any (after e.0 e.1 w) es k h.1)

all_lawful : (w : World) (steps : Journal) → AreLawful w steps → AreLawfulOrDiscards w steps
all_lawful w [] h = tt
all_lawful w (e ∷ es) h = (inl h.0, all_lawful (after e.0 e.1 w) es h.1)

pub addressed_stays : (w : World) (steps : Journal) → IsAddressed w → AreLawful w steps → IsAddressed (world_after w steps)
addressed_stays w steps is h = addressed_steps w steps is (all_lawful w steps h)

same_digest : (a b : List ℕ) → IsProp (a ≡ b)
same_digest a b = hlevel props

at_most : (a b : ℕ) → IsProp (a ≤ b)
at_most a b = hlevel props

pub sound : SoundLaw
sound = record {
  at_first = sound_empty;
  stays = λ w steps is h k. sound_steps w (take k steps) is (front w steps k h);
  digests = sound_addressed;
  digests_stay = λ w steps is h k. addressed_steps w (take k steps) is (front_any w steps k h);
  told = λ journal h none. ∥∥₁_map h (λ l. sound_steps empty journal sound_empty (undiscarded empty journal l none));
  addressed = λ journal h. record {
    files = λ at bytes e. record {
      addressed = ∥∥₁_elim h (same_digest (sha512 bytes) at) (λ l. ((addressed_told journal l).files at bytes e).addressed);
      short = ∥∥₁_elim h (at_most (length bytes) FILE_LIMIT) (λ l. ((addressed_told journal l).files at bytes e).short);
    };
    listings = λ at bytes e. ∥∥₁_elim h (same_digest (sha512 bytes) at) (λ l. (addressed_told journal l).listings at bytes e);
  };
}

step_keeps : {May : List ℕ → List ℕ → Type 0} (old new : Objects) → ((at bytes : List ℕ) → old.bytes at ≡ Some bytes → sha512 bytes ≡ at) → ((at bytes : List ℕ) → May at bytes → sha512 bytes ≡ at)
    → ((first : ℕ) → old.shards first ≡ true → new.shards first ≡ true) → Changes May old new → KeepsObjects old new
step_keeps old new stood may shards change = record {
  stands = λ at bytes e. elim (change at) [
    | inl same ↦ (bytes, same ∙ e, stood at bytes e)
    | inr now ↦ (now.0, now.1, may at now.0 now.2)
  ];
  shards = shards;
}

keeps_more : (a b c : Objects) → KeepsObjects a b → KeepsObjects b c → KeepsObjects a c
keeps_more a b c first second = record {
  stands = λ at bytes e. let now = first.stands at bytes e in second.stands at now.0 now.1;
  shards = λ s e. second.shards s (first.shards s e);
}

keeps_same : (o : Objects) → ((at bytes : List ℕ) → o.bytes at ≡ Some bytes → sha512 bytes ≡ at) → KeepsObjects o o
keeps_same o stood = record { stands = λ at bytes e. (bytes, e, stood at bytes e); shards = λ s e. e }

keeps_files : (w : World) (steps : Journal) → IsSound w → AreLawful w steps → KeepsObjects w.files (world_after w steps).files
keeps_files w [] is h = keeps_same w.files (λ at bytes e. (is.files at bytes e).addressed)
keeps_files w (e ∷ es) is h = keeps_more w.files (after e.0 e.1 w).files (world_after (after e.0 e.1 w) es).files
    (step_keeps w.files (after e.0 e.1 w).files (λ at bytes p. (is.files at bytes p).addressed) (λ at bytes p. p.addressed) (file_shards w e.0 e.1 h.0) (files_change w e.0 e.1 h.0))
    (keeps_files (after e.0 e.1 w) es (sound_step w e.0 e.1 is h.0) h.1)

keeps_listings : (w : World) (steps : Journal) → IsSound w → AreLawful w steps → KeepsObjects w.listings (world_after w steps).listings
keeps_listings w [] is h = keeps_same w.listings (λ at bytes e. (is.listings at bytes e).addressed)
keeps_listings w (e ∷ es) is h = keeps_more w.listings (after e.0 e.1 w).listings (world_after (after e.0 e.1 w) es).listings
    (step_keeps w.listings (after e.0 e.1 w).listings (λ at bytes p. (is.listings at bytes p).addressed) (λ at bytes p. p.addressed) (listing_shards w e.0 e.1 h.0) (listings_change w e.0 e.1 h.0))
    (keeps_listings (after e.0 e.1 w) es (sound_step w e.0 e.1 is h.0) h.1)

-- what stands keeps standing
pub files_stay : (w : World) (steps : Journal) → AreLawful w steps → (at : List ℕ) → Stands w.files at → Stands (world_after w steps).files at
files_stay w [] h at stood = stood
files_stay w (e ∷ es) h at stood = files_stay (after e.0 e.1 w) es h.1 at (stays w.files (after e.0 e.1 w).files (files_change w e.0 e.1 h.0) at stood)

pub listings_stay : (w : World) (steps : Journal) → AreLawful w steps → (at : List ℕ) → Stands w.listings at → Stands (world_after w steps).listings at
listings_stay w [] h at stood = stood
listings_stay w (e ∷ es) h at stood = listings_stay (after e.0 e.1 w) es h.1 at (stays w.listings (after e.0 e.1 w).listings (listings_change w e.0 e.1 h.0) at stood)

pub published : PublishedLaw
published = record {
  files = keeps_files;
  listings = keeps_listings;
  named = λ w steps is h at bytes file e names. files_stay w steps h file ((is.listings at bytes e).whole.named file names);
}
