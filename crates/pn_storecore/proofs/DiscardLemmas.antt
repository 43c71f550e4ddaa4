-- What a discard takes away and leaves.
use Rattle.std.proofs.Common.{◌≡◌, ℕ, List, true, [], ◌∷◌, refl, sym, ap, ◌∙◌, subst, inl, inr, Some, None, Ok, Err}
use Rattle.std.specs.Prelude.{Result, OnOk}
use Rattle.pn_text.specs.declared.fault.DevFault.{DevFault}
use Rattle.pn_storecore.specs.declared.step.Place.{Place}
use Rattle.pn_storecore.specs.declared.step.Place.TheVariants.{Files, Listings}
use Rattle.pn_storecore.specs.declared.step.Discard.{Discard}
use Rattle.pn_storecore.specs.declared.step.Discard.TheVariants as what
use Rattle.pn_storecore.specs.declared.step.StoreStep.TheVariants as step
use Rattle.pn_storecore.specs.World.{World, objects, Stands}
use Rattle.pn_storecore.specs.Steps.{Journal, after, world_after, world_of, discarded}
use Rattle.pn_storecore.specs.Lawful.{AreLawful}
use Rattle.pn_storecore.specs.Sound.{IsSound, IsAddressed}
use Rattle.pn_storecore.specs.Seen.{Seen, Keeps}
use Rattle.pn_storecore.specs.Calls.{Does}
use Rattle.pn_storecore.specs.Held.{HasShard, HasObject, Lacks, IsFree, IsSoundStore, IsAddressedStore}
use Rattle.pn_storecore.specs.Grew.{Did}
use Rattle.pn_storecore.specs.DiscardLaws.{IsOf, DiscardLaw}
use Rattle.pn_storecore.proofs.UpdateLemmas.{at_number, at_address}
use Rattle.pn_storecore.proofs.IsSoundLemmas.{emptied_at, sound_steps, addressed_stays, addressed_discard, files_stay, listings_stay}
use Rattle.pn_storecore.proofs.OwnerLemmas.{shards_stay, listing_shards_stay}
use Rattle.pn_storecore.proofs.GrowsLemmas.{before, world_now, grown}
use Rattle.pn_storecore.proofs.StandsLemmas.{put_here}
use Rattle.pn_storecore.proofs.DidLemmas.{told_part}
use Rattle.pn_storecore.proofs.IsUndisturbedLemmas.{sound_file}

number_gone : (w : World) (k : ℕ) → (discarded (what.Temp k) w).temps k ≡ None
number_gone w k = elim (at_number w.temps k None k) [ inl here ↦ here.1 | inr other ↦ absurd (other.0 refl) ]

temp_gone : (old new : Seen) (k : ℕ) (r : Result (Unit {0}) DevFault) → Keeps old new → Does old (step.Discard (what.Temp k)) new r → OnOk r (IsFree new k)
temp_gone old new k (Err e) kept h = tt
temp_gone old new k (Ok v) kept h = λ x told.
    let s = step.Discard (what.Temp k) in
    let g = (grown v (λ made. made ≡ s) (λ w answer. Unit {0}) old new s x kept h told).0 in
    let mine = (old.me, s) ∷ [] in
    ap (λ (w : World). w.temps k) (world_now old new x mine g) ∙ number_gone (before old new x mine g) k

file_gone : (old new : Seen) (at : List ℕ) (r : Result (Unit {0}) DevFault) → Keeps old new → Does old (step.Discard (what.File at)) new r → OnOk r (Lacks new Files at)
file_gone old new at (Err e) kept h = tt
file_gone old new at (Ok v) kept h = λ x told.
    let s = step.Discard (what.File at) in
    let g = (grown v (λ made. made ≡ s) (λ w answer. Unit {0}) old new s x kept h told).0 in
    let mine = (old.me, s) ∷ [] in
    ap (λ (w : World). w.files.bytes at) (world_now old new x mine g) ∙ put_here (before old new x mine g).files.bytes at None

listing_gone : (old new : Seen) (at : List ℕ) (r : Result (Unit {0}) DevFault) → Keeps old new → Does old (step.Discard (what.Listing at)) new r → OnOk r (Lacks new Listings at)
listing_gone old new at (Err e) kept h = tt
listing_gone old new at (Ok v) kept h = λ x told.
    let s = step.Discard (what.Listing at) in
    let g = (grown v (λ made. made ≡ s) (λ w answer. Unit {0}) old new s x kept h told).0 in
    let mine = (old.me, s) ∷ [] in
    ap (λ (w : World). w.listings.bytes at) (world_now old new x mine g) ∙ put_here (before old new x mine g).listings.bytes at None

-- what is so after any lawful steps, and after the discard of a world where it is so, is so after the call
stays_so : (P : World → Type 0) (old new : Seen) (taken : Discard) → Did (step.Discard taken) old new
    → ((j others : Journal) → old.journal ≡ Some j → AreLawful (world_of j) others → P (world_after (world_of j) others)) → ((w : World) → P w → P (discarded taken w)) → (x : Journal) → new.journal ≡ Some x → P (world_of x)
stays_so P old new taken called was more x told = elim (told_part (step.Discard taken) old new x called told) [
  | inl g ↦ subst P (sym (world_now old new x [] g)) (was g.was g.others g.told g.lawful)
  | inr p ↦
      let mine = (old.me, p.0) ∷ [] in
      let w = before old new x mine p.2 in
      subst P (sym (world_now old new x mine p.2 ∙ ap (λ s. after old.me s w) p.1)) (more w (was p.2.was p.2.others p.2.told p.2.lawful))
]

shard_kept : (w : World) (taken : Discard) (place : Place) (first : ℕ) → (objects w place).shards first ≡ true → (objects (discarded taken w) place).shards first ≡ true
shard_kept w (what.Temp k) Files first h = h
shard_kept w (what.Temp k) Listings first h = h
shard_kept w (what.File at) Files first h = h
shard_kept w (what.File at) Listings first h = h
shard_kept w (what.Listing at) Files first h = h
shard_kept w (what.Listing at) Listings first h = h

shard_left : (old new : Seen) (taken : Discard) (place : Place) (first : ℕ) → Did (step.Discard taken) old new → HasShard old place first → HasShard new place first
shard_left old new taken Files first called h = stays_so (λ w. w.files.shards first ≡ true) old new taken called (λ j others told lawful. shards_stay (world_of j) others lawful first (h j told)) (λ w. shard_kept w taken Files first)
shard_left old new taken Listings first called h = stays_so (λ w. w.listings.shards first ≡ true) old new taken called (λ j others told lawful. listing_shards_stay (world_of j) others lawful first (h j told)) (λ w. shard_kept w taken Listings first)

object_kept : (w : World) (taken : Discard) (place : Place) (at : List ℕ) → (IsOf place at taken → ⊥) → Stands (objects w place) at → Stands (objects (discarded taken w) place) at
object_kept w (what.Temp k) Files at apart h = h
object_kept w (what.Temp k) Listings at apart h = h
object_kept w (what.File q) Files at apart h = elim (at_address w.files.bytes q None at) [ inl here ↦ absurd (apart (ap what.File here.0)) | inr other ↦ λ none. h (sym other.1 ∙ none) ]
object_kept w (what.File q) Listings at apart h = h
object_kept w (what.Listing q) Files at apart h = h
object_kept w (what.Listing q) Listings at apart h = elim (at_address w.listings.bytes q None at) [ inl here ↦ absurd (apart (ap what.Listing here.0)) | inr other ↦ λ none. h (sym other.1 ∙ none) ]

object_left : (old new : Seen) (taken : Discard) (place : Place) (at : List ℕ) → Did (step.Discard taken) old new → (IsOf place at taken → ⊥) → HasObject old place at → HasObject new place at
object_left old new taken Files at called apart h = stays_so (λ w. Stands w.files at) old new taken called (λ j others told lawful. files_stay (world_of j) others lawful at (h j told)) (λ w. object_kept w taken Files at apart)
object_left old new taken Listings at called apart h = stays_so (λ w. Stands w.listings at) old new taken called (λ j others told lawful. listings_stay (world_of j) others lawful at (h j told)) (λ w. object_kept w taken Listings at apart)

temp_sound : (w : World) (k : ℕ) → IsSound w → IsSound (discarded (what.Temp k) w)
temp_sound w k sound = record { files = sound.files; listings = sound.listings; owners = λ q a b p r. cc (p, r) }

listing_sound : (w : World) (at : List ℕ) → IsSound w → IsSound (discarded (what.Listing at) w)
listing_sound w at sound = record {
  files = sound.files;
  listings = λ q bytes e. sound.listings q bytes (emptied_at w.listings.bytes at q bytes e);
  owners = λ q a b p r. cc (p, r);
}

sound_left : (old new : Seen) (taken : Discard) → ((w : World) → IsSound w → IsSound (discarded taken w)) → Did (step.Discard taken) old new → IsSoundStore old → IsSoundStore new
sound_left old new taken more called h = stays_so IsSound old new taken called (λ j others told lawful. sound_steps (world_of j) others (h j told) lawful) more

addressed_left : (old new : Seen) (taken : Discard) → Did (step.Discard taken) old new → IsAddressedStore old → IsAddressedStore new
addressed_left old new taken called h = stays_so IsAddressed old new taken called (λ j others told lawful. addressed_stays (world_of j) others (h j told) lawful) (λ w is. addressed_discard w 0 (step.Discard taken) is tt)

pub discards : DiscardLaw
discards = record {
  temp = temp_gone;
  file = file_gone;
  listing = listing_gone;
  shard = shard_left;
  object = object_left;
  sound_temp = λ old new k. sound_left old new (what.Temp k) (λ w. temp_sound w k);
  sound_listing = λ old new at. sound_left old new (what.Listing at) (λ w. listing_sound w at);
  sound_file = sound_file;
  addressed = addressed_left;
}
