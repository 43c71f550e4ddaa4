-- What a lawful step changes at addresses.
use Rattle.std.proofs.lemmas.Bool.{or_right}
use Rattle.std.proofs.Common.{◌≡◌, ℕ, List, true, refl, sym, ◌∙◌, subst, ◌⊎◌, inl, inr, Some}
use Rattle.std.specs.Prelude.{◌==◌}
use Rattle.pn_storecore.specs.declared.step.Place.TheVariants.{Files, Listings}
use Rattle.pn_storecore.specs.declared.step.StoreStep.{StoreStep}
use Rattle.pn_storecore.specs.declared.step.StoreStep.TheVariants.{Claim, Create, Append, Shard, PublishFile, PublishListing, DropTemp, Read, Discard}
use Rattle.pn_storecore.specs.World.{Objects, World, Stands, content}
use Rattle.pn_storecore.specs.Steps.{after}
use Rattle.pn_storecore.specs.Lawful.{IsLawful}
use Rattle.pn_storecore.specs.Stored.{IsStoredFile, IsStoredListing}
use Rattle.pn_storecore.specs.Sound.{IsSound}
use Rattle.pn_storecore.proofs.UpdateLemmas.{at_address, none_some}

-- at each address stands what stood, or other bytes that may stand there
abbrev pub Changes : (List ℕ → List ℕ → Type 0) → Objects → Objects → Type 0
Changes May old new = (at : List ℕ) → (new.bytes at ≡ old.bytes at) ⊎ ((now : List ℕ) × (new.bytes at ≡ Some now) × May at now)

pub files_change : (w : World) (who : ℕ) (s : StoreStep) → IsLawful who s w → Changes IsStoredFile w.files (after who s w).files
files_change w who (Claim k) h at = inl refl
files_change w who (Create k n) h at = inl refl
files_change w who (Append k n more) h at = inl refl
files_change w who (Shard Files first) h at = inl refl
files_change w who (Shard Listings first) h at = inl refl
files_change w who (PublishFile k n to) h at = elim (at_address w.files.bytes to (content w k n) at) [
  | inl here ↦ inr (h.bytes, here.1 ∙ h.stands, record { addressed = h.stored.addressed ∙ here.0; short = h.stored.short })
  | inr other ↦ inl other.1
]
files_change w who (PublishListing k n to) h at = inl refl
files_change w who (DropTemp k n) h at = inl refl
files_change w who Read h at = inl refl
files_change w who (Discard what) h at = absurd h

pub listings_change : (w : World) (who : ℕ) (s : StoreStep) → IsLawful who s w → Changes (IsStoredListing w.files) w.listings (after who s w).listings
listings_change w who (Claim k) h at = inl refl
listings_change w who (Create k n) h at = inl refl
listings_change w who (Append k n more) h at = inl refl
listings_change w who (Shard Files first) h at = inl refl
listings_change w who (Shard Listings first) h at = inl refl
listings_change w who (PublishFile k n to) h at = inl refl
listings_change w who (PublishListing k n to) h at = elim (at_address w.listings.bytes to (content w k n) at) [
  | inl here ↦ inr (h.bytes, here.1 ∙ h.stands, record { addressed = h.stored.addressed ∙ here.0; whole = h.stored.whole })
  | inr other ↦ inl other.1
]
listings_change w who (DropTemp k n) h at = inl refl
listings_change w who Read h at = inl refl
listings_change w who (Discard what) h at = absurd h

pub file_shards : (w : World) (who : ℕ) (s : StoreStep) → IsLawful who s w → (first : ℕ) → w.files.shards first ≡ true → (after who s w).files.shards first ≡ true
file_shards w who (Claim k) h first e = e
file_shards w who (Create k n) h first e = e
file_shards w who (Append k n more) h first e = e
file_shards w who (Shard Files new) h first e = or_right (new == first) _ e
file_shards w who (Shard Listings new) h first e = e
file_shards w who (PublishFile k n to) h first e = e
file_shards w who (PublishListing k n to) h first e = e
file_shards w who (DropTemp k n) h first e = e
file_shards w who Read h first e = e
file_shards w who (Discard what) h first e = absurd h

pub listing_shards : (w : World) (who : ℕ) (s : StoreStep) → IsLawful who s w → (first : ℕ) → w.listings.shards first ≡ true → (after who s w).listings.shards first ≡ true
listing_shards w who (Claim k) h first e = e
listing_shards w who (Create k n) h first e = e
listing_shards w who (Append k n more) h first e = e
listing_shards w who (Shard Files new) h first e = e
listing_shards w who (Shard Listings new) h first e = or_right (new == first) _ e
listing_shards w who (PublishFile k n to) h first e = e
listing_shards w who (PublishListing k n to) h first e = e
listing_shards w who (DropTemp k n) h first e = e
listing_shards w who Read h first e = e
listing_shards w who (Discard what) h first e = absurd h

-- what stands keeps standing
pub stays : {May : List ℕ → List ℕ → Type 0} (old new : Objects) → Changes May old new → (at : List ℕ) → Stands old at → Stands new at
stays old new change at h none = elim (change at) [
  | inl same ↦ h (sym same ∙ none)
  | inr now ↦ none_some (new.bytes at) now.0 now.1 none
]

-- a sound world stays sound
pub sound_step : (w : World) (who : ℕ) (s : StoreStep) → IsSound w → IsLawful who s w → IsSound (after who s w)
sound_step w who s sound h = record {
  files = λ at bytes e. elim (files_change w who s h at) [
    | inl same ↦ sound.files at bytes (sym same ∙ e)
    | inr now ↦ let one : now.0 ≡ bytes = cc (now.1, e) in subst (IsStoredFile at) one now.2
  ];
  listings = λ at bytes e. elim (listings_change w who s h at) [
    | inl same ↦ kept at bytes (sound.listings at bytes (sym same ∙ e))
    | inr now ↦ let one : now.0 ≡ bytes = cc (now.1, e) in subst (IsStoredListing (after who s w).files at) one (kept at now.0 now.2)
  ];
  owners = λ k a b p q. cc (p, q);
} where
  kept : (at bytes : List ℕ) → IsStoredListing w.files at bytes → IsStoredListing (after who s w).files at bytes
  kept at bytes l = record {
    addressed = l.addressed;
    whole = record {
      text = l.whole.text;
      named = λ file names. stays w.files (after who s w).files (files_change w who s h) file (l.whole.named file names);
    };
  }
