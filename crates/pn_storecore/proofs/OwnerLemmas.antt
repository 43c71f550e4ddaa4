-- Whose the numbers are after lawful steps, and which steps stay lawful.
use Rattle.std.proofs.Common.{◌≡◌, ◌≢◌, ℕ, List, [], ◌∷◌, true, refl, sym, ap, ◌∙◌, inl, inr, Some, None}
use Rattle.std.specs.Prelude.{Option}
use Rattle.std.specs.Option.{option_map, option_and_then}
use Rattle.std.specs.List.{AllByRecursion}
use Rattle.pn_storecore.specs.declared.step.Place.TheVariants.{Files, Listings}
use Rattle.pn_storecore.specs.declared.step.StoreStep.{StoreStep}
use Rattle.pn_storecore.specs.declared.step.StoreStep.TheVariants.{Claim, Create, Append, Shard, PublishFile, PublishListing, DropTemp, Read, Discard}
use Rattle.pn_storecore.specs.World.{Temp, Temps, World, owner_of, content, claimed_by, with_temps, with_temp, with_file, with_content}
use Rattle.pn_storecore.specs.Steps.{Event, Journal, claim_in, after, world_after}
use Rattle.pn_storecore.specs.Lawful.{IsLawful, AreLawful, AreOthers}
use Rattle.pn_storecore.specs.Laws.{OwnerLaw, PlaceLaw, dropping}
use Rattle.pn_storecore.proofs.UpdateLemmas.{at_number}
use Rattle.pn_storecore.proofs.IsLawfulLemmas.{file_shards, listing_shards}
use Rattle.pn_storecore.proofs.IsSoundLemmas.{files_stay}

pub owns_none : (o : Option Temp) (me : ℕ) → option_map (λ (t : Temp). t.owner) o ≡ Some me → o ≢ None
owns_none None me h = cc
owns_none (Some t) me h = λ e. cc

-- a change of another installer's folder
other_number : (w : World) (k q who me : ℕ) (t : Option Temp) → owner_of w k ≡ Some who → owner_of w q ≡ Some me → who ≢ me → (with_temp w k t).temps q ≡ w.temps q
other_number w k q who me t theirs mine apart = elim (at_number w.temps k t q) [
  | inl here ↦ let same : Some who ≡ Some me = sym theirs ∙ ap (owner_of w) here.0 ∙ mine in let one : who ≡ me = cc in absurd (apart one)
  | inr other ↦ other.1
]

pub claim_keeps : (w : World) (who k q : ℕ) (o : Option Temp) → w.temps k ≡ o → w.temps q ≢ None → claim_in who k w.temps o q ≡ w.temps q
claim_keeps w who k q None free mine = elim (at_number w.temps k (Some (claimed_by who)) q) [
  | inl here ↦ absurd (mine (sym (ap w.temps here.0) ∙ free))
  | inr other ↦ other.1
]
claim_keeps w who k q (Some t) is mine = refl

step_of_other : (w : World) (who me q : ℕ) (s : StoreStep) → owner_of w q ≡ Some me → IsLawful who s w → who ≢ me → (after who s w).temps q ≡ w.temps q
step_of_other w who me q (Claim k) mine h apart = claim_keeps w who k q (w.temps k) refl (owns_none (w.temps q) me mine)
step_of_other w who me q (Create k n) mine h apart = other_number w k q who me _ h.owned mine apart
step_of_other w who me q (Append k n more) mine h apart = other_number w k q who me _ h.owned mine apart
step_of_other w who me q (Shard Files first) mine h apart = refl
step_of_other w who me q (Shard Listings first) mine h apart = refl
step_of_other w who me q (PublishFile k n at) mine h apart = other_number w k q who me _ h.owned mine apart
step_of_other w who me q (PublishListing k n at) mine h apart = other_number w k q who me _ h.owned mine apart
step_of_other w who me q (DropTemp k None) mine h apart = other_number w k q who me _ h.owned mine apart
step_of_other w who me q (DropTemp k (Some n)) mine h apart = other_number w k q who me _ h.owned mine apart
step_of_other w who me q Read mine h apart = refl
step_of_other w who me q (Discard what) mine h apart = absurd h

-- steps of others change no folder of an installer
pub others_keep : (w : World) (steps : Journal) (me q : ℕ) → owner_of w q ≡ Some me → AreLawful w steps → AreOthers me steps → (world_after w steps).temps q ≡ w.temps q
others_keep w [] me q mine h others = refl
others_keep w (e ∷ es) me q mine h others =
    let kept = step_of_other w e.0 me q e.1 mine h.0 others.0 in
    others_keep (after e.0 e.1 w) es me q (ap (option_map (λ (t : Temp). t.owner)) kept ∙ mine) h.1 others.1 ∙ kept

same_owner : (n : ℕ) (bytes : Option (List ℕ)) (o : Option Temp) → option_map (λ (t : Temp). t.owner) (option_map (with_file n bytes) o) ≡ option_map (λ (t : Temp). t.owner) o
same_owner n bytes None = refl
same_owner n bytes (Some t) = refl

content_owner : (w : World) (k n q : ℕ) (bytes : Option (List ℕ)) → owner_of (with_content w k n bytes) q ≡ owner_of w q
content_owner w k n q bytes = elim (at_number w.temps k (option_map (with_file n bytes) (w.temps k)) q) [
  | inl here ↦ ap (option_map (λ (t : Temp). t.owner)) here.1 ∙ same_owner n bytes (w.temps k) ∙ ap (owner_of w) here.0
  | inr other ↦ ap (option_map (λ (t : Temp). t.owner)) other.1
]

abbrev pair : ℕ → StoreStep → Event
pair who s = (who, s)

step_owner : (w : World) (who me q : ℕ) (s : StoreStep) → owner_of w q ≡ Some me → IsLawful who s w → pair who s ≢ dropping me q → owner_of (after who s w) q ≡ Some me
step_owner w who me q (Claim k) mine h undropped = ap (option_map (λ (t : Temp). t.owner)) (claim_keeps w who k q (w.temps k) refl (owns_none (w.temps q) me mine)) ∙ mine
step_owner w who me q (Create k n) mine h undropped = content_owner w k n q _ ∙ mine
step_owner w who me q (Append k n more) mine h undropped = content_owner w k n q _ ∙ mine
step_owner w who me q (Shard Files first) mine h undropped = mine
step_owner w who me q (Shard Listings first) mine h undropped = mine
step_owner w who me q (PublishFile k n at) mine h undropped = content_owner w k n q _ ∙ mine
step_owner w who me q (PublishListing k n at) mine h undropped = content_owner w k n q _ ∙ mine
step_owner w who me q (DropTemp k None) mine h undropped = elim (at_number w.temps k None q) [
  | inl here ↦
      let same : Some who ≡ Some me = sym h.owned ∙ ap (owner_of w) here.0 ∙ mine in
      let one : who ≡ me = cc in
      absurd (undropped (λ i. (one i, DropTemp (here.0 i) None)))
  | inr other ↦ ap (option_map (λ (t : Temp). t.owner)) other.1 ∙ mine
]
step_owner w who me q (DropTemp k (Some n)) mine h undropped = content_owner w k n q _ ∙ mine
step_owner w who me q Read mine h undropped = mine
step_owner w who me q (Discard what) mine h undropped = absurd h

undropped_keep : (w : World) (steps : Journal) (me q : ℕ) → owner_of w q ≡ Some me → AreLawful w steps → AllByRecursion (λ (e : Event). e ≢ dropping me q) steps → owner_of (world_after w steps) q ≡ Some me
undropped_keep w [] me q mine h undropped = mine
undropped_keep w (e ∷ es) me q mine h undropped = undropped_keep (after e.0 e.1 w) es me q (step_owner w e.0 me q e.1 mine h.0 undropped.0) h.1 undropped.1

claim_taken : (temps : Temps) (who k : ℕ) (o : Option Temp) → o ≢ None → claim_in who k temps o ≡ temps
claim_taken temps who k None h = absurd (h refl)
claim_taken temps who k (Some t) h = refl

pub owners : OwnerLaw
owners = record {
  free = λ w who k free. ap (λ o. claim_in who k w.temps o k) free ∙ elim (at_number w.temps k (Some (claimed_by who)) k) [ inl here ↦ here.1 | inr other ↦ absurd (other.0 refl) ];
  taken = λ w who k taken. ap (with_temps w) (claim_taken w.temps who k (w.temps k) taken);
  others = others_keep;
  undropped = undropped_keep;
}

pub shards_stay : (w : World) (steps : Journal) → AreLawful w steps → (first : ℕ) → w.files.shards first ≡ true → (world_after w steps).files.shards first ≡ true
shards_stay w [] h first e = e
shards_stay w (s ∷ ss) h first e = shards_stay (after s.0 s.1 w) ss h.1 first (file_shards w s.0 s.1 h.0 first e)

pub listing_shards_stay : (w : World) (steps : Journal) → AreLawful w steps → (first : ℕ) → w.listings.shards first ≡ true → (world_after w steps).listings.shards first ≡ true
listing_shards_stay w [] h first e = e
listing_shards_stay w (s ∷ ss) h first e = listing_shards_stay (after s.0 s.1 w) ss h.1 first (listing_shards w s.0 s.1 h.0 first e)

module _ (w : World) (others : Journal) (me : ℕ) (lawful : AreLawful w others) (theirs : AreOthers me others) where
  owner_stays : (k : ℕ) → owner_of w k ≡ Some me → owner_of (world_after w others) k ≡ Some me
  owner_stays k mine = ap (option_map (λ (t : Temp). t.owner)) (others_keep w others me k mine lawful theirs) ∙ mine

  content_stays : (k n : ℕ) → owner_of w k ≡ Some me → content (world_after w others) k n ≡ content w k n
  content_stays k n mine = ap (option_and_then (λ (t : Temp). t.files n)) (others_keep w others me k mine lawful theirs)

  step_stays : (s : StoreStep) → IsLawful me s w → IsLawful me s (world_after w others)
  step_stays (Claim k) h = tt
  step_stays (Create k n) h = record { owned = owner_stays k h.owned; absent = content_stays k n h.owned ∙ h.absent }
  step_stays (Append k n more) h = record { owned = owner_stays k h.owned; stands = λ none. h.stands (sym (content_stays k n h.owned) ∙ none) }
  step_stays (Shard place first) h = tt
  step_stays (PublishFile k n at) h = record {
    owned = owner_stays k h.owned;
    bytes = h.bytes;
    stands = content_stays k n h.owned ∙ h.stands;
    stored = h.stored;
    shard = shards_stay w others lawful _ h.shard;
  }
  step_stays (PublishListing k n at) h = record {
    owned = owner_stays k h.owned;
    bytes = h.bytes;
    stands = content_stays k n h.owned ∙ h.stands;
    stored = record {
      addressed = h.stored.addressed;
      whole = record { text = h.stored.whole.text; named = λ file names. files_stay w others lawful file (h.stored.whole.named file names) };
    };
    shard = listing_shards_stay w others lawful _ h.shard;
  }
  step_stays (DropTemp k n) h = record { owned = owner_stays k h.owned; bare = λ whole m. content_stays k m h.owned ∙ h.bare whole m }
  step_stays Read h = tt
  step_stays (Discard what) h = absurd h

pub place : PlaceLaw
place = λ w others me step lawful theirs h. step_stays w others me lawful theirs step h
