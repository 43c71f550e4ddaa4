-- What stands after an installer's call, and what the call leaves.
use Rattle.std.proofs.Common.{◌≡◌, ◌≢◌, ℕ, Bool, true, List, [], ◌∷◌, refl, sym, ap, ◌∙◌, subst, inl, inr, Some, None, Ok, Err, eq-eqb}
use Rattle.std.specs.Prelude.{Option, Result, IfOk, OnOk, IfSome, Vec, ◌==◌, ◌||◌}
use Rattle.std.specs.List.{Contains}
use Rattle.std.specs.Global.{Global}
use Rattle.std.specs.Map.{update}
use Rattle.std.specs.Str.{bytes_eq}
use Rattle.pn_text.specs.declared.fault.DevFault.{DevFault}
use Rattle.pn_storecore.specs.declared.step.Place.{Place}
use Rattle.pn_storecore.specs.declared.step.Place.TheVariants.{Files, Listings}
use Rattle.pn_storecore.specs.declared.step.Discard.TheVariants as what
use Rattle.pn_storecore.specs.declared.step.StoreStep.{StoreStep}
use Rattle.pn_storecore.specs.declared.step.StoreStep.TheVariants.{Claim, Create, Append, Shard, PublishFile, PublishListing, DropTemp, Read, Discard}
use Rattle.pn_storecore.specs.World.{Temp, World, objects, Stands, content, with_temp}
use Rattle.pn_storecore.specs.Steps.{Journal, after, world_of}
use Rattle.pn_storecore.specs.Seen.{Seen, Keeps}
use Rattle.pn_storecore.specs.Calls.{Answers, Does, IsRead, AreAddresses}
use Rattle.pn_storecore.specs.Held.{TempFiles, Holds, HasShard, HasObject, HasBytes, HasDigest, IsAddressedStore, Spares}
use Rattle.pn_storecore.specs.CallLaws.{StandsLaw, LeavesLaw}
use Rattle.pn_storecore.proofs.UpdateLemmas.{at_number, at_address, none_some}
use Rattle.pn_storecore.proofs.IsSoundLemmas.{addressed_at, right_digest}
use Rattle.pn_storecore.proofs.OwnerLemmas.{claim_keeps}
use Rattle.pn_storecore.proofs.GrowsLemmas.{Grown, before, world_now, grown}
use Rattle.pn_storecore.proofs.HoldsLemmas.{folder, content_held, held_before, held_now, kept_now}
use Rattle.pn_storecore.proofs.DidLemmas.{part_case, told_part}

first_stands : (first : ℕ) (old : Bool) → (first == first || old) ≡ true
first_stands first old = ap (λ b. b || old) (eq-eqb first first refl)

shard_stands : (w : World) (who : ℕ) (place : Place) (first : ℕ) → (objects (after who (Shard place first) w) place).shards first ≡ true
shard_stands w who Files first = first_stands first (w.files.shards first)
shard_stands w who Listings first = first_stands first (w.listings.shards first)

pub put_here : (f : List ℕ → Option (List ℕ)) (at : List ℕ) (v : Option (List ℕ)) → update bytes_eq f at v at ≡ v
put_here f at v = elim (at_address f at v at) [ inl here ↦ here.1 | inr other ↦ absurd (other.0 refl) ]

read_stood : (o : Option (List ℕ)) (from : ℕ) (into : List ℕ) (n : ℕ) → IsRead o from into (Some n) → o ≢ None
read_stood None from into n h = absurd h
read_stood (Some bytes) from into n h = λ e. cc

sharded : (old new : Seen) (place : Place) (first : ℕ) (r : Result (Unit {0}) DevFault) → Keeps old new → Does old (Shard place first) new r → OnOk r (HasShard new place first)
sharded old new place first (Err e) kept h = tt
sharded old new place first (Ok v) kept h = λ x told.
    let g = (grown v (λ made. made ≡ Shard place first) (λ w answer. Unit {0}) old new (Shard place first) x kept h told).0 in
    let mine = (old.me, Shard place first) ∷ [] in
    ap (λ w. (objects w place).shards first) (world_now old new x mine g) ∙ shard_stands (before old new x mine g) old.me place first

module _ (old new : Seen) (k n : ℕ) (at bytes : List ℕ) (files : TempFiles) (kept : Keeps old new) (holds : Holds old k files) (some : files n ≡ Some bytes) where
  filed : (r : Result (Unit {0}) DevFault) → Does old (PublishFile k n at) new r → OnOk r (HasBytes new Files at bytes)
  filed (Err e) h = tt
  filed (Ok v) h = λ x told.
      let s = PublishFile k n at in
      let g = (grown v (λ made. made ≡ s) (λ w answer. Unit {0}) old new s x kept h told).0 in
      let mine = (old.me, s) ∷ [] in
      let w = before old new x mine g in
      ap (λ (v : World). v.files.bytes at) (world_now old new x mine g) ∙ put_here w.files.bytes at (content w k n) ∙ content_held w k n old.me files (held_before old new x mine k files g holds) ∙ some

  listed : (r : Result (Unit {0}) DevFault) → Does old (PublishListing k n at) new r → OnOk r (HasBytes new Listings at bytes)
  listed (Err e) h = tt
  listed (Ok v) h = λ x told.
      let s = PublishListing k n at in
      let g = (grown v (λ made. made ≡ s) (λ w answer. Unit {0}) old new s x kept h told).0 in
      let mine = (old.me, s) ∷ [] in
      let w = before old new x mine g in
      ap (λ (v : World). v.listings.bytes at) (world_now old new x mine g) ∙ put_here w.listings.bytes at (content w k n) ∙ content_held w k n old.me files (held_before old new x mine k files g holds) ∙ some

-- what a read found stands after it
found_read : (old new : Seen) (place : Place) (at : List ℕ) (from : ℕ) (into : List ℕ) (r : Result (Option ℕ) DevFault) → Keeps old new → Answers old Read new r (λ w found. IsRead ((objects w place).bytes at) from into found)
    → IfOk r (λ found. IfSome found (λ n. HasObject new place at))
found_read old new place at from into (Err e) kept h = tt
found_read old new place at from into (Ok None) kept h = tt
found_read old new place at from into (Ok (Some n)) kept h = λ x told.
    let g = grown (Some n) (λ made. made ≡ Read) (λ w found. IsRead ((objects w place).bytes at) from into found) old new Read x kept h told in
    let mine = (old.me, Read) ∷ [] in
    subst (λ (w : World). Stands (objects w place) at) (sym (world_now old new x mine g.0)) (read_stood ((objects (before old new x mine g.0) place).bytes at) from into n g.1)

found_list : (old new : Seen) (place : Place) (r : Result (Vec (List ℕ) Global) DevFault) → Keeps old new → Answers old Read new r (λ w all. AreAddresses (objects w place) all.items)
    → IfOk r (λ all. (at : List ℕ) → Contains all.items at → HasObject new place at)
found_list old new place (Err e) kept h = tt
found_list old new place (Ok all) kept h = λ at here x told.
    let g = grown all (λ made. made ≡ Read) (λ w all. AreAddresses (objects w place) all.items) old new Read x kept h told in
    let mine = (old.me, Read) ∷ [] in
    subst (λ (w : World). Stands (objects w place) at) (sym (world_now old new x mine g.0)) (g.1.stand at here)

some_bytes : (o : Option (List ℕ)) → o ≢ None → (bytes : List ℕ) × (o ≡ Some bytes)
some_bytes None h = absurd (h refl)
some_bytes (Some bytes) h = (bytes, refl)

has_digest : (s : Seen) (place : Place) (at : List ℕ) → IsAddressedStore s → HasObject s place at → HasDigest s place at
has_digest s place at is h j told =
    let w = world_of j in
    let some = some_bytes ((objects w place).bytes at) (h j told) in
    (some.0, some.1, right_digest place at some.0 (addressed_at w place at some.0 (is j told) some.1))

pub stands : StandsLaw
stands = record {
  shard = sharded;
  file = λ old new k n at bytes files r kept h holds some. filed old new k n at bytes files kept holds some r h;
  listing = λ old new k n at bytes files r kept h holds some. listed old new k n at bytes files kept holds some r h;
  read = found_read;
  list = found_list;
  object = λ s place at bytes h j told. none_some ((objects (world_of j) place).bytes at) bytes (h j told);
  digest = has_digest;
}

other_folder : (w : World) (q k : ℕ) (t : Option Temp) → q ≢ k → (with_temp w q t).temps k ≡ w.temps k
other_folder w q k t apart = elim (at_number w.temps q t k) [ inl here ↦ absurd (apart here.0) | inr other ↦ other.1 ]

step_spares : (w : World) (s : StoreStep) (who k : ℕ) → Spares k s → w.temps k ≢ None → (after who s w).temps k ≡ w.temps k
step_spares w (Claim q) who k spared some = claim_keeps w who q k (w.temps q) refl some
step_spares w (Create q n) who k spared some = other_folder w q k _ spared
step_spares w (Append q n more) who k spared some = other_folder w q k _ spared
step_spares w (Shard Files first) who k spared some = refl
step_spares w (Shard Listings first) who k spared some = refl
step_spares w (PublishFile q n at) who k spared some = other_folder w q k _ spared
step_spares w (PublishListing q n at) who k spared some = other_folder w q k _ spared
step_spares w (DropTemp q None) who k spared some = other_folder w q k None spared
step_spares w (DropTemp q (Some n)) who k spared some = other_folder w q k _ spared
step_spares w Read who k spared some = refl
step_spares w (Discard (what.Temp q)) who k spared some = other_folder w q k None spared
step_spares w (Discard (what.File at)) who k spared some = refl
step_spares w (Discard (what.Listing at)) who k spared some = refl

spared_now : (old new : Seen) (x : Journal) (made : StoreStep) (k : ℕ) (files : TempFiles) → Grown old new x ((old.me, made) ∷ []) → Spares k made → Holds old k files → (world_of x).temps k ≡ Some (folder new.me files)
spared_now old new x made k files g spared holds =
    let mine = (old.me, made) ∷ [] in
    let w = before old new x mine g in
    let h = held_before old new x mine k files g holds in
    held_now old new x mine k files g (step_spares w made old.me k spared (none_some (w.temps k) (folder old.me files) h) ∙ h)

pub leaves : LeavesLaw
leaves = λ old new own k files called spared holds x told. elim (told_part own old new x called told) [
  | inl g ↦ kept_now old new x k files g holds
  | inr p ↦ spared_now old new x p.0 k files p.2 (part_case (Spares k) own p.0 p.1 spared (λ q n a b s. s)) holds
]
