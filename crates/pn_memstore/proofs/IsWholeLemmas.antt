-- Lemmas on the files that a listing names.
use Rattle.std.proofs.Common.{◌≡◌, ◌≢◌, ℕ, ◌+◌, ◌<◌, List, Bool, Bor, true, false, nat_lt, length, refl, sym, ap, ◌∙◌, subst, Some, None, Ok, Err, arith, slice_index_or}
use Rattle.std.specs.Prelude.{Option, Result, IfOk, OnOk}
use Rattle.std.specs.Option.{is_some, option_copied}
use Rattle.std.specs.Bool.{Decides, OnTrue}
use Rattle.std.specs.List.{Contains}
use Rattle.std.proofs.lemmas.Bool.{ltb-true, ltb-false}
use Rattle.std.proofs.lemmas.List.{get_or_default}
use Rattle.sha2.specs.Sha512.{sha512}
use Rattle.pn_digest.specs.Listing.{Entry, IsListing, IsTextOf, ListingLaw, Names, listing_text}
use Rattle.pn_storecore.specs.World.{Objects, World, Stands, owner_of, content, first_byte}
use Rattle.pn_storecore.specs.Stored.{AllStand, IsWhole}
use Rattle.pn_storecore.specs.Lawful.{CanPublishListing}

pub copied_none : {X : Type 0} (r : Option (Bor X)) (b : Option X) → option_copied r ≡ b → is_some r ≡ false → b ≡ None
copied_none None b e h = sym e
copied_none (Some x) b e h = cc

pub copied_some : {X : Type 0} (r : Option (Bor X)) (b : Option X) → option_copied r ≡ b → is_some r ≡ true → b ≢ None
copied_some None b e h = cc
copied_some (Some x) b e h = λ none. let clash : Some x.now ≡ None = e ∙ none in cc

-- one that doesn't stand
pub one_lacks : (o : Objects) (es : List Entry) (i : ℕ) (e : Entry) → e ≡ slice_index_or es i e → i < length es → o.bytes e.1 ≡ None → Decides false (AllStand o es)
one_lacks o es i e is within none = (λ no. cc, λ all. absurd (all i e within (sym (ap (λ (x : Entry). o.bytes x.1) is) ∙ none)))

-- one more that stands
pub one_more : (o : Objects) (es : List Entry) (i : ℕ) (e : Entry) → e ≡ slice_index_or es i e → i < length es → o.bytes e.1 ≢ None
    → ((k : ℕ) (d : Entry) → k < i → Stands o (slice_index_or es k d).1) → (k : ℕ) (d : Entry) → k < i + 1 → Stands o (slice_index_or es k d).1
one_more o es i e is within some so_far k d under = elim (nat_lt k i) as (λ b. nat_lt k i ≡ b → Stands o (slice_index_or es k d).1) [
  | true ↦ λ below. so_far k d (ltb-true k i below)
  | false ↦ λ past.
      let at : k ≡ i = omega (arith, ltb-false k i past, under) in
      subst (λ (x : Entry). Stands o x.1) (is ∙ get_or_default es i e d within ∙ sym (ap (λ n. slice_index_or es n d) at)) some
] refl

-- the files that stand are those that the text names
pub whole : (law : ListingLaw) (o : Objects) (bytes : List ℕ) (es : List Entry) (b : Bool) → IsListing es → bytes ≡ listing_text es → Decides b (AllStand o es) → Decides b (IsWhole o bytes)
whole law o bytes es b listing is d = (λ h. record { text = (es, text); named = λ file n. stands (d.0 h) file n }, λ h. d.1 (λ k e within. h.named (slice_index_or es k e).1 (named k e within))) where
  text : IsTextOf es bytes
  text = record { listing = listing; is = is }

  stands : AllStand o es → (file : List ℕ) → Names bytes file → Stands o file
  stands all file n =
      let same : n.entries ≡ es = law n.entries es n.text.listing listing (sym n.text.is ∙ is) in
      let at : Contains es (n.path, file) = subst (λ (xs : List Entry). Contains xs (n.path, file)) same n.file in
      subst (λ (e : Entry). Stands o e.1) at.2 (all at.0 (n.path, file) at.1)

  named : (k : ℕ) (e : Entry) → k < length es → Names bytes (slice_index_or es k e).1
  named k e within = record {
    entries = es;
    text = text;
    path = (slice_index_or es k e).0;
    file = (k, within, get_or_default es k (slice_index_or es k e) e within);
  }

pub listing_decides : (who k n : ℕ) (at : List ℕ) (w : World) (bytes : List ℕ) (b : Bool) → owner_of w k ≡ Some who → w.listings.shards (first_byte at) ≡ true → content w k n ≡ Some bytes
    → Decides b ((sha512 bytes ≡ at) × IsWhole w.files bytes) → Decides b (CanPublishListing who k n at w)
listing_decides who k n at w bytes b owned shard stands d = (
  λ y. let h = d.0 y in record { owned = owned; bytes = bytes; stands = stands; stored = record { addressed = h.0; whole = h.1 }; shard = shard },
  λ can.
      let same : can.bytes ≡ bytes = cc (can.stands, stands) in
      d.1 (subst (λ x. sha512 x ≡ at) same can.stored.addressed, subst (IsWhole w.files) same can.stored.whole),
)

-- what is so after each Ok is so after Ok(true)
pub on_true : {E : Type 0} (P : Type 0) (r : Result Bool E) → OnOk r P → IfOk r (λ done. OnTrue done P)
on_true P (Ok true) h = h
on_true P (Ok false) h = tt
on_true P (Err e) h = tt
