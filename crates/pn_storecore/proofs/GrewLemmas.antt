-- How calls grow a told journal by lawful steps, and what keeps standing.
use Rattle.std.proofs.Common.{◌≡◌, ℕ, List, [], ◌∷◌, ◌++◌, refl, sym, ap, ◌∙◌, subst, append-nil, append_assoc, inl, inr, Some, None}
use Rattle.std.specs.Prelude.{Option, IfSome}
use Rattle.pn_storecore.specs.declared.step.Place.{Place}
use Rattle.pn_storecore.specs.declared.step.Place.TheVariants.{Files, Listings}
use Rattle.pn_storecore.specs.declared.step.StoreStep.{StoreStep}
use Rattle.pn_storecore.specs.World.{World, empty, Stands}
use Rattle.pn_storecore.specs.Steps.{Journal, world_after, world_of}
use Rattle.pn_storecore.specs.Lawful.{IsLawful, AreLawful}
use Rattle.pn_storecore.specs.Sound.{IsSound, IsAddressed}
use Rattle.pn_storecore.specs.Seen.{Seen, Keeps, Asks, fresh}
use Rattle.pn_storecore.specs.Held.{HasShard, HasObject, IsSoundStore, IsAddressedStore}
use Rattle.pn_storecore.specs.Grew.{DidTo, Did, GrewTo, Grew}
use Rattle.pn_storecore.specs.CallLaws.{GrewLaw}
use Rattle.pn_storecore.proofs.JournalLemmas.{after_both, lawful_both}
use Rattle.pn_storecore.proofs.IsSoundLemmas.{sound_empty, sound_steps, sound_addressed, addressed_stays, files_stay, listings_stay}
use Rattle.pn_storecore.proofs.OwnerLemmas.{shards_stay, listing_shards_stay, place}
use Rattle.pn_storecore.proofs.GrowsLemmas.{none_told}
use Rattle.pn_storecore.proofs.DidLemmas.{part_lawful, if_told, told_if}

pub keeps_none : (s : Seen) → Keeps s s
keeps_none s = record { me = refl; untold = λ e. e }

pub keeps_both : (a b c : Seen) → Keeps a b → Keeps b c → Keeps a c
keeps_both a b c first second = record { me = second.me ∙ first.me; untold = λ e. second.untold (first.untold e) }

grew_none : (s : Seen) → Grew s s
grew_none s = record {
  kept = keeps_none s;
  journal = if_told (λ j. GrewTo j s.journal) s.journal (λ x is. record { steps = []; lawful = tt; came = is ∙ ap Some (sym (append-nil x)) });
}

grew_both : (a b c : Seen) → Grew a b → Grew b c → Grew a c
grew_both a b c first second = record {
  kept = keeps_both a b c first.kept second.kept;
  journal = if_told (λ j. GrewTo j c.journal) a.journal (λ x is.
      let one = told_if (λ j. GrewTo j b.journal) a.journal x is first.journal in
      let two = told_if (λ j. GrewTo j c.journal) b.journal (x ++ one.steps) one.came second.journal in
      record {
        steps = one.steps ++ two.steps;
        lawful = lawful_both (world_of x) one.steps two.steps one.lawful (subst (λ w. AreLawful w two.steps) (after_both empty x one.steps) two.lawful);
        came = two.came ∙ ap Some (append_assoc x one.steps two.steps);
      });
}

-- the steps of a call
grew_to : (me : ℕ) (own : StoreStep) (j : Journal) (new : Option Journal) → IsLawful me own (world_of j) → DidTo me own j new → GrewTo j new
grew_to me own j new asked d = elim d.came [
  | inl none ↦ record { steps = d.others; lawful = d.lawful; came = none }
  | inr p ↦ record {
    steps = d.others ++ (me, p.0) ∷ [];
    lawful = lawful_both (world_of j) d.others ((me, p.0) ∷ []) d.lawful
        (part_lawful me (world_after (world_of j) d.others) own p.0 p.1 (place (world_of j) d.others me own d.lawful d.theirs asked), tt);
    came = p.2 ∙ ap Some (append_assoc j d.others ((me, p.0) ∷ []));
  }
]

grew_call : (old new : Seen) (own : StoreStep) → Asks old own → Did own old new → Grew old new
grew_call old new own asked d = record {
  kept = d.kept;
  journal = if_told (λ j. GrewTo j new.journal) old.journal (λ j is. grew_to old.me own j new.journal (asked j is) (told_if (λ j. DidTo old.me own j new.journal) old.journal j is d.journal));
}

-- Where the journal is told, it was told before, and lawful steps are behind.
record Came (old : Seen) (x : Journal) : Type 0 where
  was : Journal
  told : old.journal ≡ Some was
  steps : Journal
  lawful : AreLawful (world_of was) steps
  world : world_of x ≡ world_after (world_of was) steps

came : (old new : Seen) (x : Journal) → Grew old new → new.journal ≡ Some x → Came old x
came old new x g told = elim old.journal as (λ o. old.journal ≡ o → IfSome o (λ j. GrewTo j new.journal) → Came old x) [
  | None ↦ λ is h. absurd (none_told old new x g.kept is told)
  | Some j ↦ λ is h. record { was = j; told = is; steps = h.steps; lawful = h.lawful; world = ap world_of (same (j ++ h.steps) (sym told ∙ h.came)) ∙ after_both empty j h.steps }
] refl g.journal where
  same : (y : Journal) → Some x ≡ Some y → x ≡ y
  same y e = cc

shard_grew : (old new : Seen) (place : Place) (first : ℕ) → Grew old new → HasShard old place first → HasShard new place first
shard_grew old new Files first g h x told = let c = came old new x g told in ap (λ (w : World). w.files.shards first) c.world ∙ shards_stay (world_of c.was) c.steps c.lawful first (h c.was c.told)
shard_grew old new Listings first g h x told = let c = came old new x g told in ap (λ (w : World). w.listings.shards first) c.world ∙ listing_shards_stay (world_of c.was) c.steps c.lawful first (h c.was c.told)

object_grew : (old new : Seen) (place : Place) (at : List ℕ) → Grew old new → HasObject old place at → HasObject new place at
object_grew old new Files at g h x told = let c = came old new x g told in subst (λ (w : World). Stands w.files at) (sym c.world) (files_stay (world_of c.was) c.steps c.lawful at (h c.was c.told))
object_grew old new Listings at g h x told = let c = came old new x g told in subst (λ (w : World). Stands w.listings at) (sym c.world) (listings_stay (world_of c.was) c.steps c.lawful at (h c.was c.told))

sound_grew : (old new : Seen) → Grew old new → IsSoundStore old → IsSoundStore new
sound_grew old new g h x told = let c = came old new x g told in subst IsSound (sym c.world) (sound_steps (world_of c.was) c.steps (h c.was c.told) c.lawful)

addressed_grew : (old new : Seen) → Grew old new → IsAddressedStore old → IsAddressedStore new
addressed_grew old new g h x told = let c = came old new x g told in subst IsAddressed (sym c.world) (addressed_stays (world_of c.was) c.steps (h c.was c.told) c.lawful)

fresh_sound : (me : ℕ) → IsSoundStore (fresh me)
fresh_sound me j told = let none : [] ≡ j = cc in subst (λ x. IsSound (world_of x)) none sound_empty

pub grew : GrewLaw
grew = record {
  none = grew_none;
  both = grew_both;
  call = grew_call;
  shard = shard_grew;
  object = object_grew;
  sound = sound_grew;
  at_first = fresh_sound;
  digests = λ s h j told. sound_addressed (world_of j) (h j told);
  addressed = addressed_grew;
}
