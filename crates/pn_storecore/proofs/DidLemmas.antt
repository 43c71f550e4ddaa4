-- What each call did to a told journal, whatever it answered.
use Rattle.std.proofs.Common.{◌≡◌, ℕ, List, [], ◌∷◌, ◌++◌, length, take, arith, refl, sym, ap, ◌∙◌, subst, append-nil, ◌⊎◌, inl, inr, Some, None, Ok, Err}
use Rattle.std.specs.Prelude.{Option, Result, IfSome}
use Rattle.std.proofs.Math.Seq.{take-length}
use Rattle.pn_text.specs.declared.fault.DevFault.{DevFault}
use Rattle.pn_storecore.specs.declared.step.StoreStep.{StoreStep}
use Rattle.pn_storecore.specs.declared.step.StoreStep.TheVariants.{Claim, Create, Append, Shard, PublishFile, PublishListing, DropTemp, Read, Discard}
use Rattle.pn_storecore.specs.World.{World, objects}
use Rattle.pn_storecore.specs.Steps.{Journal}
use Rattle.pn_storecore.specs.Lawful.{IsLawful}
use Rattle.pn_storecore.specs.Seen.{Seen, Keeps}
use Rattle.pn_storecore.specs.Calls.{Grows, Answers, IsFront, IsClaim, IsRead, AreAddresses, AreNumbersOf}
use Rattle.pn_storecore.specs.Grew.{IsPart, DidTo, Did}
use Rattle.pn_storecore.specs.CallLaws.{DidLaw}
use Rattle.pn_storecore.proofs.GrowsLemmas.{Grown, none_told}

-- the whole step is a part of it
part_same : (own : StoreStep) → IsPart own own
part_same (Claim k) = refl
part_same (Create k n) = refl
part_same (Append k n bytes) = (length bytes, omega arith, ap (Append k n) (sym (take-length bytes)))
part_same (Shard place first) = refl
part_same (PublishFile k n at) = refl
part_same (PublishListing k n at) = refl
part_same (DropTemp k n) = refl
part_same Read = refl
part_same (Discard taken) = refl

-- what is so of a step, and of an append with any bytes, is so of a part of it
pub part_case : (P : StoreStep → Type 0) (own made : StoreStep) → IsPart own made → P own → ((k n : ℕ) (a b : List ℕ) → P (Append k n a) → P (Append k n b)) → P made
part_case P (Claim k) made e h more = subst P (sym e) h
part_case P (Create k n) made e h more = subst P (sym e) h
part_case P (Append k n bytes) made e h more = subst P (sym e.2) (more k n bytes (take e.0 bytes) h)
part_case P (Shard place first) made e h more = subst P (sym e) h
part_case P (PublishFile k n at) made e h more = subst P (sym e) h
part_case P (PublishListing k n at) made e h more = subst P (sym e) h
part_case P (DropTemp k n) made e h more = subst P (sym e) h
part_case P Read made e h more = subst P (sym e) h
part_case P (Discard taken) made e h more = subst P (sym e) h

-- a part of a lawful step is lawful
pub part_lawful : (who : ℕ) (w : World) (own made : StoreStep) → IsPart own made → IsLawful who own w → IsLawful who made w
part_lawful who w own made p h = part_case (λ s. IsLawful who s w) own made p h (λ k n a b l. record { owned = l.owned; stands = l.stands })

-- a fact on what is told, from one on each
pub if_told : {A : Type 0} (P : A → Type 0) (o : Option A) → ((x : A) → o ≡ Some x → P x) → IfSome o P
if_told P None f = tt
if_told P (Some x) f = f x refl

pub told_if : {A : Type 0} (P : A → Type 0) (o : Option A) (x : A) → o ≡ Some x → IfSome o P → P x
told_if P None x e h = let clash : None ≡ Some x = e in cc
told_if P (Some y) x e h = let same : y ≡ x = cc in subst P same h

did_to : {T : Type 0} (r : Result T DevFault) (me : ℕ) (j : Journal) (own : StoreStep) (Made : StoreStep → Type 0) (Answer : World → T → Type 0) (new : Option Journal)
    → ((made : StoreStep) → Made made → IsPart own made) → Grows me j own Made Answer new r → DidTo me own j new
did_to (Ok v) me j own Made Answer new part g = record { others = g.others; lawful = g.lawful; theirs = g.theirs; came = inr (own, part_same own, g.ok.0) }
did_to (Err e) me j own Made Answer new part g = record {
  others = g.others;
  lawful = g.lawful;
  theirs = g.theirs;
  came = elim g.err [ inl none ↦ inl none | inr p ↦ inr (p.0, part p.0 p.1, p.2) ];
}

pub did_answer : {T : Type 0} (r : Result T DevFault) (old new : Seen) (own : StoreStep) (Answer : World → T → Type 0) → Keeps old new → Answers old own new r Answer → Did own old new
did_answer r old new own Answer kept h = record {
  kept = kept;
  journal = if_told (λ j. DidTo old.me own j new.journal) old.journal (λ j is.
      did_to r old.me j own (λ made. made ≡ own) Answer new.journal (λ made e. subst (IsPart own) (sym e) (part_same own))
      (told_if (λ j. Grows old.me j own (λ made. made ≡ own) Answer new.journal r) old.journal j is h));
}

pub did : DidLaw
did = record {
  claim = λ old new k r kept h. did_answer r old new (Claim k) (IsClaim k) kept h;
  does = λ old new own r kept h. did_answer r old new own (λ w answer. Unit {0}) kept h;
  append = λ old new k n more r kept h. record {
    kept = kept;
    journal = if_told (λ j. DidTo old.me (Append k n more) j new.journal) old.journal (λ j is.
        did_to r old.me j (Append k n more) (IsFront k n more) (λ w answer. Unit {0}) new.journal (λ made p. p)
        (told_if (λ j. Grows old.me j (Append k n more) (IsFront k n more) (λ w answer. Unit {0}) new.journal r) old.journal j is h));
  };
  read = λ old new place at from into r kept h. did_answer r old new Read (λ w found. IsRead ((objects w place).bytes at) from into found) kept h;
  list = λ old new place r kept h. did_answer r old new Read (λ w all. AreAddresses (objects w place) all.items) kept h;
  numbers = λ old new r kept h. did_answer r old new Read (λ w all. AreNumbersOf w.temps all.items) kept h;
}

-- what the call did, where the journal is told after it
pub told_part : (own : StoreStep) (old new : Seen) (x : Journal) → Did own old new → new.journal ≡ Some x → Grown old new x [] ⊎ ((made : StoreStep) × IsPart own made × Grown old new x ((old.me, made) ∷ []))
told_part own old new x d told =
    elim old.journal as (λ o. old.journal ≡ o → IfSome o (λ j. DidTo old.me own j new.journal) → Grown old new x [] ⊎ ((made : StoreStep) × IsPart own made × Grown old new x ((old.me, made) ∷ []))) [
      | None ↦ λ is g. absurd (none_told old new x d.kept is told)
      | Some j ↦ λ is g. elim g.came [
        | inl none ↦ inl (record { was = j; told = is; others = g.others; lawful = g.lawful; theirs = g.theirs; me = d.kept.me; came = same (j ++ g.others) (sym told ∙ none) ∙ sym (append-nil (j ++ g.others)) })
        | inr p ↦ inr (p.0, p.1, record { was = j; told = is; others = g.others; lawful = g.lawful; theirs = g.theirs; me = d.kept.me; came = same (j ++ g.others ++ (old.me, p.0) ∷ []) (sym told ∙ p.2) })
      ]
    ] refl d.journal where
      same : (y : Journal) → Some x ≡ Some y → x ≡ y
      same y e = cc
