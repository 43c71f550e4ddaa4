-- What stood at an address at a step of some calls.
use Rattle.std.proofs.Common.{◌≡◌, ℕ, List, [], ◌∷◌, ◌++◌, refl, sym, ap, ◌∙◌, subst, append-nil, append_assoc, Some, Ok, Err}
use Rattle.std.specs.Prelude.{Option, Result, IfOk, IfSome}
use Rattle.std.proofs.lemmas.List.{append_cancel_left}
use Rattle.pn_text.specs.declared.fault.DevFault.{DevFault}
use Rattle.pn_storecore.specs.declared.step.Place.{Place}
use Rattle.pn_storecore.specs.declared.step.StoreStep.TheVariants.{Read}
use Rattle.pn_storecore.specs.World.{World, empty, objects}
use Rattle.pn_storecore.specs.Steps.{Journal, after, world_of}
use Rattle.pn_storecore.specs.Lawful.{AreLawful}
use Rattle.pn_storecore.specs.Sound.{IsAddressed, MayStand}
use Rattle.pn_storecore.specs.Seen.{Seen, Keeps}
use Rattle.pn_storecore.specs.Calls.{Grows, Answers, IsRead}
use Rattle.pn_storecore.specs.Held.{HasBytes, IsAddressedStore}
use Rattle.pn_storecore.specs.Grew.{GrewTo, Grew, WasTo, Was, ReadTo}
use Rattle.pn_storecore.specs.CallLaws.{WasLaw}
use Rattle.pn_storecore.proofs.JournalLemmas.{after_both}
use Rattle.pn_storecore.proofs.IsSoundLemmas.{addressed_at, addressed_stays}
use Rattle.pn_storecore.proofs.DidLemmas.{if_told, told_if}

was_read : (old new : Seen) (place : Place) (at : List ℕ) (from : ℕ) (into : List ℕ) (r : Result (Option ℕ) DevFault) → Keeps old new → Answers old Read new r (λ w found. IsRead ((objects w place).bytes at) from into found)
    → IfOk r (λ found. IfSome old.journal (λ j. ReadTo place at from into found j new.journal))
was_read old new place at from into (Err e) kept h = tt
was_read old new place at from into (Ok found) kept h = if_told (λ j. ReadTo place at from into found j new.journal) old.journal (λ j is.
    let g = told_if (λ j. Grows old.me j Read (λ made. made ≡ Read) (λ w found. IsRead ((objects w place).bytes at) from into found) new.journal (Ok found)) old.journal j is h in
    let same = ap (λ (w : World). (objects w place).bytes at) (after_both empty j g.others) in
    record {
      bytes = (objects (world_of (j ++ g.others)) place).bytes at;
      was = record { front = g.others; back = (old.me, Read) ∷ []; came = g.ok.0; was = refl };
      answer = subst (λ bytes. IsRead bytes from into found) (sym same) g.ok.1;
    })

was_now : (old new : Seen) (place : Place) (at bytes : List ℕ) → Grew old new → HasBytes new place at bytes → Was place at (Some bytes) old new
was_now old new place at bytes g h = if_told (λ j. WasTo place at (Some bytes) j new.journal) old.journal (λ j is.
    let one = told_if (λ j. GrewTo j new.journal) old.journal j is g.journal in
    record { front = one.steps; back = []; came = one.came ∙ ap Some (sym (append-nil (j ++ one.steps))); was = h (j ++ one.steps) one.came })

was_before : (a b c : Seen) (place : Place) (at : List ℕ) (bytes : Option (List ℕ)) → Grew a b → Was place at bytes b c → Was place at bytes a c
was_before a b c place at bytes g h = if_told (λ j. WasTo place at bytes j c.journal) a.journal (λ x is.
    let one = told_if (λ j. GrewTo j b.journal) a.journal x is g.journal in
    let two = told_if (λ j. WasTo place at bytes j c.journal) b.journal (x ++ one.steps) one.came h in
    let longer = append_assoc x one.steps two.front in
    record {
      front = one.steps ++ two.front;
      back = two.back;
      came = two.came ∙ ap (λ (y : Journal). Some (y ++ two.back)) longer;
      was = sym (ap (λ (y : Journal). (objects (world_of y) place).bytes at) longer) ∙ two.was;
    })

was_behind : (a b c : Seen) (place : Place) (at : List ℕ) (bytes : Option (List ℕ)) → Was place at bytes a b → Grew b c → Was place at bytes a c
was_behind a b c place at bytes h g = if_told (λ j. WasTo place at bytes j c.journal) a.journal (λ x is.
    let one = told_if (λ j. WasTo place at bytes j b.journal) a.journal x is h in
    let two = told_if (λ j. GrewTo j c.journal) b.journal (x ++ one.front ++ one.back) one.came g.journal in
    record { front = one.front; back = one.back ++ two.steps; came = two.came ∙ ap Some (append_assoc (x ++ one.front) one.back two.steps); was = one.was })

lawful_front : (w : World) (xs ys : Journal) → AreLawful w (xs ++ ys) → AreLawful w xs
lawful_front w [] ys h = tt
lawful_front w (e ∷ xs) ys h = (h.0, lawful_front (after e.0 e.1 w) xs ys h.1)

was_right : (j : Journal) (place : Place) (at bytes : List ℕ) (new : Option Journal) → GrewTo j new → IsAddressed (world_of j) → WasTo place at (Some bytes) j new → MayStand place at bytes
was_right j place at bytes new g is h =
    let twice : j ++ g.steps ≡ j ++ h.front ++ h.back = cc (g.came, h.came) in
    let same = append_cancel_left j g.steps (h.front ++ h.back) (twice ∙ append_assoc j h.front h.back) in
    let lawful = lawful_front (world_of j) h.front h.back (subst (AreLawful (world_of j)) same g.lawful) in
    addressed_at (world_of (j ++ h.front)) place at bytes (subst IsAddressed (sym (after_both empty j h.front)) (addressed_stays (world_of j) h.front is lawful)) h.was

was_digest : (old new : Seen) (place : Place) (at bytes : List ℕ) → Grew old new → IsAddressedStore old → Was place at (Some bytes) old new → IfSome old.journal (λ j. MayStand place at bytes)
was_digest old new place at bytes g is h = if_told (λ j. MayStand place at bytes) old.journal (λ j told.
    was_right j place at bytes new.journal (told_if (λ j. GrewTo j new.journal) old.journal j told g.journal) (is j told) (told_if (λ j. WasTo place at (Some bytes) j new.journal) old.journal j told h))

pub was : WasLaw
was = record { read = was_read; now = was_now; before = was_before; behind = was_behind; digest = was_digest }
