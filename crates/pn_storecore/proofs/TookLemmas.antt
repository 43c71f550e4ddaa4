-- Whose step made a number's folder.
use Rattle.std.proofs.Common.{◌≡◌, ◌≢◌, ℕ, Bool, true, false, [], ◌∷◌, ◌++◌, refl, sym, ap, ◌∙◌, subst, append-nil, append_assoc, ◌⊎◌, inl, inr, Some, None, Ok, Err}
use Rattle.std.specs.Prelude.{Option, Result, IfOk, OnErr, IfSome}
use Rattle.std.specs.Bool.{OnTrue, OnFalse}
use Rattle.pn_text.specs.declared.fault.DevFault.{DevFault}
use Rattle.pn_storecore.specs.declared.step.StoreStep.{StoreStep}
use Rattle.pn_storecore.specs.declared.step.StoreStep.TheVariants.{Claim}
use Rattle.pn_storecore.specs.World.{Temp, World, empty}
use Rattle.pn_storecore.specs.Steps.{Journal, Event, after, world_after, world_of}
use Rattle.pn_storecore.specs.Lawful.{AreOthers}
use Rattle.pn_storecore.specs.Seen.{Seen, Keeps}
use Rattle.pn_storecore.specs.Calls.{Grows, Answers, IsClaim}
use Rattle.pn_storecore.specs.Held.{Holds, no_files}
use Rattle.pn_storecore.specs.Grew.{DidTo, Did, GrewTo, Grew, claiming, StoodTo, Stood, TookTo, Took, AreNoClaims, TookNoneTo, TookNone, IsPart}
use Rattle.pn_storecore.specs.CallLaws.{ClaimsLaw}
use Rattle.pn_storecore.proofs.JournalLemmas.{after_both}
use Rattle.pn_storecore.proofs.OwnerLemmas.{owners}
use Rattle.pn_storecore.proofs.HoldsLemmas.{folder, told_once, untold, HasFiles}
use Rattle.pn_storecore.proofs.DidLemmas.{if_told, told_if, part_case}
use Rattle.pn_storecore.proofs.GrewLemmas.{keeps_none, keeps_both}

-- steps of others make no folder for this installer
others_none : (me k : ℕ) (w : World) (steps : Journal) → AreOthers me steps → AreNoClaims me k w steps
others_none me k w [] h = tt
others_none me k w (e ∷ es) h = (λ mine. absurd (h.0 (ap (λ (x : Event). x.0) mine)), others_none me k (after e.0 e.1 w) es h.1)

none_both : (me k : ℕ) (w : World) (xs ys : Journal) → AreNoClaims me k w xs → AreNoClaims me k (world_after w xs) ys → AreNoClaims me k w (xs ++ ys)
none_both me k w [] ys first second = second
none_both me k w (e ∷ xs) ys first second = (first.0, none_both me k (after e.0 e.1 w) xs ys first.1 second)

-- the steps of others, and one that makes no folder of the number
none_to : (me k : ℕ) (j others : Journal) (s : StoreStep) (new : Option Journal) → AreOthers me others → (s ≡ Claim k → (world_after (world_of j) others).temps k ≢ None) → new ≡ Some (j ++ others ++ (me, s) ∷ []) → TookNoneTo me k j new
none_to me k j others s new theirs stood came = record {
  steps = others ++ (me, s) ∷ [];
  none = none_both me k (world_of j) others ((me, s) ∷ []) (others_none me k (world_of j) others theirs) (λ mine. stood (ap (λ (x : Event). x.1) mine), tt);
  came = came ∙ ap Some (append_assoc j others ((me, s) ∷ []));
}

only_others : (me k : ℕ) (j others : Journal) (new : Option Journal) → AreOthers me others → new ≡ Some (j ++ others) → TookNoneTo me k j new
only_others me k j others new theirs came = record { steps = others; none = others_none me k (world_of j) others theirs; came = came }

abbrev ClaimTo : ℕ → ℕ → Journal → Option Journal → Result Bool DevFault → Type 0
ClaimTo me k j new r = Grows me j (Claim k) (λ made. made ≡ Claim k) (IsClaim k) new r

took_true : (old new : Seen) (k : ℕ) (r : Result Bool DevFault) → Keeps old new → Answers old (Claim k) new r (IsClaim k) → IfOk r (λ free. OnTrue free (Took k old new))
took_true old new k (Err e) kept h = tt
took_true old new k (Ok false) kept h = tt
took_true old new k (Ok true) kept h = if_told (λ j. TookTo old.me k j new.journal) old.journal (λ j is.
    let g = told_if (λ j. ClaimTo old.me k j new.journal (Ok true)) old.journal j is h in
    record { front = g.others; back = []; came = g.ok.0; free = ap (λ (w : World). w.temps k) (after_both empty j g.others) ∙ g.ok.1 })

stood_false : (old new : Seen) (k : ℕ) (r : Result Bool DevFault) → Keeps old new → Answers old (Claim k) new r (IsClaim k) → IfOk r (λ free. OnFalse free (Stood k old new))
stood_false old new k (Err e) kept h = tt
stood_false old new k (Ok true) kept h = tt
stood_false old new k (Ok false) kept h = if_told (λ j. StoodTo k j new.journal) old.journal (λ j is.
    let g = told_if (λ j. ClaimTo old.me k j new.journal (Ok false)) old.journal j is h in
    record { front = g.others; back = (old.me, Claim k) ∷ []; came = g.ok.0; stood = λ none. g.ok.1 (sym (ap (λ (w : World). w.temps k) (after_both empty j g.others)) ∙ none) })

none_false : (old new : Seen) (k : ℕ) (r : Result Bool DevFault) → Keeps old new → Answers old (Claim k) new r (IsClaim k) → IfOk r (λ free. OnFalse free (TookNone k old new))
none_false old new k (Err e) kept h = tt
none_false old new k (Ok true) kept h = tt
none_false old new k (Ok false) kept h = record {
  kept = kept;
  journal = if_told (λ j. TookNoneTo old.me k j new.journal) old.journal (λ j is.
      let g = told_if (λ j. ClaimTo old.me k j new.journal (Ok false)) old.journal j is h in
      none_to old.me k j g.others (Claim k) new.journal g.theirs (λ same. g.ok.1) g.ok.0);
}

abbrev NoneOrHeld : ℕ → Seen → Seen → Type 0
NoneOrHeld k old new = Holds new k no_files ⊎ TookNone k old new

-- a refused claim made the folder where none stood, and else nothing
refused_made : (old new : Seen) (k : ℕ) (j others : Journal) (o : Option Temp) → Keeps old new → old.journal ≡ Some j → AreOthers old.me others → (world_after (world_of j) others).temps k ≡ o
    → new.journal ≡ Some (j ++ others ++ (old.me, Claim k) ∷ []) → NoneOrHeld k old new
refused_made old new k j others (Some t) kept is theirs stood came = inr (record {
  kept = kept;
  journal = if_told (λ j. TookNoneTo old.me k j new.journal) old.journal (λ y told.
      let same : j ≡ y = cc (is, told) in
      subst (λ x. TookNoneTo old.me k x new.journal) same (none_to old.me k j others (Claim k) new.journal theirs (λ e none. let clash : Some t ≡ None = sym stood ∙ none in cc) came));
})
refused_made old new k j others None kept is theirs free came =
    let x = j ++ others ++ (old.me, Claim k) ∷ [] in
    let world : world_of x ≡ after old.me (Claim k) (world_after (world_of j) others) = after_both empty (j ++ others) ((old.me, Claim k) ∷ []) ∙ ap (after old.me (Claim k)) (after_both empty j others) in
    inl (told_once (HasFiles new k no_files) new.journal x came
    (ap (λ (w : World). w.temps k) world ∙ owners.free (world_after (world_of j) others) old.me k free ∙ ap (λ who. Some (folder who no_files)) (sym kept.me)))

refused_to : (old new : Seen) (k : ℕ) (e : DevFault) (j : Journal) → Keeps old new → old.journal ≡ Some j → ClaimTo old.me k j new.journal (Err e) → NoneOrHeld k old new
refused_to old new k e j kept is g = elim g.err [
  | inl none ↦ inr (record {
    kept = kept;
    journal = if_told (λ j. TookNoneTo old.me k j new.journal) old.journal (λ y told.
        let same : j ≡ y = cc (is, told) in
        subst (λ x. TookNoneTo old.me k x new.journal) same (only_others old.me k j g.others new.journal g.theirs none));
  })
  | inr p ↦ refused_made old new k j g.others ((world_after (world_of j) g.others).temps k) kept is g.theirs refl (p.2 ∙ ap (λ s. Some (j ++ g.others ++ (old.me, s) ∷ [])) p.1)
]

refused_claim : (old new : Seen) (k : ℕ) (r : Result Bool DevFault) → Keeps old new → Answers old (Claim k) new r (IsClaim k) → OnErr r (NoneOrHeld k old new)
refused_claim old new k (Ok v) kept h = tt
refused_claim old new k (Err e) kept h = elim old.journal as (λ o. old.journal ≡ o → IfSome o (λ j. ClaimTo old.me k j new.journal (Err e)) → NoneOrHeld k old new) [
  | None ↦ λ is g. inl (untold (HasFiles new k no_files) new.journal (kept.untold is))
  | Some j ↦ λ is g. refused_to old new k e j kept is g
] refl h

-- a part of another step than a claim of the number is none
part_apart : (k : ℕ) (own made : StoreStep) → IsPart own made → own ≢ Claim k → made ≢ Claim k
part_apart k own made p h = part_case (λ s. s ≢ Claim k) own made p h (λ q n a b apart e. cc)

other_to : (me k : ℕ) (own : StoreStep) (j : Journal) (new : Option Journal) → own ≢ Claim k → DidTo me own j new → TookNoneTo me k j new
other_to me k own j new apart d = elim d.came [
  | inl none ↦ only_others me k j d.others new d.theirs none
  | inr p ↦ none_to me k j d.others p.0 new d.theirs (λ same. absurd (part_apart k own p.0 p.1 apart same)) p.2
]

other_call : (old new : Seen) (own : StoreStep) (k : ℕ) → Did own old new → own ≢ Claim k → TookNone k old new
other_call old new own k d apart = record {
  kept = d.kept;
  journal = if_told (λ j. TookNoneTo old.me k j new.journal) old.journal (λ j is. other_to old.me k own j new.journal apart (told_if (λ j. DidTo old.me own j new.journal) old.journal j is d.journal));
}

none_first : (s : Seen) (k : ℕ) → TookNone k s s
none_first s k = record {
  kept = keeps_none s;
  journal = if_told (λ j. TookNoneTo s.me k j s.journal) s.journal (λ x is. record { steps = []; none = tt; came = is ∙ ap Some (sym (append-nil x)) });
}

none_more : (a b c : Seen) (k : ℕ) → TookNone k a b → TookNone k b c → TookNone k a c
none_more a b c k first second = record {
  kept = keeps_both a b c first.kept second.kept;
  journal = if_told (λ j. TookNoneTo a.me k j c.journal) a.journal (λ x is.
      let one = told_if (λ j. TookNoneTo a.me k j b.journal) a.journal x is first.journal in
      let two = told_if (λ j. TookNoneTo b.me k j c.journal) b.journal (x ++ one.steps) one.came second.journal in
      let mine : AreNoClaims a.me k (world_of (x ++ one.steps)) two.steps = subst (λ me. AreNoClaims me k (world_of (x ++ one.steps)) two.steps) first.kept.me two.none in
      record {
        steps = one.steps ++ two.steps;
        none = none_both a.me k (world_of x) one.steps two.steps one.none (subst (λ w. AreNoClaims a.me k w two.steps) (after_both empty x one.steps) mine);
        came = two.came ∙ ap Some (append_assoc x one.steps two.steps);
      });
}

stood_earlier : (a b c : Seen) (k : ℕ) → Grew a b → Stood k b c → Stood k a c
stood_earlier a b c k g h = if_told (λ j. StoodTo k j c.journal) a.journal (λ x is.
    let one = told_if (λ j. GrewTo j b.journal) a.journal x is g.journal in
    let two = told_if (λ j. StoodTo k j c.journal) b.journal (x ++ one.steps) one.came h in
    let longer = append_assoc x one.steps two.front in
    record {
      front = one.steps ++ two.front;
      back = two.back;
      came = two.came ∙ ap (λ (y : Journal). Some (y ++ two.back)) longer;
      stood = λ none. two.stood (ap (λ (y : Journal). (world_of y).temps k) longer ∙ none);
    })

stood_later : (a b c : Seen) (k : ℕ) → Stood k a b → Grew b c → Stood k a c
stood_later a b c k h g = if_told (λ j. StoodTo k j c.journal) a.journal (λ x is.
    let one = told_if (λ j. StoodTo k j b.journal) a.journal x is h in
    let two = told_if (λ j. GrewTo j c.journal) b.journal (x ++ one.front ++ one.back) one.came g.journal in
    record { front = one.front; back = one.back ++ two.steps; came = two.came ∙ ap Some (append_assoc (x ++ one.front) one.back two.steps); stood = one.stood })

took_earlier : (a b c : Seen) (k : ℕ) → Grew a b → Took k b c → Took k a c
took_earlier a b c k g h = if_told (λ j. TookTo a.me k j c.journal) a.journal (λ x is.
    let one = told_if (λ j. GrewTo j b.journal) a.journal x is g.journal in
    let two = told_if (λ j. TookTo b.me k j c.journal) b.journal (x ++ one.steps) one.came h in
    let longer = append_assoc x one.steps two.front in
    record {
      front = one.steps ++ two.front;
      back = two.back;
      came = two.came ∙ ap (λ (y : Journal). Some (y ++ claiming b.me k ∷ two.back)) longer ∙ ap (λ me. Some (x ++ (one.steps ++ two.front) ++ claiming me k ∷ two.back)) g.kept.me;
      free = sym (ap (λ (y : Journal). (world_of y).temps k) longer) ∙ two.free;
    })

took_later : (a b c : Seen) (k : ℕ) → Took k a b → Grew b c → Took k a c
took_later a b c k h g = if_told (λ j. TookTo a.me k j c.journal) a.journal (λ x is.
    let one = told_if (λ j. TookTo a.me k j b.journal) a.journal x is h in
    let two = told_if (λ j. GrewTo j c.journal) b.journal (x ++ one.front ++ claiming a.me k ∷ one.back) one.came g.journal in
    record { front = one.front; back = one.back ++ two.steps; came = two.came ∙ ap Some (append_assoc (x ++ one.front) (claiming a.me k ∷ one.back) two.steps); free = one.free })

pub claims : ClaimsLaw
claims = record {
  took = took_true;
  stood = stood_false;
  found = none_false;
  refused = refused_claim;
  other = other_call;
  none = none_first;
  both = none_more;
  stood_before = stood_earlier;
  stood_behind = stood_later;
  took_before = took_earlier;
  took_behind = took_later;
}
