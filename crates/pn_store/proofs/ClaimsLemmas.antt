-- Lemmas on numbers that are tried.
use Rattle.std.proofs.Common.{◌≡◌, ◌≢◌, ◌≤◌, ◌<◌, ◌+◌, ℕ, sym, subst, arith, Bool, true, false, Option, None, Result, Ok, Err, inl, inr, eq-or-lt_of_le}
use Rattle.std.specs.Prelude.{IfOk, OnErr}
use Rattle.std.specs.Bool.{OnTrue, OnFalse}
use Rattle.pn_text.specs.declared.fault.DevFault.{DevFault}
use Rattle.pn_storecore.specs.declared.step.StoreStep.TheVariants.{Claim}
use Rattle.pn_storecore.specs.Seen.{Seen, Keeps}
use Rattle.pn_storecore.specs.Calls.{Answers, IsClaim}
use Rattle.pn_storecore.specs.Held.{Holds, no_files}
use Rattle.pn_storecore.specs.Grew.{Grew, Stood, TookNone}
use Rattle.pn_storecore.specs.CallLaws.{HoldsLaw, DidLaw, ClaimsLaw, LeavesLaw}
use Rattle.pn_storecore.proofs.UpdateLemmas.{at_number}
use Rattle.pn_text.proofs.Results.{on_err}
use Rattle.pn_store.specs.declared.number.TheConstants.{NUMBERS}
use Rattle.pn_store.specs.Own.{IsClaimStep}
use Rattle.pn_store.specs.Claims.{IsClaimed, IsTried, IsLeft, OnlyClaims, AreTaken}
use Rattle.pn_store.proofs.MadeLemmas.{made_call, made_none, made_both}

none_at : ℕ → Option ℕ
none_at q = None

ok_at : {T E : Type 0} (P : T → Type 0) (r : Result T E) (v : T) → r ≡ Ok v → IfOk r P → P v
ok_at P r v is h = subst (λ x. IfOk x P) is h

-- a claim that answered true
number_of : (k j : ℕ) → Claim k ≡ Claim j → j ≡ k
number_of k j e = cc

pub err_at : {T E : Type 0} (P : Type 0) (r : Result T E) (e : E) → r ≡ Err e → OnErr r P → P
err_at P r e is h = subst (λ x. OnErr x P) is h

-- a claim makes the folder of no other number
pub not_other : DidLaw → ClaimsLaw → (old new : Seen) (k : ℕ) (r : Result Bool DevFault) → Keeps old new → Answers old (Claim k) new r (IsClaim k) → (j : ℕ) → j ≢ k → TookNone j old new
not_other did claims old new k r keeps step j apart = claims.other old new (Claim k) j (did.claim old new k r keeps step) (λ same. apart (number_of k j same))

pub claimed : HoldsLaw → DidLaw → ClaimsLaw → (old new : Seen) (k : ℕ) (r : Result Bool DevFault) (free : Bool) → r ≡ Ok free → Keeps old new → Answers old (Claim k) new r (IsClaim k) → OnTrue free (IsClaimed k old new)
claimed holds did claims old new k r true is keeps step = record {
  holds = subst (Holds new k) (sym (holds.emptied 0)) (ok_at (λ free. OnTrue free (Holds new k no_files)) r true is (holds.claimed old new k r keeps step));
  took = ok_at (λ free. OnTrue free _) r true is (claims.took old new k r keeps step);
  others = not_other did claims old new k r keeps step;
}
claimed holds did claims old new k r false is keeps step = tt

-- one that answered false made the folder of no number
pub others : DidLaw → ClaimsLaw → (old new : Seen) (k : ℕ) (r : Result Bool DevFault) (free : Bool) → r ≡ Ok free → Keeps old new → Answers old (Claim k) new r (IsClaim k) → OnFalse free ((j : ℕ) → TookNone j old new)
others did claims old new k r true is keeps step = tt
others did claims old new k r false is keeps step = λ j. elim (at_number none_at j None k) [
  | inl e ↦ subst (λ n. TookNone n old new) (sym e.0) (ok_at (λ free. OnFalse free (TookNone k old new)) r false is (claims.found old new k r keeps step))
  | inr e ↦ not_other did claims old new k r keeps step j e.0
]

-- one that was refused
pub tried : HoldsLaw → DidLaw → ClaimsLaw → (old new : Seen) (k : ℕ) (r : Result Bool DevFault) → Keeps old new → Answers old (Claim k) new r (IsClaim k) → OnErr r (IsTried k old new)
tried holds did claims old new k r keeps step = on_err r (λ h. elim h [
  | inl held ↦ inr (subst (Holds new k) (sym (holds.emptied 0)) held, not_other did claims old new k r keeps step)
  | inr none ↦ inl (λ j. elim (at_number none_at j None k) [ inl e ↦ subst (λ n. TookNone n old new) (sym e.0) none | inr e ↦ not_other did claims old new k r keeps step j e.0 ])
]) (claims.refused old new k r keeps step)

-- before it all smaller numbers were taken
pub tried_behind : ClaimsLaw → (k : ℕ) (a b c : Seen) → k < NUMBERS → AreTaken k a b → Grew b c → IsTried k b c → IsLeft a c
tried_behind claims k a b c within taken grew h = elim h [
  | inl more ↦ inl (λ j. claims.both a b c j (taken.others j) (more j))
  | inr h ↦ inr (
    k,
    record { within = within; stood = λ j below. claims.stood_behind a b c j (taken.stood j below) grew },
    h.0,
    λ j apart. claims.both a b c j (taken.others j) (h.1 j apart),
  )
]

-- a claim leaves what was held
pub only_claim : DidLaw → LeavesLaw → (old new : Seen) (k : ℕ) (r : Result Bool DevFault) → Keeps old new → Answers old (Claim k) new r (IsClaim k) → OnlyClaims old new
only_claim did leaves old new k r keeps step =
    let called = did.claim old new k r keeps step in
    record { held = λ j files held. leaves old new (Claim k) j files called tt held; own = made_call IsClaimStep old new (Claim k) called tt (λ q n x y h. h) }

pub only_none : (a : Seen) → OnlyClaims a a
only_none a = record { held = λ j files held. held; own = made_none IsClaimStep a }

pub only_both : (a b c : Seen) → OnlyClaims a b → OnlyClaims b c → OnlyClaims a c
only_both a b c first second = record { held = λ j files held. second.held j files (first.held j files held); own = made_both IsClaimStep a b c first.own second.own }

pub claimed_behind : ClaimsLaw → (k : ℕ) (a b c : Seen) → Grew a b → ((j : ℕ) → TookNone j a b) → IsClaimed k b c → IsClaimed k a c
claimed_behind claims k a b c grew none h = record {
  holds = h.holds;
  took = claims.took_before a b c k grew h.took;
  others = λ j apart. claims.both a b c j (none j) (h.others j apart);
}

pub stood : ClaimsLaw → (old new : Seen) (k : ℕ) (r : Result Bool DevFault) (free : Bool) → r ≡ Ok free → Keeps old new → Answers old (Claim k) new r (IsClaim k) → OnFalse free (Stood k old new)
stood claims old new k r free is keeps step = ok_at (λ free. OnFalse free (Stood k old new)) r free is (claims.stood old new k r keeps step)

-- no number is tried yet
pub none_taken : ClaimsLaw → (a : Seen) → AreTaken 0 a a
none_taken claims a = record { stood = λ k h. absurd (omega (arith, h)); others = λ k. claims.none a k }

-- one more is taken
pub taken_more : ClaimsLaw → (a b c : Seen) (k : ℕ) → Grew a b → AreTaken k a b → Grew b c → Stood k b c → ((j : ℕ) → TookNone j b c) → AreTaken (k + 1) a c
taken_more claims a b c k before h grew now none = record {
  stood = λ j below. let within : j ≤ k = omega (arith, below) in elim (eq-or-lt_of_le within) [
    | inl e ↦ subst (λ n. Stood n a c) (sym e) (claims.stood_before a b c k before now)
    | inr l ↦ claims.stood_behind a b c j (h.stood j l) grew
  ];
  others = λ j. claims.both a b c j (h.others j) (none j);
}
