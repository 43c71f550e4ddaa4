-- Lemmas on the file of a held folder.
use Rattle.std.proofs.Common.{◌≡◌, ◌≤◌, ℕ, List, ◌++◌, refl, sym, subst, arith, take, length, Option, Some, None, Result, Ok, Err, inl, inr, ◌⊎◌}
use Rattle.std.specs.Prelude.{OnOk, OnErr}
use Rattle.pn_text.specs.Causes.{HasCause}
use Rattle.pn_text.specs.declared.fault.DevFault.{DevFault}
use Rattle.pn_text.specs.declared.fault.DevFault.TheVariants.{Failed, Memory as no_memory}
use Rattle.pn_storecore.specs.declared.step.StoreStep.{StoreStep}
use Rattle.pn_storecore.specs.declared.step.StoreStep.TheVariants as step
use Rattle.pn_storecore.specs.Seen.{Seen, Keeps, Asks}
use Rattle.pn_storecore.specs.Calls.{Does, Appends}
use Rattle.pn_storecore.specs.Held.{Holds, IsFree, IsIn, files_after, files_with, no_files}
use Rattle.pn_storecore.specs.CallLaws.{HoldsLaw, DidLaw, GrewLaw, AsksLaw, LeavesLaw, ClaimsLaw}
use Rattle.pn_text.proofs.Results.{on_ok, on_err}
use Rattle.pn_store.specs.declared.fault.PutFault.{PutFault}
use Rattle.pn_store.specs.Held.{HoldsFile, IsHeld, Works}
use Rattle.pn_store.specs.Faults.{store_answer}
use Rattle.pn_store.specs.Own.{Made, IsDropOf, IsPutStep}
use Rattle.pn_store.proofs.MadeLemmas.{made_call, made_both, made_none}
use Rattle.pn_store.proofs.LeavesLemmas.{in_apart, in_spares, others_call, others_both, others_none}

-- what holds after either answer
pub either : {T E Q : Type 0} (r : Result T E) (A B : Type 0) → OnOk r A → OnErr r B → (A → Q) → (B → Q) → Q
either (Ok v) A B a b f g = f a
either (Err e) A B a b f g = g b

-- no file, in either of two words
pub none_is : HoldsLaw → files_with no_files 0 None ≡ no_files
none_is laws = laws.emptied 0

-- the answer in this crate's words
answered : {T : Type 0} (P : Type 0) (r : Result T DevFault) → OnOk r P → OnOk (store_answer r) P
answered P (Ok v) h = h
answered P (Err Failed) h = tt
answered P (Err no_memory) h = tt

pub ok_of : {T : Type 0} (P : Type 0) (r : Result T DevFault) (q : Result T PutFault) → q ≡ store_answer r → OnOk r P → OnOk q P
ok_of P r q is h = subst (λ q. OnOk q P) (sym is) (answered P r h)

pub err_of : {T : Type 0} (P : Type 0) (r : Result T DevFault) (q : Result T PutFault) → q ≡ store_answer r → OnErr r P → OnErr q P
err_of P (Ok v) q is h = subst (λ q. OnErr q P) (sym is) tt
err_of P (Err Failed) q is h = subst (λ q. OnErr q P) (sym is) h
err_of P (Err no_memory) q is h = subst (λ q. OnErr q P) (sym is) h

-- a folder that was to be dropped, after a refusal
pub freed_or_held : HoldsLaw → (old new : Seen) (k : ℕ) (r : Result (Unit {0}) DevFault) → Keeps old new → Does old (step.DropTemp k None) new r → HoldsFile old k None → OnErr r (IsHeld new k ⊎ IsFree new k)
freed_or_held laws old new k r keeps does held = on_err r (λ h. elim h [ inl a ↦ inl (None, subst (Holds new k) (sym (none_is laws)) a) | inr b ↦ inr b ])
    (laws.free_refused old new k no_files r keeps does (subst (Holds old k) (none_is laws) held))

-- after a step on the file of a held folder
pub works_by : HoldsLaw → DidLaw → GrewLaw → LeavesLaw → ClaimsLaw → (old new : Seen) (own : StoreStep) (k : ℕ) (b c : Option (List ℕ)) (r : Result (Unit {0}) DevFault) → Keeps old new → Does old own new r → HasCause old.faults new.faults r → IsIn k own → IsPutStep k own → Asks old own
    → files_after own (files_with no_files 0 b) ≡ files_with no_files 0 c → HoldsFile old k b → OnOk r (HoldsFile new k c) × Works k old new
works_by holds did grew leaves claims old new own k b c r keeps does cause inside puts asks is held =
    let made = holds.made old new own k (files_with no_files 0 b) r keeps inside does held in
    let left = holds.refused old new own k (files_with no_files 0 b) r keeps inside does held in
    let called = did.does old new own r keeps does in
    let done : OnOk r (HoldsFile new k c) = on_ok r (λ h. subst (Holds new k) is h) made in (
      done,
      record {
        held = either r (HoldsFile new k c) (Holds new k (files_with no_files 0 b) ⊎ Holds new k (files_after own (files_with no_files 0 b))) done left (λ h. (c, h)) (λ h. elim h [ inl a ↦ (b, a) | inr a ↦ (c, subst (Holds new k) is a) ]);
        others = others_call leaves claims old new own k called (λ j. in_apart k j own inside) (λ j apart. in_spares k j own inside apart);
        own = made_call (IsPutStep k) old new own called puts (λ q n x y h. h);
        grew = grew.call old new own asks called;
        later = cause.later;
      },
    )

pub works_append : HoldsLaw → DidLaw → GrewLaw → AsksLaw → LeavesLaw → ClaimsLaw → (old new : Seen) (k : ℕ) (more bytes : List ℕ) (r : Result (Unit {0}) DevFault) → Keeps old new → Appends old k 0 more new r → HasCause old.faults new.faults r
    → HoldsFile old k (Some bytes) → OnOk r (HoldsFile new k (Some (bytes ++ more))) × Works k old new
works_append holds did grew asks leaves claims old new k more bytes r keeps does cause held =
    let files = files_with no_files 0 (Some bytes) in
    let same : (x : List ℕ) → files_after (step.Append k 0 x) files ≡ files_with no_files 0 (Some (bytes ++ x)) = λ x. holds.again no_files 0 (Some bytes) (Some (bytes ++ x)) in
    let made = holds.appended old new k 0 more files r keeps does held in
    let left = holds.append_refused old new k 0 more files r keeps does held in
    let called = did.append old new k 0 more r keeps does in
    let done : OnOk r (HoldsFile new k (Some (bytes ++ more))) = on_ok r (λ h. subst (Holds new k) (same more) h) made in (
      done,
      record {
        held = either r (HoldsFile new k (Some (bytes ++ more))) (Holds new k files ⊎ ((i : ℕ) × (i ≤ length more) × Holds new k (files_after (step.Append k 0 (take i more)) files))) done left (λ h. (Some (bytes ++ more), h))
            (λ h. elim h [ inl a ↦ (Some bytes, a) | inr a ↦ (Some (bytes ++ take a.0 more), subst (Holds new k) (same (take a.0 more)) a.2) ]);
        others = others_call leaves claims old new (step.Append k 0 more) k called (λ j. in_apart k j (step.Append k 0 more) refl) (λ j apart. in_spares k j (step.Append k 0 more) refl apart);
        own = made_call (IsPutStep k) old new (step.Append k 0 more) called (refl, refl) (λ q n x y h. h);
        grew = grew.call old new (step.Append k 0 more) (asks.append old k 0 more bytes files held refl) called;
        later = cause.later;
      },
    )

-- one call after another
pub works_twice : GrewLaw → ClaimsLaw → (k : ℕ) (a b c : Seen) → Works k a b → Works k b c → Works k a c
works_twice grew claims k a b c h w = record {
  held = w.held;
  others = others_both claims k a b c h.others w.others;
  own = made_both (IsPutStep k) a b c h.own w.own;
  grew = grew.both a b c h.grew w.grew;
  later = omega (arith, h.later, w.later);
}

-- no call
pub works_none : GrewLaw → ClaimsLaw → (k : ℕ) (a : Seen) → IsHeld a k → Works k a a
works_none grew claims k a held = record { held = held; others = others_none claims k a; own = made_none (IsPutStep k) a; grew = grew.none a; later = omega arith }

-- a step that drops something of a number
pub drops_call : DidLaw → (old new : Seen) (k : ℕ) (n : Option ℕ) (r : Result (Unit {0}) DevFault) → Keeps old new → Does old (step.DropTemp k n) new r → Made (IsDropOf k) old new
drops_call did old new k n r keeps does = made_call (IsDropOf k) old new (step.DropTemp k n) (did.does old new (step.DropTemp k n) r keeps does) refl (λ q m x y h. h)
