-- Lemmas on what calls leave of numbers.
use Rattle.std.proofs.Common.{◌≢◌, ℕ, sym, ◌∙◌, subst, Some, None}
use Rattle.pn_storecore.specs.declared.step.StoreStep.{StoreStep}
use Rattle.pn_storecore.specs.declared.step.StoreStep.TheVariants.{Claim, Create, Append, Shard, PublishFile, PublishListing, DropTemp, Read, Discard}
use Rattle.pn_storecore.specs.Seen.{Seen}
use Rattle.pn_storecore.specs.Held.{IsIn, Spares}
use Rattle.pn_storecore.specs.Grew.{Did}
use Rattle.pn_storecore.specs.CallLaws.{ClaimsLaw, LeavesLaw}
use Rattle.pn_store.specs.Own.{IsReadStep}
use Rattle.pn_store.specs.Leaves.{LeavesAll, LeavesOthers}
use Rattle.pn_store.proofs.MadeLemmas.{made_call, made_both, made_none}

-- a step in a folder claims none, and spares the others
pub in_apart : (k j : ℕ) (own : StoreStep) → IsIn k own → own ≢ Claim j
in_apart k j own inside e = subst (IsIn k) e inside

pub in_spares : (k j : ℕ) (own : StoreStep) → IsIn k own → j ≢ k → Spares j own
in_spares k j (Claim q) inside apart = tt
in_spares k j (Create q n) inside apart = λ e. apart (sym e ∙ inside)
in_spares k j (Append q n more) inside apart = λ e. apart (sym e ∙ inside)
in_spares k j (Shard place first) inside apart = tt
in_spares k j (PublishFile q n at) inside apart = λ e. apart (sym e ∙ inside)
in_spares k j (PublishListing q n at) inside apart = λ e. apart (sym e ∙ inside)
in_spares k j (DropTemp q (Some n)) inside apart = λ e. apart (sym e ∙ inside)
in_spares k j (DropTemp q None) inside apart = absurd inside
in_spares k j Read inside apart = tt
in_spares k j (Discard taken) inside apart = absurd inside

-- a call
pub others_call : LeavesLaw → ClaimsLaw → (old new : Seen) (own : StoreStep) (k : ℕ) → Did own old new → ((j : ℕ) → own ≢ Claim j) → ((j : ℕ) → j ≢ k → Spares j own) → LeavesOthers k old new
others_call leaves claims old new own k did apart spares = record {
  took = λ j. claims.other old new own j did (apart j);
  held = λ j files other held. leaves old new own j files did (spares j other) held;
}

pub others_both : ClaimsLaw → (k : ℕ) (a b c : Seen) → LeavesOthers k a b → LeavesOthers k b c → LeavesOthers k a c
others_both claims k a b c first second = record {
  took = λ j. claims.both a b c j (first.took j) (second.took j);
  held = λ j files other held. second.held j files other (first.held j files other held);
}

pub others_none : ClaimsLaw → (k : ℕ) (s : Seen) → LeavesOthers k s s
others_none claims k s = record { took = λ j. claims.none s j; held = λ j files other held. held }

-- a read
pub all_call : LeavesLaw → ClaimsLaw → (old new : Seen) → Did Read old new → LeavesAll old new
all_call leaves claims old new did = record {
  took = λ j. claims.other old new Read j did (λ e. cc);
  held = λ j files held. leaves old new Read j files did tt held;
  own = made_call IsReadStep old new Read did tt (λ k n a b h. h);
}

pub all_both : ClaimsLaw → (a b c : Seen) → LeavesAll a b → LeavesAll b c → LeavesAll a c
all_both claims a b c first second = record {
  took = λ j. claims.both a b c j (first.took j) (second.took j);
  held = λ j files held. second.held j files (first.held j files held);
  own = made_both IsReadStep a b c first.own second.own;
}

pub all_none : ClaimsLaw → (s : Seen) → LeavesAll s s
all_none claims s = record { took = λ j. claims.none s j; held = λ j files held. held; own = made_none IsReadStep s }

-- reads leave the other folders too
pub all_others : (k : ℕ) (old new : Seen) → LeavesAll old new → LeavesOthers k old new
all_others k old new h = record { took = h.took; held = λ j files other held. h.held j files held }
