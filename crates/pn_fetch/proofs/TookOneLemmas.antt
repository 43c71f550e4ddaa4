-- Lemmas on the number that a fetch takes.
use Rattle.std.proofs.Common.{◌≡◌, ◌≤◌, ◌⊎◌, ℕ, List, inl, inr, None, sym, subst}
use Rattle.std.specs.Prelude.{Option}
use Rattle.std.specs.List.{All}
use Rattle.pn_fs.specs.Tree.{Tree}
use Rattle.pn_fs.specs.Seen.{Seen as Source}
use Rattle.pn_text.specs.Causes.{Rose}
use Rattle.pn_fs.proofs.SeenLemmas.{rose_from}
use Rattle.pn_digest.specs.Listing.{Entry}
use Rattle.pn_storecore.specs.Held.{IsFree}
use Rattle.pn_storecore.specs.Seen.{Seen}
use Rattle.pn_storecore.specs.CallLaws.{ClaimsLaw}
use Rattle.pn_store.specs.Claims.{ClaimRefused, IsClaimed, IsLeft, OnlyClaims}
use Rattle.pn_store.specs.Held.{IsHeld}
use Rattle.pn_store.specs.Leaves.{LeavesOthers}
use Rattle.pn_store.specs.Reads.{ReadRefused}
use Rattle.pn_store.specs.declared.fault.ClaimFault.{ClaimFault}
use Rattle.pn_store.specs.declared.fault.ClaimFault.TheVariants as claim
use Rattle.pn_store.specs.declared.fault.ReadFault.{ReadFault}
use Rattle.pn_store.specs.declared.fault.ReadFault.TheVariants as read
use Rattle.pn_package.specs.declared.packages.Package.{Package}
use Rattle.pn_fetch.specs.Faults.{PutsRefused, claim_fault, release_fault}
use Rattle.pn_fetch.specs.Listings.{AreListingsOf, IsStored}
use Rattle.pn_fetch.specs.Numbers.{IsFreeUnless, IsHeldBack, IsReleased, IsStuck, IsUnreleased, TookOne, LeavesOne}
use Rattle.pn_fetch.specs.declared.fault.FetchFault.{FetchFault}
use Rattle.pn_fetch.specs.declared.fault.FetchFault.TheVariants.{StoreFault, RegistryFault, NumbersFull, TooLarge, Clash, Memory}

-- no call
pub took_none : ClaimsLaw → (P : ℕ → Type 0) (a : Seen) → TookOne P a a
took_none claims P a = inl (record { took = λ j. claims.none a j; held = λ j files h. h })

-- a number was claimed, and calls under it followed
pub took_one : ClaimsLaw → (P : ℕ → Type 0) (k : ℕ) (a b c : Seen) → IsClaimed k a b → OnlyClaims a b → LeavesOthers k b c → P k → TookOne P a c
took_one claims P k a b c claimed only others such = inr (
  k,
  such,
  record {
    took = λ j apart. claims.both a b c j (claimed.others j apart) (others.took j);
    held = λ j files apart h. others.held j files apart (only.held j files h);
  },
)

took_stuck : (Cause : Type 0) (a b : Seen) → IsLeft a b → OnlyClaims a b → Cause → LeavesOne Cause a b
took_stuck Cause a b left only why = elim left [
  | inl none ↦ inl (record { took = none; held = only.held })
  | inr one ↦ inr (one.0, inr ((None, one.2), why), record { took = one.3; held = λ j files apart h. only.held j files h })
]

-- no number was claimed
pub took_left : (r : Option Tree) (ps : List Package) (a b : Seen) (e : ClaimFault) → IsLeft a b → OnlyClaims a b → ClaimRefused a b e → LeavesOne (IsStuck r ps a b (claim_fault e)) a b
took_left r ps a b claim.Fault left only rose = took_stuck (IsStuck r ps a b StoreFault) a b left only (inr (record { only = only; failed = rose }))
took_left r ps a b claim.NumbersFull left only full = inl (record { took = full.others; held = only.held })
took_left r ps a b claim.Memory left only u = took_stuck (IsStuck r ps a b Memory) a b left only tt

-- for a wider cause
pub unless_wider : (P Q : Type 0) (k : ℕ) (s : Seen) → (P → Q) → IsFreeUnless P s k → IsFreeUnless Q s k
unless_wider P Q k s f h = elim h [ inl free ↦ inl free | inr held ↦ inr (held.0, f held.1) ]

pub leaves_wider : (P Q : Type 0) (a b : Seen) → (P → Q) → LeavesOne P a b → LeavesOne Q a b
leaves_wider P Q a b f h = elim h [
  | inl none ↦ inl none
  | inr one ↦ inr (one.0, unless_wider P Q one.0 b f one.1, one.2)
]

-- a number that is free again is left
pub leaves_released : (Cause : Type 0) (a b : Seen) → IsReleased a b → LeavesOne Cause a b
leaves_released Cause a b h = elim h [ inl none ↦ inl none | inr one ↦ inr (one.0, inl one.1, one.2) ]

-- the number is held or free
pub held_unless : (k : ℕ) (a : Seen) (Cause : Type 0) → Cause → IsHeld a k ⊎ IsFree a k → IsFreeUnless Cause a k
held_unless k a Cause why h = elim h [ inl held ↦ inr (held, why) | inr free ↦ inl free ]

-- behind a claim
pub stuck_behind : (r : Option Tree) (ps : List Package) (a b c : Seen) (e : FetchFault) → a.faults ≤ b.faults → IsUnreleased r ps b c e → IsStuck r ps a c e
stuck_behind r ps a b c StoreFault later h = inl (elim h [
  | inl twice ↦ inl (twice.0, rose_from a.faults b.faults twice.0 later twice.1, twice.2)
  | inr put ↦ inr (record { listings = put.listings; right = put.right; stored = put.stored; failed = rose_from a.faults b.faults c.faults later put.failed })
])
stuck_behind r ps a b c RegistryFault later h = rose_from a.faults b.faults c.faults later h
stuck_behind r ps a b c NumbersFull later h = h
stuck_behind r ps a b c (TooLarge n) later h = rose_from a.faults b.faults c.faults later h
stuck_behind r ps a b c (Clash at) later h = rose_from a.faults b.faults c.faults later h
stuck_behind r ps a b c Memory later h = tt

-- the release failed, with all packages put
pub stuck_release : (r : Option Tree) (ps : List Package) (a b c : Seen) (all : List (List Entry)) (e : ReadFault) → a.faults ≤ b.faults → AreListingsOf r ps all → All (IsStored c) all → ReadRefused b c e → IsUnreleased r ps a c (release_fault e)
stuck_release r ps a b c all read.Fault later right stored rose = inr (record { listings = all; right = right; stored = stored; failed = rose_from a.faults b.faults c.faults later rose })
stuck_release r ps a b c all (read.Damaged asked found) later right stored h = absurd h
stuck_release r ps a b c all read.Memory later right stored h = tt

failed_too : (r : Option Tree) (ps : List Package) (from gone : Source) (a b c : Seen) (e : FetchFault) → a.faults ≤ b.faults → PutsRefused ps from gone a b e → Rose b.faults c.faults → IsUnreleased r ps a c e
failed_too r ps from gone a b c StoreFault later refused rose = inl (b.faults, refused, rose)
failed_too r ps from gone a b c RegistryFault later refused rose = rose_from a.faults b.faults c.faults later rose
failed_too r ps from gone a b c NumbersFull later refused rose = refused
failed_too r ps from gone a b c (TooLarge n) later refused rose = rose_from a.faults b.faults c.faults later rose
failed_too r ps from gone a b c (Clash at) later refused rose = rose_from a.faults b.faults c.faults later rose
failed_too r ps from gone a b c Memory later refused rose = tt

-- it failed behind puts that were refused
pub stuck_again : (r : Option Tree) (ps : List Package) (from gone : Source) (a b c : Seen) (e f : FetchFault) → a.faults ≤ b.faults → PutsRefused ps from gone a b e → (f ≡ e) ⊎ (f ≡ Memory) → IsHeldBack b c f → IsUnreleased r ps a c f
stuck_again r ps from gone a b c e f later refused which why =
    let wanting : f ≡ Memory → IsUnreleased r ps a c f = λ none. subst (IsUnreleased r ps a c) (sym none) tt in
    elim why [
      | inl rose ↦ elim which [
        | inl same ↦ subst (IsUnreleased r ps a c) (sym same) (failed_too r ps from gone a b c e later refused rose)
        | inr none ↦ wanting none
      ]
      | inr none ↦ wanting none
    ]
