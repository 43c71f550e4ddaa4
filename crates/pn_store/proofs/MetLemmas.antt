-- Lemmas on what a put met at its address, and on its refusals.
use Rattle.std.proofs.Common.{◌≡◌, ◌≢◌, ◌≤◌, inl, inr, ℕ, List, refl, sym, ◌∙◌, arith, subst, Some, None, Ok, Err}
use Rattle.std.specs.Prelude.{Option, IfSome, Result, IfErr}
use Rattle.pn_text.specs.Path.{Path}
use Rattle.pn_fs.specs.Tree.{Tree, file}
use Rattle.pn_fs.specs.Seen.{Seen as Source, Keeps}
use Rattle.pn_storecore.specs.declared.step.Place.{Place}
use Rattle.pn_storecore.specs.declared.step.Place.TheVariants.{Files}
use Rattle.pn_storecore.specs.declared.step.StoreStep.TheVariants.{PublishFile}
use Rattle.sha2.specs.Sha512.{sha512}
use Rattle.pn_storecore.specs.Seen.{Seen}
use Rattle.pn_storecore.specs.Held.{files_with, no_files}
use Rattle.pn_storecore.specs.Grew.{Grew}
use Rattle.pn_storecore.specs.CallLaws.{GrewLaw, ClaimsLaw, WasLaw}
use Rattle.pn_store.specs.declared.compare.Met.{Met}
use Rattle.pn_store.specs.declared.compare.Met.TheVariants as met
use Rattle.pn_store.specs.declared.fault.PutFault.{PutFault}
use Rattle.pn_store.specs.declared.fault.PutFault.TheVariants.{StoreFault, SourceFault, TooLarge, Clash, Memory}
use Rattle.pn_store.specs.Own.{IsPutStep, PublishedNone, PublishedAtMost}
use Rattle.pn_store.specs.Leaves.{LeavesAll}
use Rattle.pn_store.specs.Held.{Works}
use Rattle.pn_store.specs.Reads.{StoodThere}
use Rattle.pn_store.specs.Faults.{IsLong, FileRefused, PutRefused, StoreRefuses}
use Rattle.pn_store.specs.Puts.{IsFound, IsMet, IsSource, PutLeft, absent, same, other, long}
use Rattle.pn_store.proofs.MadeLemmas.{made_both, reads_put}
use Rattle.pn_store.proofs.LeavesLemmas.{others_both, all_others}

-- what was met behind other calls, and before them
pub stood_before : WasLaw → (a b c : Seen) (place : Place) (at bytes : List ℕ) → Grew a b → StoodThere place at bytes b c → StoodThere place at bytes a c
stood_before law a b c place at bytes grew h = elim h [
  | inl was ↦ inl (law.before a b c place at (Some bytes) grew was)
  | inr ch ↦ inr (record { one = ch.one; other = ch.other; differ = ch.differ; first = law.before a b c place at (Some ch.one) grew ch.first; second = law.before a b c place at (Some ch.other) grew ch.second })
]

pub stood_behind : WasLaw → (a b c : Seen) (place : Place) (at bytes : List ℕ) → StoodThere place at bytes a b → Grew b c → StoodThere place at bytes a c
stood_behind law a b c place at bytes h grew = elim h [
  | inl was ↦ inl (law.behind a b c place at (Some bytes) was grew)
  | inr ch ↦ inr (record { one = ch.one; other = ch.other; differ = ch.differ; first = law.behind a b c place at (Some ch.one) ch.first grew; second = law.behind a b c place at (Some ch.other) ch.second grew })
]

pub met_between : WasLaw → (source mid : Option Tree) (p : Path) (at : List ℕ) (a b c d : Seen) → mid ≡ source → Grew a b → Grew c d → IsMet mid p at b c → IsMet source p at a d
met_between law source mid p at a b c d told first last (absent was) = absent (law.behind a c d Files at None (law.before a b c Files at None first was) last)
met_between law source mid p at a b c d told first last (same stored from stood) =
    same stored (subst (λ s. IsSource s p stored) told from) (stood_behind law a c d Files at stored (stood_before law a b c Files at stored first stood) last)
met_between law source mid p at a b c d told first last (other stored apart stood) = other stored apart (stood_behind law a c d Files at stored (stood_before law a b c Files at stored first stood) last)
met_between law source mid p at a b c d told first last (long stored past stood) = long stored past (stood_behind law a c d Files at stored (stood_before law a b c Files at stored first stood) last)

-- a refusal behind calls that were not refused
pub refused_behind : WasLaw → (p : Path) (from mid gone : Source) (a b c : Seen) (e : PutFault) → Keeps from mid → Grew a b → a.faults ≤ b.faults → PutRefused p mid gone b c e → PutRefused p from gone a c e
refused_behind law p from mid gone a b c StoreFault keeps grew later h = omega (arith, later, h)
refused_behind law p from mid gone a b c SourceFault keeps grew later h = omega (arith, keeps.later, h)
refused_behind law p from mid gone a b c (TooLarge n) keeps grew later h = (h.0, subst (λ s. IfSome s (λ r. IsLong (r p) n)) keeps.tree h.1)
refused_behind law p from mid gone a b c (Clash at) keeps grew later h = record {
  stored = h.stored;
  own = h.own;
  first = h.first;
  second = h.second;
  source = subst (λ s. IfSome s (λ r. (r p ≡ Some (file h.own)) × (h.stored ≢ h.own))) keeps.tree h.source;
  stood = stood_before law a b c Files at h.stored grew h.stood;
}
refused_behind law p from mid gone a b c Memory keeps grew later h = tt

-- what a comparison answers is what was met, unless it is a clash
pub met_of : (source : Option Tree) (p : Path) (at : List ℕ) (old new : Seen) (m : Met) → IsFound source p at old new m → ((d : List ℕ) → m ≡ met.Other d → d ≢ at) → IsMet source p at old new
met_of source p at old new met.Absent h apart = absent h
met_of source p at old new met.Same h apart = same h.0 h.1 h.2
met_of source p at old new (met.Other d) h apart = other h.0 (λ e. apart d refl (sym h.1 ∙ e)) h.3
met_of source p at old new met.Long h apart = long h.0 h.1 h.2

pub as_put : (p : Path) (from gone : Source) (old new : Seen) (e : PutFault) → FileRefused p from gone old new e → PutRefused p from gone old new e
as_put p from gone old new StoreFault h = h
as_put p from gone old new SourceFault h = h
as_put p from gone old new (TooLarge n) h = h
as_put p from gone old new (Clash at) h = absurd h
as_put p from gone old new Memory h = h

-- a held folder after calls that left it
pub works_left : GrewLaw → ClaimsLaw → (k : ℕ) (a b c : Seen) → Works k a b → LeavesAll b c → Grew b c → b.faults ≤ c.faults → Works k a c
works_left grew claims k a b c w left more later = record {
  held = (w.held.0, left.held k (files_with no_files 0 w.held.0) w.held.1);
  others = others_both claims k a b c w.others (all_others k b c left);
  own = made_both (IsPutStep k) a b c w.own (reads_put k b c left.own);
  grew = grew.both a b c w.grew more;
  later = omega (arith, w.later, later);
}

-- a refusal before anything was published
pub left_none : (source : Option Tree) (p : Path) (k : ℕ) (old new : Seen) (e : PutFault) → PublishedNone old new → PutLeft source p k old new e
left_none source p k old new StoreFault h = inl h
left_none source p k old new SourceFault h = h
left_none source p k old new (TooLarge n) h = h
left_none source p k old new (Clash at) h = h
left_none source p k old new Memory h = inl h

pub left_before : {T : Type 0} (r : Result T PutFault) (source : Option Tree) (p : Path) (k : ℕ) (old new : Seen) → PublishedNone old new → IfErr r (PutLeft source p k old new)
left_before (Ok v) source p k old new h = tt
left_before (Err e) source p k old new h = left_none source p k old new e h

-- a refusal of the put's own publish
pub left_some : (source : Option Tree) (p : Path) (k : ℕ) (old mid new : Seen) (bytes at : List ℕ) (e : PutFault) → at ≡ sha512 bytes → IsSource source p bytes → PublishedAtMost (PublishFile k 0 at) old new → StoreRefuses mid new e → PutLeft source p k old new e
left_some source p k old mid new bytes at StoreFault digest from h why = inr (bytes, from, subst (λ d. PublishedAtMost (PublishFile k 0 d) old new) digest h)
left_some source p k old mid new bytes at SourceFault digest from h why = absurd why
left_some source p k old mid new bytes at (TooLarge n) digest from h why = absurd why
left_some source p k old mid new bytes at (Clash d) digest from h why = absurd why
left_some source p k old mid new bytes at Memory digest from h why = inr (bytes, from, subst (λ d. PublishedAtMost (PublishFile k 0 d) old new) digest h)
