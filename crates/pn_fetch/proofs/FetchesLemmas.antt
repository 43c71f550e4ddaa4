-- Lemmas on calls that put packages under a number.
use Rattle.std.proofs.Common.{◌≡◌, ◌≤◌, ℕ, List, [], ◌∷◌, ◌++◌, refl, sym, subst, inl, arith}
use Rattle.std.specs.Prelude.{Option}
use Rattle.std.specs.List.{All, Contains}
use Rattle.sha2.specs.Sha512.{sha512}
use Rattle.pn_text.specs.Path.{Path}
use Rattle.pn_text.proofs.Members.{here, in_one}
use Rattle.pn_fs.specs.Tree.{Tree}
use Rattle.pn_fs.specs.Seen.{Seen as Source, Keeps}
use Rattle.pn_fs.proofs.SeenLemmas.{keeps_on, keeps_same}
use Rattle.pn_digest.specs.Listing.{Entry, listing_text}
use Rattle.pn_storecore.specs.declared.step.StoreStep.TheVariants.{PublishFile, PublishListing}
use Rattle.pn_storecore.specs.Seen.{Seen}
use Rattle.pn_storecore.specs.Grew.{Grew}
use Rattle.pn_storecore.specs.CallLaws.{GrewLaw, ClaimsLaw, WasLaw}
use Rattle.pn_store.specs.Held.{IsHeld, Works}
use Rattle.pn_store.specs.Leaves.{LeavesOthers}
use Rattle.pn_store.specs.Own.{Made, IsDropOf, PublishedAtMost, PublishedOne}
use Rattle.pn_store.specs.Puts.{PutAtMost, PutLeft}
use Rattle.pn_store.specs.declared.fault.PutFault.{PutFault}
use Rattle.pn_store.specs.declared.fault.PutFault.TheVariants.{StoreFault, SourceFault, TooLarge, Clash, Memory}
use Rattle.pn_store.proofs.HeldLemmas.{works_twice, works_none}
use Rattle.pn_store.proofs.LeavesLemmas.{others_both}
use Rattle.pn_store.proofs.MadeLemmas.{made_both, made_none}
use Rattle.pn_package.specs.declared.packages.Package.{Package}
use Rattle.pn_fetch.specs.Faults.{PlacesRefused}
use Rattle.pn_fetch.specs.Listings.{IsListingOf}
use Rattle.pn_fetch.specs.Puts.{WasPut}
use Rattle.pn_fetch.specs.Steps.{IsFetchStep, IsFileAt, IsPlaceOf, Fetches, Ends}
use Rattle.pn_fetch.specs.declared.fault.FetchFault.{FetchFault}
use Rattle.pn_fetch.proofs.IsFetchStepLemmas.{drops_made, file_made, listing_made, made_wider, one_at_most, refused_made}
use Rattle.pn_fetch.proofs.PutsRefusedLemmas.{all_were, refused_among, refused_between}

pub fetches_none : GrewLaw → ClaimsLaw → (ps : List Package) (k : ℕ) (from : Source) (a : Seen) → IsHeld a k → Fetches ps k from from a a
fetches_none grew claims ps k from a held = record { works = works_none grew claims k a held; own = made_none (IsFetchStep from.tree ps) a; registry = keeps_same from }

pub fetches_both : GrewLaw → ClaimsLaw → (ps : List Package) (k : ℕ) (from mid gone : Source) (a b c : Seen) → Fetches ps k from mid a b → Fetches ps k mid gone b c → Fetches ps k from gone a c
fetches_both grew claims ps k from mid gone a b c first second = record {
  works = works_twice grew claims k a b c first.works second.works;
  own = made_both (IsFetchStep from.tree ps) a b c first.own (subst (λ (r : Option Tree). Made (IsFetchStep r ps) b c) first.registry.tree second.own);
  registry = keeps_on from mid gone first.registry second.registry;
}

pub fetches_wider : (ps qs : List Package) → ((p : Package) → Contains ps p → Contains qs p) → (k : ℕ) (from gone : Source) (a b : Seen) → Fetches ps k from gone a b → Fetches qs k from gone a b
fetches_wider ps qs more k from gone a b h = record { works = h.works; own = made_wider from.tree ps qs more a b h.own; registry = h.registry }

-- a package that is one of some
pub only_one : (packages : List Package) (q : Package) → Contains packages q → (p : Package) → Contains (q ∷ []) p → Contains packages p
only_one packages q among p c = subst (Contains packages) (in_one q p c) among

-- a refusal behind calls that were not refused
pub refused_behind : GrewLaw → WasLaw → (ps : List Package) (all : List Path) (k : ℕ) (from mid gone : Source) (a b c : Seen) (e : FetchFault) → Fetches ps k from mid a b → PlacesRefused all mid gone b c e → PlacesRefused all from gone a c e
refused_behind grew was ps all k from mid gone a b c e h refused = refused_between was all from mid gone a b c c e h.registry h.works.grew h.works.later (grew.none c) (omega arith) refused

-- the same of some files, where those before were put
pub refused_on : GrewLaw → WasLaw → (ps : List Package) (all front some back : List Path) (k : ℕ) (from mid gone : Source) (a b c : Seen) (e : FetchFault) → all ≡ front ++ (some ++ back) → Fetches ps k from mid a b → Grew b c → All (WasPut from.tree a b) front
    → PlacesRefused some mid gone b c e → PlacesRefused all from gone a c e
refused_on grew was ps all front some back k from mid gone a b c e is h more put refused =
    refused_among all front some back from gone a c e is (all_were grew was from.tree a b c front more put) (refused_behind grew was ps some k from mid gone a b c e h refused)

-- the number is dropped behind them
pub fetches_end : GrewLaw → ClaimsLaw → (ps : List Package) (k j : ℕ) (from gone : Source) (a b c : Seen) → j ≡ k → Fetches ps k from gone a b → LeavesOthers j b c → Made (IsDropOf j) b c → Grew b c → b.faults ≤ c.faults → Ends ps k from gone a c
fetches_end grew claims ps k j from gone a b c same h others own more later = record {
  own = made_both (IsFetchStep from.tree ps) a b c h.own (drops_made from.tree ps j b c own);
  others = others_both claims k a b c h.works.others (subst (λ i. LeavesOthers i b c) same others);
  grew = grew.both a b c h.works.grew more;
  later = omega (arith, h.works.later, later);
  registry = h.registry;
}

-- the number by another name
pub fetches_next : GrewLaw → ClaimsLaw → (ps : List Package) (k j : ℕ) (from mid gone : Source) (a b c : Seen) → j ≡ k → Fetches ps k from mid a b → Fetches ps j mid gone b c → Fetches ps k from gone a c
fetches_next grew claims ps k j from mid gone a b c same first second = fetches_both grew claims ps k from mid gone a b c first (subst (λ i. Fetches ps i mid gone b c) same second)

-- the same of a package that is one of some
pub fetches_more : GrewLaw → ClaimsLaw → (packages : List Package) (q : Package) → Contains packages q → (k j : ℕ) (from mid gone : Source) (a b c : Seen) → j ≡ k → Fetches packages k from mid a b → Fetches (q ∷ []) j mid gone b c → Fetches packages k from gone a c
fetches_more grew claims packages q among k j from mid gone a b c same first second =
    fetches_next grew claims packages k j from mid gone a b c same first (fetches_wider (q ∷ []) packages (only_one packages q among) j mid gone b c second)

-- a file was put
pub fetches_file : (p : Package) (k : ℕ) (from gone : Source) (old new : Seen) (at : List ℕ) → IsFileAt from.tree (p ∷ []) at → Works k old new → PublishedOne (PublishFile k 0 at) old new → Keeps from gone → Fetches (p ∷ []) k from gone old new
fetches_file p k from gone old new at file works published keeps = record {
  works = works;
  own = file_made from.tree (p ∷ []) k at old new file works.own (one_at_most (PublishFile k 0 at) old new published);
  registry = keeps;
}

-- what a put that was refused left, whatever the refusal
pub at_most : (source : Option Tree) (q : Path) (k : ℕ) (old new : Seen) (e : PutFault) → PutLeft source q k old new e → PutAtMost source q k old new
at_most source q k old new StoreFault h = h
at_most source q k old new Memory h = h
at_most source q k old new SourceFault h = inl h
at_most source q k old new (TooLarge n) h = inl h
at_most source q k old new (Clash at) h = inl h

-- a file was refused
pub fetches_refused : (p : Package) (k : ℕ) (q : Path) (from gone : Source) (old new : Seen) → IsPlaceOf (p ∷ []) q → Works k old new → PutAtMost from.tree q k old new → Keeps from gone → Fetches (p ∷ []) k from gone old new
fetches_refused p k q from gone old new place works published keeps = record { works = works; own = refused_made from.tree (p ∷ []) k q old new place works.own published; registry = keeps }

-- the listing was put behind the files, or refused
pub fetches_listing : GrewLaw → ClaimsLaw → (p : Package) (k j : ℕ) (from gone : Source) (a b c : Seen) (es : List Entry) → j ≡ k → Fetches (p ∷ []) k from gone a b → Works j b c → PublishedAtMost (PublishListing j 0 (sha512 (listing_text es))) b c
    → IsListingOf from.tree p es → Fetches (p ∷ []) k from gone a c
fetches_listing grew claims p k j from gone a b c es same first works published listing =
    let listed : IsListingOf gone.tree p es = subst (λ (r : Option Tree). IsListingOf r p es) (sym first.registry.tree) listing in
    fetches_next grew claims (p ∷ []) k j from gone gone a b c same first (record {
      works = works;
      own = listing_made gone.tree (p ∷ []) j (sha512 (listing_text es)) b c (p, here p [], (es, listed, refl)) works.own published;
      registry = keeps_same gone;
    })
