-- Lemmas on why packages weren't put.
use Rattle.std.proofs.Common.{◌≡◌, ◌≢◌, ◌<◌, ◌≤◌, ◌⊎◌, inl, inr, ℕ, List, [], ◌∷◌, ◌++◌, refl, sym, ap, ◌∙◌, subst, arith, Some, append_assoc}
use Rattle.std.specs.Prelude.{Option, IfSome}
use Rattle.std.specs.List.{All, AllByRecursion, Contains}
use Rattle.std.proofs.lemmas.List.Elements.{All-append, All-nil, All-push, All-weaker, Contains-append_right, recursion_from_All}
use Rattle.sha2.specs.Sha512.{sha512}
use Rattle.pn_text.specs.declared.limits.TheConstants.{FILE_LIMIT}
use Rattle.pn_text.proofs.Firsts.{first_behind, first_here}
use Rattle.pn_text.proofs.Members.{here}
use Rattle.pn_text.proofs.Results.{for_some, if_some}
use Rattle.pn_text.specs.Path.{Path}
use Rattle.pn_fs.specs.Tree.{Tree, file}
use Rattle.pn_fs.specs.Seen.{Seen as Source, Keeps}
use Rattle.pn_storecore.specs.declared.step.Place.TheVariants.{Files}
use Rattle.pn_storecore.specs.Seen.{Seen}
use Rattle.pn_storecore.specs.Grew.{Grew, Was}
use Rattle.pn_storecore.specs.CallLaws.{GrewLaw, WasLaw}
use Rattle.pn_store.specs.Claims.{ClaimRefused}
use Rattle.pn_store.specs.Faults.{Clashes, IsLong, PutRefused, StoreRefuses}
use Rattle.pn_store.specs.Puts.{IsMet, IsPut, IsSource}
use Rattle.pn_store.specs.declared.files.Put.{Put}
use Rattle.pn_store.specs.Reads.{ReadRefused}
use Rattle.pn_store.specs.declared.fault.ClaimFault.{ClaimFault}
use Rattle.pn_store.specs.declared.fault.ClaimFault.TheVariants as claim
use Rattle.pn_store.specs.declared.fault.PutFault.{PutFault}
use Rattle.pn_store.specs.declared.fault.PutFault.TheVariants as put
use Rattle.pn_store.specs.declared.fault.ReadFault.{ReadFault}
use Rattle.pn_store.specs.declared.fault.ReadFault.TheVariants as read
use Rattle.pn_store.proofs.MetLemmas.{met_between, stood_before, stood_behind}
use Rattle.pn_package.specs.declared.packages.Package.{Package}
use Rattle.pn_fetch.specs.Faults.{FileRefuses, IsFirstRefused, PlacesRefused, PutsRefused, FetchRefused, StoreRefused, claim_fault, put_fault, release_fault}
use Rattle.pn_fetch.specs.Puts.{WasPut, places}
use Rattle.pn_fetch.specs.Steps.{IsPlaceOf}
use Rattle.pn_fetch.specs.declared.fault.FetchFault.{FetchFault}
use Rattle.pn_fetch.specs.declared.fault.FetchFault.TheVariants.{StoreFault, RegistryFault, NumbersFull, TooLarge, Clash, Memory}
use Rattle.pn_fetch.proofs.PlacesLemmas.{place_among}

clash_between : WasLaw → (q : Path) (at : List ℕ) (from mid : Source) (a b c d : Seen) → Keeps from mid → Grew a b → Grew c d → Clashes mid q at b c → Clashes from q at a d
clash_between law q at from mid a b c d keeps first last h = record {
  stored = h.stored;
  own = h.own;
  first = h.first;
  second = h.second;
  source = subst (λ (s : Option Tree). IfSome s (λ r. (r q ≡ Some (file h.own)) × (h.stored ≢ h.own))) keeps.tree h.source;
  stood = stood_behind law a c d Files at h.stored (stood_before law a b c Files at h.stored first h.stood) last;
}

each_rec : {X : Type 0} (P Q : X → Type 0) → ((x : X) → P x → Q x) → (xs : List X) → AllByRecursion P xs → AllByRecursion Q xs
each_rec P Q f [] h = tt
each_rec P Q f (x ∷ xs) h = (f x h.0, each_rec P Q f xs h.1)

-- the file that was put was put between steps around
pub was_between : WasLaw → (from mid : Option Tree) (a b c d : Seen) → mid ≡ from → Grew a b → Grew c d → (q : Path) → WasPut mid b c q → WasPut from a d q
was_between law from mid a b c d told first last q h = record {
  bytes = h.bytes;
  short = h.short;
  from = subst (λ s. IsSource s q h.bytes) told h.from;
  met = met_between law from mid q (sha512 h.bytes) a b c d told first last h.met;
  was = law.behind a c d Files (sha512 h.bytes) (Some h.bytes) (law.before a b c Files (sha512 h.bytes) (Some h.bytes) first h.was) last;
}

-- a put tells so
pub was_put : GrewLaw → WasLaw → (r : Option Tree) (q : Path) (old new : Seen) (put : Put) → IsPut r q old new put → WasPut r old new q
was_put grew law r q old new put h = record {
  bytes = h.bytes;
  short = h.short;
  from = h.from;
  met = subst (λ (at : List ℕ). IsMet r q at old new) h.digest (met_between law r r q put.digest old old h.met.mid new refl (grew.none old) h.met.later h.met.met);
  was = subst (λ (at : List ℕ). Was Files at (Some h.bytes) old new) h.digest h.was;
}

refuses_between : WasLaw → (from mid : Source) (a b c d : Seen) → Keeps from mid → Grew a b → Grew c d → (q : Path) (e : FetchFault) → FileRefuses mid b c q e → FileRefuses from a d q e
refuses_between law from mid a b c d keeps first last q StoreFault h = absurd h
refuses_between law from mid a b c d keeps first last q RegistryFault h = absurd h
refuses_between law from mid a b c d keeps first last q NumbersFull h = absurd h
refuses_between law from mid a b c d keeps first last q (TooLarge n) h = (h.0, subst (λ s. IfSome s (λ t. IsLong (t q) n)) keeps.tree h.1)
refuses_between law from mid a b c d keeps first last q (Clash at) h = clash_between law q at from mid a b c d keeps first last h
refuses_between law from mid a b c d keeps first last q Memory h = absurd h

first_between : WasLaw → (all : List Path) (from mid : Source) (a b c d : Seen) (e : FetchFault) → Keeps from mid → Grew a b → Grew c d → IsFirstRefused all mid b c e → IsFirstRefused all from a d e
first_between law all from mid a b c d e keeps first last h = record {
  before = h.before;
  at = h.at;
  after = h.after;
  cut = h.cut;
  passed = each_rec (WasPut mid.tree b c) (WasPut from.tree a d) (was_between law from.tree mid.tree a b c d keeps.tree first last) h.before h.passed;
  failed = refuses_between law from mid a b c d keeps first last h.at e h.failed;
}

-- a refusal of calls is one of calls around them
pub refused_between : WasLaw → (all : List Path) (from mid gone : Source) (a b c d : Seen) (e : FetchFault) → Keeps from mid → Grew a b → a.faults ≤ b.faults → Grew c d → c.faults ≤ d.faults → PlacesRefused all mid gone b c e → PlacesRefused all from gone a d e
refused_between law all from mid gone a b c d StoreFault keeps first before last after h = omega (arith, before, after, h)
refused_between law all from mid gone a b c d RegistryFault keeps first before last after h = omega (arith, keeps.later, h)
refused_between law all from mid gone a b c d NumbersFull keeps first before last after h = absurd h
refused_between law all from mid gone a b c d (TooLarge n) keeps first before last after h = first_between law all from mid a b c d (TooLarge n) keeps first last h
refused_between law all from mid gone a b c d (Clash at) keeps first before last after h = first_between law all from mid a b c d (Clash at) keeps first last h
refused_between law all from mid gone a b c d Memory keeps first before last after h = tt

first_more : (some back : List Path) (from : Source) (old new : Seen) (e : FetchFault) → IsFirstRefused some from old new e → IsFirstRefused (some ++ back) from old new e
first_more some back from old new e h = record {
  before = h.before;
  at = h.at;
  after = h.after ++ back;
  cut = ap (λ l. l ++ back) h.cut ∙ append_assoc h.before (h.at ∷ h.after) back;
  passed = h.passed;
  failed = h.failed;
}

first_among : (all front some back : List Path) (from : Source) (old new : Seen) (e : FetchFault) → all ≡ front ++ (some ++ back) → All (WasPut from.tree old new) front → IsFirstRefused some from old new e → IsFirstRefused all from old new e
first_among all front some back from old new e is put h =
    subst (λ (l : List Path). IsFirstRefused l from old new e) (sym is)
    (first_behind (WasPut from.tree old new) (FileRefuses from old new) front (some ++ back) e (recursion_from_All (WasPut from.tree old new) front put) (first_more some back from old new e h))

-- a refusal of some files is one of all, where those before were put
pub refused_among : (all front some back : List Path) (from gone : Source) (old new : Seen) (e : FetchFault) → all ≡ front ++ (some ++ back) → All (WasPut from.tree old new) front → PlacesRefused some from gone old new e → PlacesRefused all from gone old new e
refused_among all front some back from gone old new StoreFault is put h = h
refused_among all front some back from gone old new RegistryFault is put h = h
refused_among all front some back from gone old new NumbersFull is put h = absurd h
refused_among all front some back from gone old new (TooLarge n) is put h = first_among all front some back from old new (TooLarge n) is put h
refused_among all front some back from gone old new (Clash at) is put h = first_among all front some back from old new (Clash at) is put h
refused_among all front some back from gone old new Memory is put h = tt

pub All-one : {X : Type 0} (P : X → Type 0) (x : X) → P x → All P (x ∷ [])
All-one P x h = All-push P [] x (All-nil P) h

-- files that were put were put also at later steps, and others behind them
pub all_were : GrewLaw → WasLaw → (r : Option Tree) (a b c : Seen) (all : List Path) → Grew b c → All (WasPut r a b) all → All (WasPut r a c) all
all_were grew was r a b c all last h = All-weaker (WasPut r a b) (WasPut r a c) (was_between was r r a a b c refl (grew.none a) last) all h

pub all_were_behind : GrewLaw → WasLaw → (r : Option Tree) (a b c : Seen) (all : List Path) → Grew a b → All (WasPut r b c) all → All (WasPut r a c) all
all_were_behind grew was r a b c all first h = All-weaker (WasPut r b c) (WasPut r a c) (was_between was r r a b c c refl first (grew.none c)) all h

pub all_were_then : GrewLaw → WasLaw → (r mid : Option Tree) (a b c : Seen) (front some more : List Path) → mid ≡ r → Grew a b → Grew b c → more ≡ front ++ some → All (WasPut r a b) front → All (WasPut mid b c) some → All (WasPut r a c) more
all_were_then grew was r mid a b c front some more told first last is h k =
    subst (λ (l : List Path). All (WasPut r a c) l) (sym is)
    (All-append (WasPut r a c) front some (all_were grew was r a b c front last h) (All-weaker (WasPut mid b c) (WasPut r a c) (was_between was r mid a b c c told first (grew.none c)) some k))

-- a file that wasn't put
pub refused_file : (q : Path) (from gone : Source) (old new : Seen) (e : PutFault) → PutRefused q from gone old new e → PlacesRefused (q ∷ []) from gone old new (put_fault e)
refused_file q from gone old new put.StoreFault h = h
refused_file q from gone old new put.SourceFault h = h
refused_file q from gone old new (put.TooLarge n) h = first_here (WasPut from.tree old new) (FileRefuses from old new) q [] (TooLarge n) h
refused_file q from gone old new (put.Clash at) h = first_here (WasPut from.tree old new) (FileRefuses from old new) q [] (Clash at) h
refused_file q from gone old new put.Memory h = tt

-- the file that is refused is one of the packages'
refused_place : (packages : List Package) (from : Source) (old new : Seen) (e : FetchFault) → IsFirstRefused (places packages) from old new e → (q : Path) × IsPlaceOf packages q × FileRefuses from old new q e
refused_place packages from old new e h =
    (h.at, place_among packages h.at (subst (λ (l : List Path). Contains l h.at) (sym h.cut) (Contains-append_right h.before (h.at ∷ h.after) h.at (here h.at h.after))), h.failed)

pub large_place : (packages : List Package) (from : Source) (old new : Seen) (n : ℕ) → IsFirstRefused (places packages) from old new (TooLarge n) → (FILE_LIMIT < n) × IfSome from.tree (λ t. (q : Path) × IsPlaceOf packages q × IsLong (t q) n)
large_place packages from old new n h =
    let one = refused_place packages from old new (TooLarge n) h in
    (one.2.0, if_some (λ t. (q : Path) × IsPlaceOf packages q × IsLong (t q) n) from.tree (λ t told. (one.0, one.1, for_some (λ t. IsLong (t one.0) n) from.tree one.2.1 t told)))

pub clash_place : (packages : List Package) (from : Source) (old new : Seen) (at : List ℕ) → IsFirstRefused (places packages) from old new (Clash at) → (q : Path) × IsPlaceOf packages q × Clashes from q at old new
clash_place packages from old new at h = refused_place packages from old new (Clash at) h

pub refused_listing : (old new : Seen) (e : PutFault) → StoreRefuses old new e → StoreRefused old new (put_fault e)
refused_listing old new put.StoreFault h = h
refused_listing old new put.SourceFault h = absurd h
refused_listing old new (put.TooLarge n) h = absurd h
refused_listing old new (put.Clash at) h = absurd h
refused_listing old new put.Memory h = tt

pub refused_release : (old new : Seen) (e : ReadFault) → ReadRefused old new e → StoreRefused old new (release_fault e)
refused_release old new read.Fault h = h
refused_release old new (read.Damaged asked found) h = absurd h
refused_release old new read.Memory h = tt

-- a call of the store that failed
pub refused_store : (all : List Path) (from gone : Source) (old new : Seen) (e : FetchFault) → StoreRefused old new e → PlacesRefused all from gone old new e
refused_store all from gone old new StoreFault h = h
refused_store all from gone old new RegistryFault h = absurd h
refused_store all from gone old new NumbersFull h = absurd h
refused_store all from gone old new (TooLarge n) h = absurd h
refused_store all from gone old new (Clash at) h = absurd h
refused_store all from gone old new Memory h = tt

-- want of memory refuses
pub refused_memory : (all : List Path) (from gone : Source) (old new : Seen) (e : FetchFault) → e ≡ Memory → PlacesRefused all from gone old new e
refused_memory all from gone old new e is = subst (PlacesRefused all from gone old new) (sym is) tt

-- the refusal, or want of memory in its place
pub refused_either : (all : List Path) (from gone : Source) (old new : Seen) (e f : FetchFault) → (f ≡ e) ⊎ (f ≡ Memory) → PlacesRefused all from gone old new e → PlacesRefused all from gone old new f
refused_either all from gone old new e f which h = elim which [
  | inl same ↦ subst (PlacesRefused all from gone old new) (sym same) h
  | inr none ↦ refused_memory all from gone old new f none
]

pub refused_fetch : (ps : List Package) (from gone : Source) (old new : Seen) (e : FetchFault) → PutsRefused ps from gone old new e → FetchRefused ps from gone old new e
refused_fetch ps from gone old new StoreFault h = h
refused_fetch ps from gone old new RegistryFault h = h
refused_fetch ps from gone old new NumbersFull h = absurd h
refused_fetch ps from gone old new (TooLarge n) h = h
refused_fetch ps from gone old new (Clash at) h = h
refused_fetch ps from gone old new Memory h = h

-- no number was claimed
pub refused_claim : (ps : List Package) (from gone : Source) (old new : Seen) (e : ClaimFault) → ClaimRefused old new e → FetchRefused ps from gone old new (claim_fault e)
refused_claim ps from gone old new claim.Fault h = h
refused_claim ps from gone old new claim.NumbersFull h = h
refused_claim ps from gone old new claim.Memory h = tt
