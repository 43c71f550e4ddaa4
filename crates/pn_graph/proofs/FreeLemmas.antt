-- Free names, by what is reached past them.
use Rattle.std.proofs.Common.{◌≡◌, ◌<◌, ◌≤◌, ℕ, ◌+◌, Bool, true, false, List, [], ◌∷◌, ◌++◌, length, take, get_or, Some, inl, inr, refl, sym, ap, ◌∙◌, subst, arith}
use Rattle.std.specs.Prelude.{slice_get, if◌then◌else◌, ◌||◌}
use Rattle.std.specs.List.{dedup}
use Rattle.std.specs.declared.cmp.Ordering.TheVariants.{Less}
use Rattle.std.specs.Str.{bytes_eq}
use Rattle.std.specs.List.Sorted.{IsSorted, IsStrictlySortedBy, IsPermutation}
use Rattle.std.proofs.lemmas.Slice.Eq.{bytes_eq-Decides}
use Rattle.std.proofs.lemmas.Map.Views.{Contains-from_any}
use Rattle.std.proofs.lemmas.Map.Text.{is_eq-slice_cmp}
use Rattle.std.proofs.lemmas.Map.Keys.{sorted_head, sorted_tail}
use Rattle.std.proofs.lemmas.Cmp.{nat_list_cmp_total, nat_list_eq_equiv}
use Rattle.std.proofs.lemmas.List.Kept.{AllPairs-cons, IsStrictlySortedBy-dedup, Contains-dedup}
use Rattle.std.proofs.lemmas.List.Sorted.{Contains-permutation}
use Rattle.std.specs.Bool.{Decides}
use Rattle.std.specs.List.{AllPairs, Contains, list_any}
use Rattle.std.specs.Cmp.Lexicographic.{slice_cmp}
use Rattle.std.specs.Ordering.{nat_cmp, is_lt}
use Rattle.std.proofs.Math.Seq.{take-length}
use Rattle.std.proofs.lemmas.List.{take_more, get_or-take, get_or_default, length-take-le}
use Rattle.std.proofs.lemmas.List.Elements.{All-from_recursion, All-weaker, Contains-push, Contains-push_cases, Contains-append_left, Contains-append_right, Contains-get_or}
use Rattle.std.proofs.lemmas.List.Folds.{list_any_at}
use Rattle.std.proofs.lemmas.List.Quantifiers.{all_pairs_push}
use Rattle.pn_text.proofs.Bools.{or_cases, or_true}
use Rattle.pn_text.proofs.Members.{none_in, in_cons, here, there}
use Rattle.pn_graph.specs.Graphs.{Dep, Package, aliases, has_name}
use Rattle.pn_graph.specs.Lookups.{package_deps}
use Rattle.pn_graph.specs.Reaches.{LeadsTo, Leads, Reaches, itself, through}
use Rattle.pn_graph.specs.Founds.{AreReached, IsMarked}
use Rattle.pn_graph.specs.FreeNames.{FreeLaw, IsFree, AreFree, Keeps, added, passed, own, below, passing, peers_at, is_peer_at}
use Rattle.pn_graph.proofs.PassLemmas.{passing_deps}
use Rattle.pn_graph.proofs.ReachLemmas.{onward, marked_within}

-- A dependency that is followed is one of a package without that alias.
record IsOpen (b : Bool) (deps : List Dep) (k : ℕ) : Type 0 where
  leads : LeadsTo deps k
  open_ : b ≡ false

open_leads : (b : Bool) (deps : List Dep) (k : ℕ) → LeadsTo (if b then [] else deps) k → IsOpen b deps k
open_leads true deps k l = absurd (none_in l.dep l.has)
open_leads false deps k l = record { leads = l; open_ = refl }

leads_open : (b : Bool) (deps : List Dep) (k : ℕ) → LeadsTo deps k → b ≡ false → LeadsTo (if b then [] else deps) k
leads_open true deps k l e = (cc)
leads_open false deps k l e = l

free_back : (packages : List Package) (n : List ℕ) (of k : ℕ) → Reaches (passing (Some n) packages) of k → IsFree packages n k → IsFree packages n of
free_back packages n of _ itself f = f
free_back packages n of _ (through i k r l) f =
    let deps = package_deps (slice_get packages i) in
    let o = open_leads (has_name n (aliases deps)) deps k (subst (λ (ds : List Dep). LeadsTo ds k) (passing_deps (Some n) packages i) l) in
    free_back packages n of i r (below i k o.leads o.open_ f)

least : (packages : List Package) (name : List ℕ) (set : ℕ → Bool) → ((k : ℕ) → has_name name (peers_at packages k) ≡ true → set k ≡ true)
    → ((i k : ℕ) → Leads packages i k → has_name name (aliases (package_deps (slice_get packages i))) ≡ false → set k ≡ true → set i ≡ true) → (of : ℕ) → IsFree packages name of → set of ≡ true
least packages name set owned passed_on _ (own k h) = owned k h
least packages name set owned passed_on _ (below i k l o f) = passed_on i k l o (least packages name set owned passed_on k f)

pub law : FreeLaw
law = record { least = least }

record IsProvided (packages : List Package) (n : List ℕ) (of : ℕ) : Type 0 where
  at : ℕ
  reached : Reaches (passing (Some n) packages) of at
  peer : is_peer_at packages n at ≡ true

provided : (packages : List Package) (n : List ℕ) (of : ℕ) → IsFree packages n of → IsProvided packages n of
provided packages n _ (own k h) = record { at = k; reached = itself; peer = h }
provided packages n _ (below i k l o f) =
    let p = provided packages n k f in
    let deps = package_deps (slice_get packages i) in
    let first = subst (λ (ds : List Dep). LeadsTo ds k) (sym (passing_deps (Some n) packages i)) (leads_open (has_name n (aliases deps)) deps k l o) in
    record { at = p.at; reached = onward (passing (Some n) packages) i k p.at (through i k itself first) p.reached; peer = p.peer }

record IsSome {X : Type 0} (p : X → Bool) (xs : List X) : Type 0 where
  item : X
  has : Contains xs item
  passes : p item ≡ true

some_passes : {X : Type 0} (p : X → Bool) (xs : List X) → list_any p xs ≡ true → IsSome p xs
some_passes p [] e = (cc)
some_passes p (x ∷ xs) e = elim (or_cases (p x) (list_any p xs) e) [
  | inl h ↦ record { item = x; has = here x xs; passes = h }
  | inr r ↦ (let s = some_passes p xs r in record { item = s.item; has = there x xs s.item s.has; passes = s.passes })
]

-- a list with a member that passes
pub any_has : {X : Type 0} (p : X → Bool) (xs : List X) (x : X) → p x ≡ true → Contains xs x → list_any p xs ≡ true
any_has p xs x h c = list_any_at p xs c.0 x c.1 (ap p c.2 ∙ h)

-- Whether a name is free is whether it is a peer of what is reached past it.
pub decides : (packages : List Package) (n : List ℕ) (of : ℕ) (order : List ℕ) → AreReached (passing (Some n) packages) of order → Decides (list_any (is_peer_at packages n) order) (IsFree packages n of)
decides packages n of order r = (
  (λ e. let s = some_passes (is_peer_at packages n) order e in free_back packages n of s.item (r.sound s.item s.has) (own s.item s.passes)),
  (λ f. let p = provided packages n of f in any_has (is_peer_at packages n) order p.at p.peer (r.complete p.at p.reached)),
)

all_reached : (packages : List Package) (n : List ℕ) (of k : ℕ) → Reaches (passing (Some n) packages) of k → Reaches packages of k
all_reached packages n of _ itself = itself
all_reached packages n of _ (through i k r l) =
    let deps = package_deps (slice_get packages i) in
    let o = open_leads (has_name n (aliases deps)) deps k (subst (λ (ds : List Dep). LeadsTo ds k) (passing_deps (Some n) packages i) l) in
    through i k (all_reached packages n of i r) o.leads

-- the peers of these packages are among the names
abbrev pub HasPeers : List Package → List ℕ → List (List ℕ) → Type 0
HasPeers packages order names = (k : ℕ) (n : List ℕ) → Contains order k → Contains (peers_at packages k) n → Contains names n

pub candidate : (packages : List Package) (of : ℕ) (order : List ℕ) (names : List (List ℕ)) → AreReached packages of order → HasPeers packages order names → (n : List ℕ) → IsFree packages n of → Contains names n
candidate packages of order names r has n f =
    let p = provided packages n of f in
    has p.at n (r.complete p.at (all_reached packages n of p.at p.reached)) (Contains-from_any (λ x y. (bytes_eq-Decides x y).0) n (peers_at packages p.at) p.peer)

abbrev pub Below : List ℕ → List ℕ → Type 0
Below a b = is_lt (slice_cmp nat_cmp a b) ≡ true

-- Of the first names exactly those that are free are kept.
pub record AreKept (packages : List Package) (of : ℕ) (front free : List (List ℕ)) : Type 0 where
  pub rises : AllPairs Below free
  pub among : (n : List ℕ) → Contains free n → Contains front n
  pub right : (n : List ℕ) → Contains free n → IsFree packages n of
  pub all : (n : List ℕ) → Contains front n → IsFree packages n of → Contains free n

pub none_kept : (packages : List Package) (of : ℕ) → AreKept packages of [] []
none_kept packages of = record {
  rises = λ i j d h w. absurd (omega arith);
  among = λ n c. c;
  right = λ n c. absurd (none_in n c);
  all = λ n c f. c;
}

lower : (a b n : ℕ) → a < b → b < n → a < n
lower a b n h w = omega arith

at_most : (a n : ℕ) → a < n → a ≤ n
at_most a n h = omega arith

earlier_below : (names : List (List ℕ)) (i : ℕ) (x y : List ℕ) → AllPairs Below names → i < length names → x ≡ get_or names i x → Contains (take i names) y → Below y x
earlier_below names i x y h within is c =
    let short : length (take i names) ≡ i = length-take-le i names (at_most i (length names) within) in
    let low : c.0 < i = subst (λ (n : ℕ). c.0 < n) short c.1 in
    let y_is : get_or names c.0 x ≡ y = get_or_default names c.0 x y (lower c.0 i (length names) low within) ∙ sym (get_or-take i names c.0 y low) ∙ c.2 in
    subst (λ (z : List ℕ). Below z x) y_is (subst (λ (z : List ℕ). Below (get_or names c.0 x) z) (sym is) (h c.0 i x low within))

one_kept : (packages : List Package) (of : ℕ) (names : List (List ℕ)) (i : ℕ) (x : List ℕ) (old new : List (List ℕ)) → AllPairs Below names → i < length names → x ≡ get_or names i x
    → AreKept packages of (take i names) old → Keeps packages of x old new → AreKept packages of (take i names ++ x ∷ []) new
one_kept packages of names i x old new rising within is k (added f e) =
    let front = take i names in
    subst (λ (l : List (List ℕ)). AreKept packages of (front ++ x ∷ []) l) (sym e) (record {
      rises = all_pairs_push Below old x k.rises (λ j d w. earlier_below names i x (get_or old j d) rising within is (k.among (get_or old j d) (Contains-get_or old j d w)));
      among = λ n c. elim (Contains-push_cases old x n c) [
        | inl o ↦ Contains-append_left front (x ∷ []) n (k.among n o)
        | inr s ↦ subst (λ (y : List ℕ). Contains (front ++ x ∷ []) y) s (Contains-push front x)
      ];
      right = λ n c. elim (Contains-push_cases old x n c) [ inl o ↦ k.right n o | inr s ↦ subst (λ (y : List ℕ). IsFree packages y of) s f ];
      all = λ n c g. elim (Contains-push_cases front x n c) [
        | inl o ↦ Contains-append_left old (x ∷ []) n (k.all n o g)
        | inr s ↦ subst (λ (y : List ℕ). Contains (old ++ x ∷ []) y) s (Contains-push old x)
      ];
    })
one_kept packages of names i x old new rising within is k (passed not e) =
    let front = take i names in
    subst (λ (l : List (List ℕ)). AreKept packages of (front ++ x ∷ []) l) (sym e) (record {
      rises = k.rises;
      among = λ n c. Contains-append_left front (x ∷ []) n (k.among n c);
      right = k.right;
      all = λ n c g. elim (Contains-push_cases front x n c) [
        | inl o ↦ k.all n o g
        | inr s ↦ absurd (not (subst (λ (y : List ℕ). IsFree packages y of) (sym s) g))
      ];
    })

-- one name more
pub more_kept : (packages : List Package) (of : ℕ) (names : List (List ℕ)) (i : ℕ) (x : List ℕ) (old new : List (List ℕ)) → AllPairs Below names → i < length names → x ≡ get_or names i x
    → AreKept packages of (take i names) old → Keeps packages of x old new → AreKept packages of (take (i + 1) names) new
more_kept packages of names i x old new rising within is k s =
    let next : take (i + 1) names ≡ take i names ++ x ∷ [] = take_more names i x within ∙ ap (λ (y : List ℕ). take i names ++ y ∷ []) (sym is) in
    subst (λ (l : List (List ℕ)). AreKept packages of l new) (sym next) (one_kept packages of names i x old new rising within is k s)

pub are_free : (packages : List Package) (of : ℕ) (names free : List (List ℕ)) → ((n : List ℕ) → IsFree packages n of → Contains names n) → AreKept packages of names free → AreFree packages of free
are_free packages of names free all k = record { rises = k.rises; free = k.right; all = λ n f. k.all n (all n f) f }

sorted_pairs : (names : List (List ℕ)) → IsStrictlySortedBy (slice_cmp nat_cmp) names → AllPairs Below names
sorted_pairs [] h = λ i j d a w. absurd (omega arith)
sorted_pairs (x ∷ xs) h =
    AllPairs-cons Below x xs
    (All-weaker (λ y. slice_cmp nat_cmp x y ≡ Less) (Below x) (λ y e. ap is_lt e) xs (All-from_recursion (λ y. slice_cmp nat_cmp x y ≡ Less) xs (sorted_head (slice_cmp nat_cmp) x xs h)))
    (sorted_pairs xs (sorted_tail (slice_cmp nat_cmp) x xs h))

-- what is sorted and has no name twice
pub rises_once : (names : List (List ℕ)) → IsSorted (slice_cmp nat_cmp) names → AllPairs Below (dedup bytes_eq names)
rises_once names h = sorted_pairs (dedup bytes_eq names) (IsStrictlySortedBy-dedup nat_list_cmp_total (λ x y. sym (is_eq-slice_cmp x y)) names h)

pub keeps_all : (old names : List (List ℕ)) → IsPermutation old names → (n : List ℕ) → Contains old n → Contains (dedup bytes_eq names) n
keeps_all old names p n c = Contains-dedup nat_list_eq_equiv (λ x y. (bytes_eq-Decides x y).0) names n (Contains-permutation old names n p c)

same_count : (i n : ℕ) → i ≤ n → n ≤ i → n ≡ i
same_count i n a b = omega arith

-- a loop's end
pub whole : {X : Type 0} (xs : List X) (i : ℕ) → i ≤ length xs → length xs ≤ i → take i xs ≡ xs
whole xs i a b = subst (λ (n : ℕ). take n xs ≡ xs) (same_count i (length xs) a b) (take-length xs)

-- what is met is there
pub all_within : (seen : List Bool) (order : List ℕ) (n : ℕ) → IsMarked seen order → length seen ≡ n → (k : ℕ) → Contains order k → k < n
all_within seen order n m e k c = subst (λ (j : ℕ). k < j) e (marked_within seen k (m.marked k c))

pub more_names : (packages : List Package) (order : List ℕ) (i : ℕ) (old new : List (List ℕ)) → i < length order → HasPeers packages (take i order) old → new ≡ old ++ peers_at packages (get_or order i 0) → HasPeers packages (take (i + 1) order) new
more_names packages order i old new within h is k n c p =
    let at = get_or order i 0 in
    elim (Contains-push_cases (take i order) at k (subst (λ (l : List ℕ). Contains l k) (take_more order i 0 within) c)) [
      | inl o ↦ subst (λ (l : List (List ℕ)). Contains l n) (sym is) (Contains-append_left old (peers_at packages at) n (h k n o p))
      | inr s ↦ subst (λ (l : List (List ℕ)). Contains l n) (sym is) (Contains-append_right old (peers_at packages at) n (subst (λ (j : ℕ). Contains (peers_at packages j) n) (sym s) p))
    ]
