-- The peers that packages pass on.
use Rattle.std.proofs.Common.{◌≡◌, ◌<◌, ◌+◌, ℕ, zero, suc, Bool, true, false, not, cond, List, [], ◌∷◌, ◌++◌, length, get_or, inl, inr, refl, sym, ap, ◌∙◌, subst, arith}
use Rattle.std.specs.Prelude.{◌⊎◌, slice_get}
use Rattle.std.specs.Cmp.Lexicographic.{slice_cmp}
use Rattle.std.specs.List.{Contains, filter, list_any}
use Rattle.std.specs.List.Sorted.{IsStrictlySortedBy}
use Rattle.std.specs.Ordering.{nat_cmp}
use Rattle.std.proofs.lemmas.List.Kept.{IsStrictlySortedBy-filter}
use Rattle.std.proofs.Math.ListN.{get_or-append}
use Rattle.std.proofs.Math.Seq.{get_or-append_seam}
use Rattle.pn_text.proofs.Bools.{left_false, right_false}
use Rattle.pn_text.proofs.Members.{here, in_cons, none_in, there}
use Rattle.pn_lock.specs.Kept.{Rises}
use Rattle.pn_graph.specs.declared.links.Package.{Package}
use Rattle.pn_graph.specs.declared.peer.Peer.{Peer}
use Rattle.pn_graph.specs.Graphs.{has_name, peer_names}
use Rattle.pn_graph.specs.Lookups.{package_peers}
use Rattle.pn_graph.specs.FreeNames.{AreFree, IsFree, own, below, peers_at}
use Rattle.pn_lock_make.specs.PassedOn.{ArePassed, has_peers, some_peer}
use Rattle.pn_lock_make.proofs.OrderLemmas.{rises_pairs}

-- ---- a graph without peers

none_named : (peers : List Peer) (n : List ℕ) → some_peer peers ≡ false → has_name n (peer_names peers) ≡ false
none_named [] n h = refl
none_named (r ∷ rs) n h = absurd (cc h)

none_at : (packages : List Package) (k : ℕ) (n : List ℕ) → list_any has_peers packages ≡ false → has_name n (peers_at packages k) ≡ false
none_at [] k n h = refl
none_at (p ∷ ps) zero n h = none_named p.peers n (left_false (has_peers p) (list_any has_peers ps) h)
none_at (p ∷ ps) (suc k) n h = none_at ps k n (right_false (has_peers p) (list_any has_peers ps) h)

none_free : (packages : List Package) (n : List ℕ) → list_any has_peers packages ≡ false → (of : ℕ) → IsFree packages n of → ⊥
none_free packages n h _ (own k e) = let no : false ≡ true = sym (none_at packages k n h) ∙ e in cc no
none_free packages n h _ (below i k l o f) = none_free packages n h k f

nothing_rises : Rises []
unfolding IsStrictlySortedBy
nothing_rises = tt

pub nothing_passed : (packages : List Package) (of : ℕ) → list_any has_peers packages ≡ false → ArePassed packages of []
nothing_passed packages of h = record {
  rises = nothing_rises;
  free = λ n c. absurd (none_in n c);
  other = λ n c. absurd (none_in n c);
  all = λ n f o. absurd (none_free packages n h of f);
}

-- ---- free names without a package's own peers

test_free : (p : List ℕ → Bool) (xs : List (List ℕ)) (n : List ℕ) → Contains (filter p xs) n → Contains xs n × (p n ≡ true)
test_free p [] n c = absurd (none_in n c)
test_free p (x ∷ xs) n c = elim (p x) as (λ o. p x ≡ o → Contains (cond o (x ∷ filter p xs) (filter p xs)) n → Contains (x ∷ xs) n × (p n ≡ true)) [
  | true ↦ λ e d. elim (in_cons x (filter p xs) n d) [
    | inl is ↦ subst (λ (y : List ℕ). Contains (x ∷ xs) y × (p y ≡ true)) is (here x xs, e)
    | inr rest ↦ let r = test_free p xs n rest in (there x xs n r.0, r.1)
  ]
  | false ↦ λ e d. let r = test_free p xs n d in (there x xs n r.0, r.1)
] refl c

free_test : (p : List ℕ → Bool) (xs : List (List ℕ)) (n : List ℕ) → Contains xs n → p n ≡ true → Contains (filter p xs) n
free_test p [] n c e = absurd (none_in n c)
free_test p (x ∷ xs) n c e = elim (p x) as (λ o. p x ≡ o → Contains (cond o (x ∷ filter p xs) (filter p xs)) n) [
  | true ↦ λ is. elim (in_cons x xs n c) [
    | inl same ↦ subst (λ (y : List ℕ). Contains (x ∷ filter p xs) y) same (here x (filter p xs))
    | inr rest ↦ there x (filter p xs) n (free_test p xs n rest e)
  ]
  | false ↦ λ is. elim (in_cons x xs n c) [
    | inl same ↦ let no : false ≡ true = sym is ∙ ap p same ∙ e in absurd (cc no)
    | inr rest ↦ free_test p xs n rest e
  ]
] refl

negated : (b : Bool) → not b ≡ true → b ≡ false
negated true h = absurd (cc h)
negated false h = refl

pub others_passed : (packages : List Package) (of : ℕ) (peers : List Peer) (free names : List (List ℕ)) → peers ≡ package_peers (slice_get packages of) → AreFree packages of free
    → names ≡ filter (λ (n : List ℕ). not (has_name n (peer_names peers))) free → ArePassed packages of names
others_passed packages of peers free names mine f is =
    let p = λ (n : List ℕ). not (has_name n (peers_at packages of)) in
    let made : names ≡ filter p free = is ∙ ap (λ (rs : List Peer). filter (λ (n : List ℕ). not (has_name n (peer_names rs))) free) mine in
    subst (ArePassed packages of) (sym made) (record {
      rises = IsStrictlySortedBy-filter (slice_cmp nat_cmp) p free (rises_pairs free f.rises);
      free = λ n c. f.free n (test_free p free n c).0;
      other = λ n c. negated (has_name n (peers_at packages of)) (test_free p free n c).1;
      all = λ n g o. free_test p free n (f.all n g) (ap not o);
    })

-- ---- one more package

pub below_next : (k n : ℕ) → k < n + 1 → (k < n) ⊎ (k ≡ n)
below_next k zero low = inr (omega arith)
below_next zero (suc n) low = inl (omega arith)
below_next (suc k) (suc n) low = elim (below_next k n (omega arith)) [ inl a ↦ inl (omega arith) | inr e ↦ inr (ap suc e) ]

pub passed_more : (packages : List Package) (all new : List (List (List ℕ))) (n : ℕ) (one : List (List ℕ)) → length all ≡ n → new ≡ all ++ one ∷ []
    → ((k : ℕ) → k < n → ArePassed packages k (get_or all k [])) → ArePassed packages n one → (k : ℕ) → k < n + 1 → ArePassed packages k (get_or new k [])
passed_more packages all new n one count is each last k low =
    subst (λ (l : List (List (List ℕ))). ArePassed packages k (get_or l k [])) (sym is) (by_place (below_next k n low)) where
      by_place : (k < n) ⊎ (k ≡ n) → ArePassed packages k (get_or (all ++ one ∷ []) k [])
      by_place (inl less) =
          let within : k < length all = omega (arith, less, count) in
          subst (ArePassed packages k) (sym (get_or-append all (one ∷ []) [] k within)) (each k less)
      by_place (inr same) =
          let at : get_or (all ++ one ∷ []) k [] ≡ one = ap (λ (j : ℕ). get_or (all ++ one ∷ []) j []) (same ∙ sym count) ∙ get_or-append_seam all one [] [] in
          subst (ArePassed packages k) (sym at) (subst (λ (j : ℕ). ArePassed packages j one) (sym same) last)
