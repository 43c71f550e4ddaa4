-- The peers that a list has under names, and what their objects say.
use Rattle.std.proofs.Common.{◌≡◌, ℕ, List, [], ◌∷◌, refl, sym, ap, ◌∙◌, subst, Bool, true, false, Option, Some, None, map, ◌||◌}
use Rattle.std.specs.Prelude.{codes, if◌then◌else◌, option_map}
use Rattle.std.specs.Cmp.Lexicographic.{slice_cmp}
use Rattle.std.specs.List.{list_any}
use Rattle.std.specs.List.Sorted.{IsStrictlySortedBy}
use Rattle.std.specs.Ordering.{nat_cmp, match_ordering}
use Rattle.std.specs.Str.{bytes_eq}
use Rattle.std.specs.declared.cmp.Ordering.TheVariants.{Less, Equal, Greater}
use Rattle.std.proofs.lemmas.Slice.Eq.{bytes_eq-Decides}
use Rattle.serde_json.specs.Data.{Data, null, boolean, number, string, array, object, Members, no_members, member}
use Rattle.pn_manifest.specs.FlagMaps.{flag_field}
use Rattle.pn_manifest.specs.Laws.{has_flag_in, peer_by, peer_of, text_in, text_of}
use Rattle.pn_manifest.specs.Pairs.{Pair, names}
use Rattle.pn_manifest.specs.PeerLists.{any_peer, marked, peers_of, required, with_optional, with_optionals}
use Rattle.pn_manifest.specs.Said.{AreRising, Peer, peer_names}
use Rattle.pn_manifest.specs.TextMaps.{map_field, pair_with, pairs}
use Rattle.pn_manifest.specs.Values.{members_in}
use Rattle.pn_manifest.proofs.IsNextLemmas.{tied}
use Rattle.pn_manifest.proofs.OrderedLemmas.{AreMembersOrdered, IsAll, IsOrdered, keys, members_ordered}
use Rattle.pn_manifest.proofs.PeerLemmas.{IsBelow, further, required_names, rises_withs}
use Rattle.pn_manifest.proofs.TextOfLemmas.{same_bytes, texts_said}
use Rattle.pn_manifest.proofs.FlaggedLemmas.{flags_said}

abbrev marked_or : List ℕ → Option Peer → Peer
marked_or o None = any_peer o
marked_or o (Some p) = marked p

no_peer : (k : List ℕ) (ps : List Peer) → IsBelow k (peer_names ps) → peer_of k ps ≡ None
no_peer k [] h = refl
no_peer k (p ∷ ps) h = ap (λ b. if b then Some p else peer_of k ps) (same_bytes k p.name Less h.0) ∙ no_peer k ps h.1

-- which of two names is looked for
either : (x y z : Option Peer) (a b : Bool) → (a ≡ true → b ≡ true → ⊥) → (if a then x else (if b then y else z)) ≡ (if b then y else (if a then x else z))
either x y z true true h = absurd (h refl refl)
either x y z true false h = refl
either x y z false b h = refl

at_equal : (p : Peer) (k o : List ℕ) (ps : List Peer) → o ≡ p.name → bytes_eq o p.name ≡ true
    → (if bytes_eq k p.name then Some (marked p) else peer_of k ps) ≡ (if bytes_eq k o then Some (marked_or o (peer_of o (p ∷ ps))) else peer_of k (p ∷ ps))
at_equal p k o ps is same =
    pick (bytes_eq k p.name)
    ∙ ap (λ (x : Option Peer). if bytes_eq k p.name then Some (marked_or o x) else (if bytes_eq k p.name then Some p else peer_of k ps)) (sym (ap (λ b. if b then Some p else peer_of o ps) same))
    ∙ ap (λ (x : List ℕ). if bytes_eq k x then Some (marked_or o (peer_of o (p ∷ ps))) else peer_of k (p ∷ ps)) (sym is) where
      pick : (b : Bool) → (if b then Some (marked p) else peer_of k ps) ≡ (if b then Some (marked p) else (if b then Some p else peer_of k ps))
      pick true = refl
      pick false = refl

two_names : (k l o : List ℕ) → bytes_eq o l ≡ false → bytes_eq k l ≡ true → bytes_eq k o ≡ true → ⊥
two_names k l o apart h j =
    let on : k ≡ l = (bytes_eq-Decides k l).0 h in
    let at : k ≡ o = (bytes_eq-Decides k o).0 j in
    let is : bytes_eq k l ≡ false = subst (λ (x : List ℕ). bytes_eq x l ≡ false) (sym at) apart in
    cc (is, h)

with_under : (k o : List ℕ) (ps : List Peer) → AreRising (peer_names ps) → peer_of k (with_optional o ps) ≡ (if bytes_eq k o then Some (marked_or o (peer_of o ps)) else peer_of k ps)
unfolding IsStrictlySortedBy
with_under k o [] h = refl
with_under k o (p ∷ ps) h =
    elim (slice_cmp nat_cmp o p.name) as (λ c. slice_cmp nat_cmp o p.name ≡ c
    → peer_of k (match_ordering c (any_peer o ∷ p ∷ ps) (marked p ∷ ps) (p ∷ with_optional o ps)) ≡ (if bytes_eq k o then Some (marked_or o (peer_of o (p ∷ ps))) else peer_of k (p ∷ ps))) [
      | Less ↦ λ is. ap (λ (x : Option Peer). if bytes_eq k o then Some (marked_or o x) else peer_of k (p ∷ ps)) (sym (no_peer o (p ∷ ps) (is, further o p.name (peer_names ps) is h.0)))
      | Equal ↦ λ is. at_equal p k o ps (tied o p.name is) (same_bytes o p.name Equal is)
      | Greater ↦ λ is.
          let apart = same_bytes o p.name Greater is in
          ap (λ (x : Option Peer). if bytes_eq k p.name then Some p else x) (with_under k o ps h.1)
          ∙ either (Some p) (Some (marked_or o (peer_of o ps))) (peer_of k ps) (bytes_eq k p.name) (bytes_eq k o) (two_names k p.name o apart)
          ∙ ap (λ b. if bytes_eq k o then Some (marked_or o (if b then Some p else peer_of o ps)) else peer_of k (p ∷ ps)) (sym apart)
    ] refl

twice : (k : List ℕ) (x : Option Peer) → marked_or k (Some (marked_or k x)) ≡ marked_or k x
twice k None = refl
twice k (Some p) = refl

-- a name before others that may be there too
added : (k o : List ℕ) (a : Bool) (x : Option Peer) (b : Bool) (qs : Option Peer) (qo : Option Peer) → bytes_eq k o ≡ a → (a ≡ true → qo ≡ qs) → (a ≡ true → k ≡ o) → qs ≡ (if b then Some (marked_or k x) else x)
    → (if a then Some (marked_or o qo) else qs) ≡ (if a || b then Some (marked_or k x) else x)
added k o false x b qs qo is to same h = h
added k o true x true qs qo is to same h = ap (λ (y : Option Peer). Some (marked_or o y)) (to refl ∙ h) ∙ ap (λ (y : List ℕ). Some (marked_or y (Some (marked_or k x)))) (sym (same refl)) ∙ ap Some (twice k x)
added k o true x false qs qo is to same h = ap (λ (y : Option Peer). Some (marked_or o y)) (to refl ∙ h) ∙ ap (λ (y : List ℕ). Some (marked_or y x)) (sym (same refl))

withs_under : (k : List ℕ) (os : List (List ℕ)) (ps : List Peer) → AreRising (peer_names ps) → peer_of k (with_optionals os ps) ≡ (if list_any (bytes_eq k) os then Some (marked_or k (peer_of k ps)) else peer_of k ps)
withs_under k [] ps h = refl
withs_under k (o ∷ os) ps h =
    let qs = with_optionals os ps in
    let same : bytes_eq k o ≡ true → k ≡ o = λ e. (bytes_eq-Decides k o).0 e in
    with_under k o qs (rises_withs os ps h)
    ∙ added k o (bytes_eq k o) (peer_of k ps) (list_any (bytes_eq k) os) (peer_of k qs) (peer_of o qs) refl (λ e. ap (λ (x : List ℕ). peer_of x qs) (sym (same e))) same (withs_under k os ps h)

abbrev declared_peer : List ℕ → Option (List ℕ) → Option Peer
declared_peer k t = option_map (λ (x : List ℕ). required (k, x)) t

required_first : (k : List ℕ) (d : Pair) (ds : List Pair) (b : Bool) → bytes_eq k d.0 ≡ b → peer_of k (map required ds) ≡ declared_peer k (text_of k ds)
    → (if b then Some (required d) else peer_of k (map required ds)) ≡ declared_peer k (if b then Some d.1 else text_of k ds)
required_first k d ds true e h = ap (λ (x : List ℕ). Some (required (x, d.1))) (sym ((bytes_eq-Decides k d.0).0 e))
required_first k d ds false e h = h

required_under : (k : List ℕ) (ds : List Pair) → peer_of k (map required ds) ≡ declared_peer k (text_of k ds)
required_under k [] = refl
required_under k (d ∷ ds) = required_first k d ds (bytes_eq k d.0) refl (required_under k ds)

as_said : (k : List ℕ) (t : Option (List ℕ)) (b : Bool) → (if b then Some (marked_or k (declared_peer k t)) else declared_peer k t) ≡ peer_by k t b
as_said k None true = refl
as_said k None false = refl
as_said k (Some x) true = refl
as_said k (Some x) false = refl

below_pair : (j k : List ℕ) (e : Data) (rest : List Pair) → slice_cmp nat_cmp j k ≡ Less → IsBelow j (names rest) → IsBelow j (names (pair_with k e rest))
below_pair j k null rest h b = b
below_pair j k (boolean x) rest h b = b
below_pair j k (number n) rest h b = b
below_pair j k (string s) rest h b = (h, b)
below_pair j k (array ds) rest h b = b
below_pair j k (object ms) rest h b = b

below_pairs : (j : List ℕ) (ms : Members) → IsBelow j (keys ms) → IsBelow j (names (pairs ms))
below_pairs j no_members h = tt
below_pairs j (member k e ms) h = below_pair j k e (pairs ms) h.0 (below_pairs j ms h.1)

pair_rises : (k : List ℕ) (e : Data) (rest : List Pair) → IsBelow k (names rest) → AreRising (names rest) → AreRising (names (pair_with k e rest))
unfolding IsStrictlySortedBy
pair_rises k null rest b h = h
pair_rises k (boolean x) rest b h = h
pair_rises k (number n) rest b h = h
pair_rises k (string s) rest b h = (b, h)
pair_rises k (array ds) rest b h = h
pair_rises k (object ms) rest b h = h

pairs_rise : (ms : Members) → AreMembersOrdered ms → AreRising (names (pairs ms))
unfolding IsStrictlySortedBy
pairs_rise no_members h = tt
pairs_rise (member k e ms) h = pair_rises k e (pairs ms) (below_pairs k ms h.0) (pairs_rise ms h.1.1)

pub peers_said : (declared flags : Option Data) (k : List ℕ) → IsAll IsOrdered declared → IsAll IsOrdered flags
    → peer_of k (peers_of (map_field declared) (flag_field (codes "optional") flags)) ≡ peer_by k (text_in k declared) (has_flag_in (codes "optional") k flags)
peers_said declared flags k h j =
    let ds = map_field declared in
    let os = flag_field (codes "optional") flags in
    let rises = subst AreRising (sym (required_names ds)) (pairs_rise (members_in declared) (members_ordered declared h)) in
    withs_under k os (map required ds) rises
    ∙ ap (λ (x : Option Peer). if list_any (bytes_eq k) os then Some (marked_or k x) else x) (required_under k ds)
    ∙ as_said k (text_of k ds) (list_any (bytes_eq k) os)
    ∙ ap (λ (t : Option (List ℕ)). peer_by k t (list_any (bytes_eq k) os)) (texts_said declared k h)
    ∙ ap (peer_by k (text_in k declared)) (flags_said (codes "optional") flags k j)
