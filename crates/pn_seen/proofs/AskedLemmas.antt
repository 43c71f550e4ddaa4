-- What is known of what a seen manifest asks for, and of its peers.
use Rattle.std.proofs.Common.{◌≡◌, ℕ, Bool, true, false, List, [], ◌∷◌, ◌++◌, refl, sym, ap, ◌∙◌, subst, map, inl, inr}
use Rattle.std.specs.Prelude.{◌⊎◌, not}
use Rattle.std.proofs.lemmas.List.{map-append}
use Rattle.std.specs.List.{Contains}
use Rattle.std.specs.List.Sorted.{IsStrictlySortedBy}
use Rattle.std.proofs.lemmas.List.Elements.{Contains-append_left, Contains-append_right}
use Rattle.pn_text.proofs.Bools.{and_right, not_true, true_false}
use Rattle.pn_text.proofs.Members.{none_in, from_map, to_map}
use Rattle.pn_manifest.specs.Pairs.{Pair, names}
use Rattle.pn_manifest.specs.declared.peers.Peer.{Peer}
use Rattle.pn_manifest.specs.Said.{Said, AreRising, peer_names, IsRisingSaid}
use Rattle.pn_walk.specs.declared.wish.Wish.{Wish}
use Rattle.pn_walk.proofs.FilterLemmas.{in_filter}
use Rattle.pn_plain.specs.Seen.{Owner, a_project, dependency_names, is_among, no_hook, no_rules, IsSeen, is_wanted, pair_of, counted, wish, put_wishes, wishes_of}
use Rattle.pn_plain.specs.SeenLaws.{IsIn, IsOwn, IsDependency, SeenWords, IsOnce}
use Rattle.pn_plain.specs.WishLaws.{aliases, IsWishOf, regular, dev, optional}
use Rattle.pn_plain.proofs.SeenLemmas.{seen_words}
use Rattle.pn_plain.proofs.WishLemmas.{wish_law, puts_rise, map_rises, alias_in, alias_is_in}
use Rattle.pn_seen.specs.AskedLaws.{AreSoundWishes, AreSoundPeers, AskedLaw}
use Rattle.pn_seen.proofs.CountedLemmas.{wanted, wanted_wishes}
use Rattle.pn_seen.proofs.LeftLemmas.{left_rises}
use Rattle.pn_seen.proofs.SearchLemmas.{any_of}
use Rattle.pn_seen.proofs.SortLemmas.{puts_append}

once : (owner : Owner) (m s : Said) → SeenWords owner m s → IsOnce s
once owner m s w = record {
  dependencies = λ n a b. ((w.dependencies n b.0).0 b.1).1 (a.0, ((w.optional n a.0).0 a.1).0);
  dev = λ n a b. ((w.dev n b.0).0 b.1).1 (a.0, ((w.optional n a.0).0 a.1).0);
  either = λ n a b. ((w.dev n b.0).0 b.1).2 (a.0, ((w.dependencies n a.0).0 a.1).0);
}

-- a seen manifest's dependencies have other names than the manifest, and are its dependencies
not_own : (owner : Owner) (m s : Said) (n : List ℕ) → SeenWords owner m s → IsOwn m n → IsIn s.optional n ⊎ (IsIn s.dependencies n ⊎ IsIn s.dev n) → ⊥
not_own owner m s n w own (inl a) = ((w.optional n a.0).0 a.1).1 own
not_own owner m s n w own (inr (inl b)) = ((w.dependencies n b.0).0 b.1).2 own
not_own owner m s n w own (inr (inr c)) = ((w.dev n c.0).0 c.1).3 own

was_dependency : (owner : Owner) (m s : Said) (n : List ℕ) → SeenWords owner m s → IsIn s.optional n ⊎ (IsIn s.dependencies n ⊎ IsIn s.dev n) → IsDependency owner m n
was_dependency owner m s n w (inl a) = inl (a.0, ((w.optional n a.0).0 a.1).0)
was_dependency owner m s n w (inr (inl b)) = inr (inl (b.0, ((w.dependencies n b.0).0 b.1).0))
was_dependency owner m s n w (inr (inr c)) = inr (inr (c.0, ((w.dev n c.0).0 c.1).0))

-- an alias is a dependency's name
in_a_map : (s : Said) (w : Wish) → IsWishOf s w → IsIn s.optional w.alias ⊎ (IsIn s.dependencies w.alias ⊎ IsIn s.dev w.alias)
in_a_map s w (regular e c i) = inr (inl (e.1, subst (λ (n : List ℕ). Contains s.dependencies (n, e.1)) (sym (ap (λ (x : Wish). x.alias) i)) c))
in_a_map s w (dev e c i) = inr (inr (e.1, subst (λ (n : List ℕ). Contains s.dev (n, e.1)) (sym (ap (λ (x : Wish). x.alias) i)) c))
in_a_map s w (optional e c i) = inl (e.1, subst (λ (n : List ℕ). Contains s.optional (n, e.1)) (sym (ap (λ (x : Wish). x.alias) i)) c)

asked_in : (s : Said) (n : List ℕ) → Contains (aliases (wishes_of s)) n → IsIn s.optional n ⊎ (IsIn s.dependencies n ⊎ IsIn s.dev n)
asked_in s n h =
    let r = from_map (λ (w : Wish). w.alias) (wishes_of s) n h in
    subst (λ (x : List ℕ). IsIn s.optional x ⊎ (IsIn s.dependencies x ⊎ IsIn s.dev x)) r.2 (in_a_map s r.0 (wish_law.sound s r.0 r.1))

pub sound_wishes : (owner : Owner) (m s : Said) → IsRisingSaid m → IsSeen no_hook no_rules owner m s → AreSoundWishes m (wishes_of s)
sound_wishes owner m s rises h =
    let w = seen_words owner m s h in
    record {
      rising = wish_law.rising s (wish_law.seen owner m s rises h) (once owner m s w);
      own = λ n own c. not_own owner m s n w own (asked_in s n c);
    }

pub sound_peers : (owner : Owner) (m s : Said) → IsRisingSaid m → IsSeen no_hook no_rules owner m s → AreSoundPeers m (wishes_of s) s.peers
sound_peers owner m s rises h =
    let w = seen_words owner m s h in
    let seen = wish_law.seen owner m s rises h in
    record {
      rising = seen.peers;
      own = λ n own c.
          let r = from_map (λ (p : Peer). p.name) s.peers n c in
          ((w.peers r.0).0 r.1).1 (subst (λ (x : List ℕ). IsOwn m x) (sym r.2) own);
      unasked = λ n c d.
          let r = from_map (λ (p : Peer). p.name) s.peers n c in
          ((w.peers r.0).0 r.1).2 (subst (λ (x : List ℕ). IsDependency owner m x) (sym r.2) (was_dependency owner m s n w (asked_in s n d)));
    }

aliases_are : (ps : List Peer) → names (map pair_of ps) ≡ peer_names ps
aliases_are [] = refl
aliases_are (p ∷ ps) = ap (λ (ns : List (List ℕ)). p.name ∷ ns) (aliases_are ps)

is_wanted_peer : (s : Said) (n : List ℕ) → Contains (aliases (wanted_wishes s)) n → (p : Peer) × Contains s.peers p × (is_wanted s p ≡ true) × (p.name ≡ n)
is_wanted_peer s n h =
    let c : Contains (peer_names (wanted s)) n = subst (λ (ns : List (List ℕ)). Contains ns n) (aliases_are (wanted s)) (to_names n h) in
    let r = from_map (λ (p : Peer). p.name) (wanted s) n c in
    let k = in_filter (is_wanted s) s.peers r.0 r.1 in
    (r.0, k.0, k.1, r.2)
  where
    to_names : (n : List ℕ) → Contains (aliases (wanted_wishes s)) n → Contains (names (map pair_of (wanted s))) n
    to_names n h = let i = alias_is_in false (map pair_of (wanted s)) n h in to_map (λ (e : Pair). e.0) (map pair_of (wanted s)) (n, i.0) i.1

in_dependency_names : (s : Said) (n : List ℕ) → IsIn s.optional n ⊎ (IsIn s.dependencies n ⊎ IsIn s.dev n) → Contains (dependency_names s) n
in_dependency_names s n (inl a) =
    Contains-append_right (names s.dependencies) (names s.dev ++ names s.optional) n (Contains-append_right (names s.dev) (names s.optional) n (to_map (λ (e : Pair). e.0) s.optional (n, a.0) a.1))
in_dependency_names s n (inr (inl b)) =
    Contains-append_left (names s.dependencies) (names s.dev ++ names s.optional) n (to_map (λ (e : Pair). e.0) s.dependencies (n, b.0) b.1)
in_dependency_names s n (inr (inr c)) =
    Contains-append_right (names s.dependencies) (names s.dev ++ names s.optional) n (Contains-append_left (names s.dev) (names s.optional) n (to_map (λ (e : Pair). e.0) s.dev (n, c.0) c.1))

-- a wanted peer is no dependency
not_both : (s : Said) (n : List ℕ) → Contains (aliases (wanted_wishes s)) n → IsIn s.optional n ⊎ (IsIn s.dependencies n ⊎ IsIn s.dev n) → ⊥
not_both s n h d =
    let p = is_wanted_peer s n h in
    let among : is_among (dependency_names s) p.0.name ≡ true = any_of p.0.name (dependency_names s) (subst (λ (x : List ℕ). Contains (dependency_names s) x) (sym p.3) (in_dependency_names s n d)) in
    true_false (is_among (dependency_names s) p.0.name) among
    (not_true (is_among (dependency_names s) p.0.name) (and_right (not p.0.optional) (not (is_among (dependency_names s) p.0.name)) p.2))

wanted_rise : (s : Said) → AreRising (peer_names s.peers) → AreRising (aliases (wanted_wishes s))
wanted_rise s h = map_rises false (map pair_of (wanted s)) (subst AreRising (sym (aliases_are (wanted s))) (left_rises (λ (p : Peer). p.name) (is_wanted s) s.peers h))

-- those of the dependencies alone, of the wanted peers, and of the others
abbrev others : Said → Said
others s = record s { dependencies = [] }

abbrev with_wanted : Said → List Wish
with_wanted s = put_wishes (map (wish false) s.dependencies) (put_wishes (wanted_wishes s) (wishes_of (others s)))

pub counted_wishes : (s : Said) → wishes_of (counted true s) ≡ with_wanted s
counted_wishes s =
    ap (λ (ws : List Wish). put_wishes ws (wishes_of (others s))) (map-append (wish false) s.dependencies (map pair_of (wanted s)))
    ∙ puts_append (map (wish false) s.dependencies) (wanted_wishes s) (wishes_of (others s))

others_rise : (s : Said) → IsRisingSaid s → IsRisingSaid (others s)
unfolding IsStrictlySortedBy
others_rise s h = record {
  dependencies = tt;
  dev = h.dev;
  optional = h.optional;
  peers = h.peers;
  scripts = h.scripts;
  bins = h.bins;
  injected = h.injected;
  overrides = h.overrides;
}

others_once : (s : Said) → IsOnce s → IsOnce (others s)
others_once s h = record {
  dependencies = λ n a b. none_in (n, b.0) b.1;
  dev = h.dev;
  either = λ n a b. none_in (n, a.0) a.1;
}

other_in : (s : Said) (n : List ℕ) → Contains (aliases (wishes_of (others s))) n → IsIn s.optional n ⊎ IsIn s.dev n
other_in s n h = elim (asked_in (others s) n h) [
  | inl a ↦ inl a
  | inr b ↦ elim b [ inl c ↦ absurd (none_in (n, c.0) c.1) | inr d ↦ inr d ]
]

with_wanted_rise : (s : Said) → IsRisingSaid s → IsOnce s → AreRising (aliases (with_wanted s))
with_wanted_rise s h k =
    let rest = wishes_of (others s) in
    let rest_rises : AreRising (aliases rest) = wish_law.rising (others s) (others_rise s h) (others_once s k) in
    let inner : AreRising (aliases (put_wishes (wanted_wishes s) rest)) = puts_rise (wanted_wishes s) rest (wanted_rise s h.peers) rest_rises
    (λ n c d. elim (other_in s n d) [ inl a ↦ not_both s n c (inl a) | inr b ↦ not_both s n c (inr (inr b)) ]) in
    puts_rise (map (wish false) s.dependencies) (put_wishes (wanted_wishes s) rest) (map_rises false s.dependencies h.dependencies) inner
    (λ n c d.
    let e : IsIn s.dependencies n = alias_is_in false s.dependencies n c in
    elim (alias_in (wanted_wishes s) rest n d) [
      | inl a ↦ not_both s n a (inr (inl e))
      | inr b ↦ elim (other_in s n b) [ inl f ↦ k.dependencies n f e | inr g ↦ k.either n e g ]
    ])

with_wanted_own : (m s : Said) (n : List ℕ) → SeenWords a_project m s → IsOwn m n → Contains (aliases (with_wanted s)) n → ⊥
with_wanted_own m s n w own h =
    let rest = wishes_of (others s) in
    elim (alias_in (map (wish false) s.dependencies) (put_wishes (wanted_wishes s) rest) n h) [
      | inl a ↦ not_own a_project m s n w own (inr (inl (alias_is_in false s.dependencies n a)))
      | inr b ↦ elim (alias_in (wanted_wishes s) rest n b) [
        | inl c ↦ (let p = is_wanted_peer s n c in ((w.peers p.0).0 p.1).1 (subst (λ (x : List ℕ). IsOwn m x) (sym p.3) own))
        | inr d ↦ elim (other_in s n d) [ inl e ↦ not_own a_project m s n w own (inl e) | inr f ↦ not_own a_project m s n w own (inr (inr f)) ]
      ]
    ]

pub sound_project_wishes : (auto_peers : Bool) (m s : Said) → IsRisingSaid m → IsSeen no_hook no_rules a_project m s → AreSoundWishes m (wishes_of (counted auto_peers s))
sound_project_wishes false m s rises h = sound_wishes a_project m s rises h
sound_project_wishes true m s rises h =
    let w = seen_words a_project m s h in
    let risen = wish_law.seen a_project m s rises h in
    subst (λ (ws : List Wish). AreSoundWishes m ws) (sym (counted_wishes s)) (record {
      rising = with_wanted_rise s risen (once a_project m s w);
      own = λ n own c. with_wanted_own m s n w own c;
    })

pub asked_law : AskedLaw
asked_law = record { wishes = sound_wishes; peers = sound_peers; project = sound_project_wishes }
