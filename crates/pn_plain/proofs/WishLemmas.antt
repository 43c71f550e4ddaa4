-- What a seen manifest asks for.
use Rattle.std.proofs.Common.{◌≡◌, ℕ, Bool, true, false, List, [], ◌∷◌, ◌++◌, refl, sym, ap, subst, map, inl, inr, if◌then◌else◌}
use Rattle.std.specs.Prelude.{◌⊎◌, cond, not, filter}
use Rattle.std.specs.Cmp.Lexicographic.{slice_cmp}
use Rattle.std.specs.List.{Contains, AllByRecursion}
use Rattle.std.specs.List.Sorted.{IsStrictlySortedBy}
use Rattle.std.specs.Ordering.{nat_cmp, is_lt, ordering_reverse}
use Rattle.std.specs.declared.cmp.Ordering.{Ordering}
use Rattle.std.specs.declared.cmp.Ordering.TheVariants.{Less, Equal, Greater}
use Rattle.std.proofs.lemmas.Cmp.{nat_list_cmp_total}
use Rattle.std.proofs.lemmas.List.Elements.{All-contains, All-weaker, recursion_from_All}
use Rattle.std.proofs.lemmas.List.Kept.{IsStrictlySortedBy-filter}
use Rattle.std.proofs.lemmas.Map.Lookups.{exact_bytes}
use Rattle.std.proofs.lemmas.Map.Views.{All-after_first}
use Rattle.pn_text.proofs.Members.{none_in, in_cons, here, there, from_map, to_map}
use Rattle.pn_text.proofs.Orders.{is_less, not_before_self}
use Rattle.pn_manifest.specs.declared.peers.Peer.{Peer}
use Rattle.pn_walk.specs.declared.wish.Wish.{Wish}
use Rattle.pn_manifest.specs.Pairs.{Pair, names}
use Rattle.pn_manifest.specs.Said.{Said, AreRising, peer_names, IsRisingSaid}
use Rattle.pn_plain.specs.Seen.{Owner, a_project, a_package, is_among, but, peers_but, own_names, dev_of, one_map, dependency_names, dropped, no_hook, no_rules, IsSeen, wish, put_wish, put_wishes, wishes_of}
use Rattle.pn_plain.specs.SeenLaws.{IsIn, IsOnce}
use Rattle.pn_plain.specs.WishLaws.{aliases, IsWishOf, regular, dev, optional, WishLaw}
use Rattle.pn_plain.proofs.SeenLemmas.{in_names}

-- what is put in, and what was there
from_put : (w : Wish) (ws : List Wish) (x : Wish) → Contains (put_wish w ws) x → (w ≡ x) ⊎ Contains ws x
from_put w [] x h = in_cons w [] x h
from_put w (y ∷ ys) x h = elim (is_lt (slice_cmp nat_cmp w.alias y.alias)) as (λ b. Contains (if b then w ∷ y ∷ ys else y ∷ put_wish w ys) x → (w ≡ x) ⊎ Contains (y ∷ ys) x) [
  | true ↦ λ k. in_cons w (y ∷ ys) x k
  | false ↦ λ k. elim (in_cons y (put_wish w ys) x k) [
    | inl e ↦ inr (subst (λ (z : Wish). Contains (y ∷ ys) z) e (here y ys))
    | inr more ↦ elim (from_put w ys x more) [ inl e ↦ inl e | inr c ↦ inr (there y ys x c) ]
  ]
] h

put_there : (w : Wish) (ws : List Wish) → Contains (put_wish w ws) w
put_there w [] = here w []
put_there w (y ∷ ys) = elim (is_lt (slice_cmp nat_cmp w.alias y.alias)) as (λ b. Contains (if b then w ∷ y ∷ ys else y ∷ put_wish w ys) w) [
  | true ↦ here w (y ∷ ys)
  | false ↦ there y (put_wish w ys) w (put_there w ys)
]

put_keeps : (w : Wish) (ws : List Wish) (x : Wish) → Contains ws x → Contains (put_wish w ws) x
put_keeps w [] x h = absurd (none_in x h)
put_keeps w (y ∷ ys) x h = elim (is_lt (slice_cmp nat_cmp w.alias y.alias)) as (λ b. Contains (if b then w ∷ y ∷ ys else y ∷ put_wish w ys) x) [
  | true ↦ there w (y ∷ ys) x h
  | false ↦ elim (in_cons y ys x h) [
    | inl e ↦ subst (λ (z : Wish). Contains (y ∷ put_wish w ys) z) e (here y (put_wish w ys))
    | inr c ↦ there y (put_wish w ys) x (put_keeps w ys x c)
  ]
]

from_puts : (ws rest : List Wish) (x : Wish) → Contains (put_wishes ws rest) x → Contains ws x ⊎ Contains rest x
from_puts [] rest x h = inr h
from_puts (w ∷ ws) rest x h = elim (from_put w (put_wishes ws rest) x h) [
  | inl e ↦ inl (subst (λ (z : Wish). Contains (w ∷ ws) z) e (here w ws))
  | inr more ↦ elim (from_puts ws rest x more) [ inl c ↦ inl (there w ws x c) | inr d ↦ inr d ]
]

puts_first : (ws rest : List Wish) (x : Wish) → Contains ws x → Contains (put_wishes ws rest) x
puts_first [] rest x h = absurd (none_in x h)
puts_first (w ∷ ws) rest x h = elim (in_cons w ws x h) [
  | inl e ↦ subst (λ (z : Wish). Contains (put_wish w (put_wishes ws rest)) z) e (put_there w (put_wishes ws rest))
  | inr c ↦ put_keeps w (put_wishes ws rest) x (puts_first ws rest x c)
]

puts_rest : (ws rest : List Wish) (x : Wish) → Contains rest x → Contains (put_wishes ws rest) x
puts_rest [] rest x h = h
puts_rest (w ∷ ws) rest x h = put_keeps w (put_wishes ws rest) x (puts_rest ws rest x h)

-- byte order
other_way : (o p : Ordering) → is_lt o ≡ false → (o ≡ Equal → ⊥) → p ≡ ordering_reverse o → p ≡ Less
other_way Less p h n e = cc
other_way Equal p h n e = absurd (n refl)
other_way Greater p h n e = e

is_after : (a b : List ℕ) → is_lt (slice_cmp nat_cmp a b) ≡ false → (b ≡ a → ⊥) → slice_cmp nat_cmp b a ≡ Less
is_after a b h n = other_way (slice_cmp nat_cmp a b) (slice_cmp nat_cmp b a) h (λ e. n (sym (exact_bytes a b e))) (nat_list_cmp_total.antisymm b a)

abbrev IsBelowAll : List ℕ → List (List ℕ) → Type 0
IsBelowAll a bs = AllByRecursion (λ (b : List ℕ). slice_cmp nat_cmp a b ≡ Less) bs

below_put : (a : List ℕ) (w : Wish) (ws : List Wish) → slice_cmp nat_cmp a w.alias ≡ Less → IsBelowAll a (aliases ws) → IsBelowAll a (aliases (put_wish w ws))
below_put a w [] h k = (h, tt)
below_put a w (y ∷ ys) h k = elim (is_lt (slice_cmp nat_cmp w.alias y.alias)) as (λ b. IsBelowAll a (aliases (if b then w ∷ y ∷ ys else y ∷ put_wish w ys))) [
  | true ↦ (h, k)
  | false ↦ (k.0, below_put a w ys h k.1)
]

put_rises : (w : Wish) (ws : List Wish) → AreRising (aliases ws) → (Contains (aliases ws) w.alias → ⊥) → AreRising (aliases (put_wish w ws))
unfolding IsStrictlySortedBy
put_rises w [] h n = (tt, tt)
put_rises w (y ∷ ys) h n = elim (is_lt (slice_cmp nat_cmp w.alias y.alias)) as (λ b. is_lt (slice_cmp nat_cmp w.alias y.alias) ≡ b → AreRising (aliases (if b then w ∷ y ∷ ys else y ∷ put_wish w ys))) [
  | true ↦ λ e.
      let less = is_less (slice_cmp nat_cmp w.alias y.alias) e in
      let further = All-weaker (λ (a : List ℕ). slice_cmp nat_cmp y.alias a ≡ Less) (λ (a : List ℕ). slice_cmp nat_cmp w.alias a ≡ Less) (λ a k. nat_list_cmp_total.trans w.alias y.alias a less k) (aliases ys) (All-after_first (slice_cmp nat_cmp) y.alias (aliases ys) h) in
      ((less, recursion_from_All (λ (a : List ℕ). slice_cmp nat_cmp w.alias a ≡ Less) (aliases ys) further), h)
  | false ↦ λ e. (
    below_put y.alias w ys (is_after w.alias y.alias e (λ same. n (subst (λ (a : List ℕ). Contains (y.alias ∷ aliases ys) a) same (here y.alias (aliases ys))))) h.0,
    put_rises w ys h.1 (λ c. n (there y.alias (aliases ys) w.alias c)),
  )
] refl

-- a name isn't among those behind it
head_once : (a : List ℕ) (bs : List (List ℕ)) → AreRising (a ∷ bs) → Contains bs a → ⊥
head_once a bs h c = not_before_self a (All-contains (λ (b : List ℕ). slice_cmp nat_cmp a b ≡ Less) bs a (All-after_first (slice_cmp nat_cmp) a bs h) c)

pub alias_in : (ws rest : List Wish) (n : List ℕ) → Contains (aliases (put_wishes ws rest)) n → Contains (aliases ws) n ⊎ Contains (aliases rest) n
alias_in ws rest n h =
    let m = from_map (λ (w : Wish). w.alias) (put_wishes ws rest) n h in
    elim (from_puts ws rest m.0 m.1) [
      | inl c ↦ inl (subst (λ (a : List ℕ). Contains (aliases ws) a) m.2 (to_map (λ (w : Wish). w.alias) ws m.0 c))
      | inr d ↦ inr (subst (λ (a : List ℕ). Contains (aliases rest) a) m.2 (to_map (λ (w : Wish). w.alias) rest m.0 d))
    ]

pub puts_rise : (ws rest : List Wish) → AreRising (aliases ws) → AreRising (aliases rest) → ((n : List ℕ) → Contains (aliases ws) n → Contains (aliases rest) n → ⊥) → AreRising (aliases (put_wishes ws rest))
unfolding IsStrictlySortedBy
puts_rise [] rest h k apart = k
puts_rise (w ∷ ws) rest h k apart =
    put_rises w (put_wishes ws rest) (puts_rise ws rest h.1 k (λ n c d. apart n (there w.alias (aliases ws) n c) d))
    (λ c. elim (alias_in ws rest w.alias c) [
      | inl a ↦ head_once w.alias (aliases ws) h a
      | inr b ↦ apart w.alias (here w.alias (aliases ws)) b
    ])

-- the aliases of a map's wishes are its names
aliases_are : (o : Bool) (pairs : List Pair) → aliases (map (wish o) pairs) ≡ names pairs
aliases_are o [] = refl
aliases_are o (e ∷ es) = ap (λ (ns : List (List ℕ)). e.0 ∷ ns) (aliases_are o es)

pub map_rises : (o : Bool) (pairs : List Pair) → AreRising (names pairs) → AreRising (aliases (map (wish o) pairs))
map_rises o pairs h = subst AreRising (sym (aliases_are o pairs)) h

pub alias_is_in : (o : Bool) (pairs : List Pair) (n : List ℕ) → Contains (aliases (map (wish o) pairs)) n → IsIn pairs n
alias_is_in o pairs n h = in_names pairs n (subst (λ (ns : List (List ℕ)). Contains ns n) (aliases_are o pairs) h)

rising : (m : Said) → IsRisingSaid m → IsOnce m → AreRising (aliases (wishes_of m))
unfolding IsStrictlySortedBy
rising m h once =
    let optional = map (wish true) m.optional in
    let dev = map (wish false) m.dev in
    let none : (n : List ℕ) → Contains (aliases optional) n → Contains (aliases []) n → ⊥ = λ n c d. none_in n d in
    let last : AreRising (aliases (put_wishes optional [])) = puts_rise optional [] (map_rises true m.optional h.optional) tt none in
    let in_last : (n : List ℕ) → Contains (aliases (put_wishes optional [])) n → IsIn m.optional n =
    λ n c. elim (alias_in optional [] n c) [ inl a ↦ alias_is_in true m.optional n a | inr b ↦ absurd (none_in n b) ] in
    let later : AreRising (aliases (put_wishes dev (put_wishes optional []))) =
    puts_rise dev (put_wishes optional []) (map_rises false m.dev h.dev) last (λ n c d. once.dev n (in_last n d) (alias_is_in false m.dev n c)) in
    puts_rise (map (wish false) m.dependencies) (put_wishes dev (put_wishes optional [])) (map_rises false m.dependencies h.dependencies) later
    (λ n c d. elim (alias_in dev (put_wishes optional []) n d) [
      | inl a ↦ once.either n (alias_is_in false m.dependencies n c) (alias_is_in false m.dev n a)
      | inr b ↦ once.dependencies n (in_last n b) (alias_is_in false m.dependencies n c)
    ])

sound : (m : Said) (w : Wish) → Contains (wishes_of m) w → IsWishOf m w
sound m w h =
    let opt = map (wish true) m.optional in
    let devs = map (wish false) m.dev in
    elim (from_puts (map (wish false) m.dependencies) (put_wishes devs (put_wishes opt [])) w h) [
      | inl a ↦ let e = from_map (wish false) m.dependencies w a in regular e.0 e.1 (sym e.2)
      | inr b ↦ elim (from_puts devs (put_wishes opt []) w b) [
        | inl c ↦ let e = from_map (wish false) m.dev w c in dev e.0 e.1 (sym e.2)
        | inr d ↦ elim (from_puts opt [] w d) [
          | inl f ↦ let e = from_map (wish true) m.optional w f in optional e.0 e.1 (sym e.2)
          | inr g ↦ absurd (none_in w g)
        ]
      ]
    ]

complete : (m : Said) (w : Wish) → IsWishOf m w → Contains (wishes_of m) w
complete m w (regular e c i) =
    puts_first (map (wish false) m.dependencies) _ w (subst (λ (x : Wish). Contains (map (wish false) m.dependencies) x) (sym i) (to_map (wish false) m.dependencies e c))
complete m w (dev e c i) =
    puts_rest (map (wish false) m.dependencies) _ w (puts_first (map (wish false) m.dev) _ w (subst (λ (x : Wish). Contains (map (wish false) m.dev) x) (sym i) (to_map (wish false) m.dev e c)))
complete m w (optional e c i) =
    puts_rest (map (wish false) m.dependencies) _ w (puts_rest (map (wish false) m.dev) _ w
    (puts_first (map (wish true) m.optional) [] w (subst (λ (x : Wish). Contains (map (wish true) m.optional) x) (sym i) (to_map (wish true) m.optional e c))))

-- what is left of a map rises
abbrev is_left : List (List ℕ) → List ℕ → Bool
is_left all n = not (is_among all n)

left_names : (all : List (List ℕ)) (pairs : List Pair) → names (but all pairs) ≡ filter (is_left all) (names pairs)
left_names all [] = refl
left_names all (e ∷ es) = elim (is_left all e.0) as (λ b. names (cond b (e ∷ but all es) (but all es)) ≡ cond b (e.0 ∷ filter (is_left all) (names es)) (filter (is_left all) (names es))) [
  | true ↦ ap (λ (ns : List (List ℕ)). e.0 ∷ ns) (left_names all es)
  | false ↦ left_names all es
]

left_peers : (all : List (List ℕ)) (peers : List Peer) → peer_names (peers_but all peers) ≡ filter (is_left all) (peer_names peers)
left_peers all [] = refl
left_peers all (p ∷ ps) = elim (is_left all p.name) as (λ b. peer_names (cond b (p ∷ peers_but all ps) (peers_but all ps)) ≡ cond b (p.name ∷ filter (is_left all) (peer_names ps)) (filter (is_left all) (peer_names ps))) [
  | true ↦ ap (λ (ns : List (List ℕ)). p.name ∷ ns) (left_peers all ps)
  | false ↦ left_peers all ps
]

left_rises : (all : List (List ℕ)) (pairs : List Pair) → AreRising (names pairs) → AreRising (names (but all pairs))
left_rises all pairs h = subst AreRising (sym (left_names all pairs)) (IsStrictlySortedBy-filter (slice_cmp nat_cmp) (is_left all) (names pairs) h)

peers_rise : (all : List (List ℕ)) (peers : List Peer) → AreRising (peer_names peers) → AreRising (peer_names (peers_but all peers))
peers_rise all peers h = subst AreRising (sym (left_peers all peers)) (IsStrictlySortedBy-filter (slice_cmp nat_cmp) (is_left all) (peer_names peers) h)

dev_rises : (owner : Owner) (m : Said) → AreRising (names m.dev) → AreRising (names (dev_of owner m))
unfolding IsStrictlySortedBy
dev_rises a_project m h = h
dev_rises a_package m h = tt

one_map_rises : (owner : Owner) (m : Said) → IsRisingSaid m → IsRisingSaid (one_map owner m)
one_map_rises owner m h = record {
  dependencies = left_rises (names m.optional) m.dependencies h.dependencies;
  dev = left_rises (names m.optional ++ names m.dependencies) (dev_of owner m) (dev_rises owner m h.dev);
  optional = h.optional;
  peers = h.peers;
  scripts = h.scripts;
  bins = h.bins;
  injected = h.injected;
  overrides = h.overrides;
}

dropped_rises : (before : List (List ℕ)) (m : Said) → IsRisingSaid m → IsRisingSaid (dropped before m)
dropped_rises before m h = record {
  dependencies = left_rises (own_names m.name) m.dependencies h.dependencies;
  dev = left_rises (own_names m.name) m.dev h.dev;
  optional = left_rises (own_names m.name) m.optional h.optional;
  peers = peers_rise (own_names m.name ++ before) m.peers h.peers;
  scripts = h.scripts;
  bins = h.bins;
  injected = h.injected;
  overrides = h.overrides;
}

seen_rises : (owner : Owner) (m s : Said) → IsRisingSaid m → IsSeen no_hook no_rules owner m s → IsRisingSaid s
seen_rises owner m s h k =
    subst IsRisingSaid (sym k.is) (dropped_rises (dependency_names (one_map owner m)) k.overridden (subst IsRisingSaid (sym k.by_rules) (one_map_rises owner m h)))

pub wish_law : WishLaw
wish_law = record { sound = sound; complete = complete; rising = rising; seen = seen_rises }
