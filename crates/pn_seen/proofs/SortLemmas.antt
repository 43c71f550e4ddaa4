-- A stable sort of wishes puts them in the order in which they are put one by one.
use Rattle.std.proofs.Common.{◌≡◌, ◌<◌, ◌+◌, ℕ, suc, Bool, true, false, List, [], ◌∷◌, ◌++◌, length, get_or, refl, sym, ap, ◌∙◌, subst, arith, nat_cmp, reverse, append-nil, if◌then◌else◌}
use Rattle.std.specs.Prelude.{cond, not, ◌&&◌, filter}
use Rattle.std.specs.Cmp.{IsStrictWeakOrder}
use Rattle.std.specs.Cmp.Lexicographic.{slice_cmp}
use Rattle.std.specs.List.Sorted.{IsSortedBy, IsStableBy, ties}
use Rattle.std.specs.Ordering.{is_lt}
use Rattle.std.proofs.lemmas.Cmp.{nat_list_cmp_total}
use Rattle.std.proofs.lemmas.List.{reverse-append}
use Rattle.std.proofs.lemmas.List.Elements.{filter-append}
use Rattle.std.proofs.lemmas.List.Sorted.{sorted_far, ranks_by}
use Rattle.pn_text.proofs.Bools.{true_false, and_right, not_true}
use Rattle.pn_walk.specs.declared.wish.Wish.{Wish}
use Rattle.pn_plain.specs.Seen.{put_wish, put_wishes}

module _ {X : Type 0} (lt : X → X → Bool) (o : IsStrictWeakOrder lt) where
  not_itself : (x : X) → lt x x ≡ false
  not_itself x = elim (lt x x) as (λ b. lt x x ≡ b → b ≡ false) [
    | true ↦ λ e. absurd (true_false (lt x x) e (o.one_way x x e))
    | false ↦ λ e. refl
  ] refl

  itself_ties : (x : X) → ties lt x x ≡ true
  itself_ties x = subst (λ b. (not b && not b) ≡ true) (sym (not_itself x)) refl

  -- no member is less than x
  abbrev NoneLess : X → List X → Type 0
  NoneLess x [] = Unit {0}
  NoneLess x (y ∷ ys) = (lt y x ≡ false) × NoneLess x ys

  abbrev InOrder : List X → Type 0
  InOrder [] = Unit {0}
  InOrder (x ∷ xs) = NoneLess x xs × InOrder xs

  none_from : (x : X) (ys : List X) → ((k : ℕ) → k < length ys → lt (get_or ys k x) x ≡ false) → NoneLess x ys
  none_from x [] h = tt
  none_from x (y ∷ ys) h = (h 0 (omega arith), none_from x ys (λ k w. h (suc k) (omega arith)))

  read_next : (x : X) (xs : List X) (k : ℕ) (d : X) → get_or (x ∷ xs) (suc k + 1) d ≡ get_or xs (k + 1) d
  read_next x xs k d = let e : suc k + 1 ≡ suc (k + 1) = omega arith in ap (λ n. get_or (x ∷ xs) n d) e

  in_order : (xs : List X) → IsSortedBy lt xs → InOrder xs
  in_order [] h = tt
  in_order (x ∷ xs) h = (
    none_from x xs (λ k w. sorted_far lt o (x ∷ xs) h 0 (suc k) x (omega arith) (omega arith)),
    in_order xs (λ k d low w. subst (λ y. lt y (get_or xs k d) ≡ false) (read_next x xs k d) (h (suc k) d (omega arith) (omega arith))),
  )

  -- where w is less than y but not than x, nothing ties with x among what isn't less than y
  none_tie : (w x y : X) (zs : List X) → lt w x ≡ false → lt w y ≡ true → NoneLess y zs → filter (ties lt x) zs ≡ []
  none_tie w x y [] h k n = refl
  none_tie w x y (z ∷ zs) h k n =
      let apart : lt x z ≡ true = elim (lt x z) as (λ b. lt x z ≡ b → b ≡ true) [
        | true ↦ λ e. refl
        | false ↦ λ e. absurd (true_false (lt w y) k (o.chain w z y (o.chain w x z h e) n.0))
      ] refl in
      subst (λ b. cond (not b && not (lt z x)) (z ∷ filter (ties lt x) zs) (filter (ties lt x) zs) ≡ []) (sym apart) (none_tie w x y zs h k n.1)

  abbrev Alike : List X → List X → Type 0
  Alike xs ys = (x : X) → filter (ties lt x) xs ≡ filter (ties lt x) ys

  first_kept : (x : X) (xs : List X) → filter (ties lt x) (x ∷ xs) ≡ x ∷ filter (ties lt x) xs
  first_kept x xs = subst (λ b. cond b (x ∷ filter (ties lt x) xs) (filter (ties lt x) xs) ≡ x ∷ filter (ties lt x) xs) (sym (itself_ties x)) refl

  -- the first of one list isn't less than that of the other
  not_first : (x y : X) (xs ys : List X) → NoneLess x xs → filter (ties lt y) (x ∷ xs) ≡ filter (ties lt y) (y ∷ ys) → lt y x ≡ false
  not_first x y xs ys n h = elim (lt y x) as (λ b. lt y x ≡ b → b ≡ false) [
    | true ↦ λ e.
        let nothing : filter (ties lt y) (x ∷ xs) ≡ [] = none_tie y y x (x ∷ xs) (not_itself y) e (not_itself x, n) in
        let first = first_kept y ys in
        cc
    | false ↦ λ e. refl
  ] refl

  tail_alike : (b : Bool) (x : X) (xs ys : List X) → cond b (x ∷ xs) xs ≡ cond b (x ∷ ys) ys → xs ≡ ys
  tail_alike true x xs ys h = cc
  tail_alike false x xs ys h = h

  pub same_order : (xs ys : List X) → InOrder xs → InOrder ys → Alike xs ys → xs ≡ ys
  same_order [] [] p q h = refl
  same_order [] (y ∷ ys) p q h = let k = h y in let first = first_kept y ys in absurd (cc)
  same_order (x ∷ xs) [] p q h = let k = h x in let first = first_kept x xs in absurd (cc)
  same_order (x ∷ xs) (y ∷ ys) p q h =
      let low : lt y x ≡ false = not_first x y xs ys p.0 (h y) in
      let high : lt x y ≡ false = not_first y x ys xs q.0 (sym (h x)) in
      let tied : ties lt x y ≡ true = subst (λ b. (not b && not (lt y x)) ≡ true) (sym high) (subst (λ b. not b ≡ true) (sym low) refl) in
      let other : filter (ties lt x) (y ∷ ys) ≡ y ∷ filter (ties lt x) ys = subst (λ b. cond b (y ∷ filter (ties lt x) ys) (filter (ties lt x) ys) ≡ y ∷ filter (ties lt x) ys) (sym tied) refl in
      let first = first_kept x xs in
      let here = h x in
      let same : x ≡ y = cc in
      let rest : xs ≡ ys = same_order xs ys p.1 q.1 (λ z. tail_alike (ties lt z x) x (filter (ties lt z) xs) (filter (ties lt z) ys)
      (subst (λ v. filter (ties lt z) (x ∷ xs) ≡ filter (ties lt z) (v ∷ ys)) (sym same) (h z))) in
      cc

abbrev pub by_alias : Wish → Wish → Bool
by_alias a b = is_lt (slice_cmp nat_cmp a.alias b.alias)

pub alias_order : IsStrictWeakOrder by_alias
alias_order = ranks_by nat_list_cmp_total (λ (w : Wish). w.alias)

abbrev NoneBefore : Wish → List Wish → Type 0
NoneBefore = NoneLess by_alias alias_order

abbrev Ordered : List Wish → Type 0
Ordered = InOrder by_alias alias_order

none_put : (x w : Wish) (ws : List Wish) → by_alias w x ≡ false → NoneBefore x ws → NoneBefore x (put_wish w ws)
none_put x w [] h n = (h, tt)
none_put x w (y ∷ ys) h n = elim (by_alias w y) as (λ b. NoneBefore x (if b then w ∷ y ∷ ys else y ∷ put_wish w ys)) [
  | true ↦ (h, n)
  | false ↦ (n.0, none_put x w ys h n.1)
]

none_further : (w y : Wish) (zs : List Wish) → by_alias y w ≡ false → NoneBefore y zs → NoneBefore w zs
none_further w y [] h n = tt
none_further w y (z ∷ zs) h n = (alias_order.chain z y w n.0 h, none_further w y zs h n.1)

put_ordered : (w : Wish) (ws : List Wish) → Ordered ws → Ordered (put_wish w ws)
put_ordered w [] h = (tt, tt)
put_ordered w (y ∷ ys) h = elim (by_alias w y) as (λ b. by_alias w y ≡ b → Ordered (if b then w ∷ y ∷ ys else y ∷ put_wish w ys)) [
  | true ↦ λ e. let back = alias_order.one_way w y e in ((back, none_further w y ys back h.0), h)
  | false ↦ λ e. (none_put y w ys e h.0, put_ordered w ys h.1)
] refl

puts_ordered : (ws : List Wish) → Ordered (put_wishes ws [])
puts_ordered [] = tt
puts_ordered (w ∷ ws) = put_ordered w (put_wishes ws []) (puts_ordered ws)

abbrev alike : Wish → List Wish → List Wish
alike x ws = filter (ties by_alias x) ws

put_last : {X : Type 0} (b : Bool) (w : X) (ws : List X) → (b ≡ true → ws ≡ []) → cond b (w ∷ ws) ws ≡ ws ++ cond b (w ∷ []) []
put_last true w ws h = subst (λ vs. w ∷ vs ≡ vs ++ (w ∷ [])) (sym (h refl)) refl
put_last false w ws h = sym (append-nil ws)

keep_first : {X : Type 0} (b : Bool) (y : X) (more ys rest : List X) → more ≡ ys ++ rest → cond b (y ∷ more) more ≡ cond b (y ∷ ys) ys ++ rest
keep_first true y more ys rest e = ap (λ zs. y ∷ zs) e
keep_first false y more ys rest e = e

-- what is put goes after what ties with it
put_alike : (x w : Wish) (ws : List Wish) → Ordered ws → alike x (put_wish w ws) ≡ alike x ws ++ alike x (w ∷ [])
put_alike x w [] h = refl
put_alike x w (y ∷ ys) h = elim (by_alias w y) as (λ b. by_alias w y ≡ b → alike x (if b then w ∷ y ∷ ys else y ∷ put_wish w ys) ≡ alike x (y ∷ ys) ++ alike x (w ∷ [])) [
  | true ↦ λ e. put_last (ties by_alias x w) w (alike x (y ∷ ys)) (λ t. none_tie by_alias alias_order w x y (y ∷ ys)
      (not_true (by_alias w x) (and_right (not (by_alias x w)) (not (by_alias w x)) t)) e (not_itself by_alias alias_order y, h.0))
  | false ↦ λ e. keep_first (ties by_alias x y) y (alike x (put_wish w ys)) (alike x ys) (alike x (w ∷ [])) (put_alike x w ys h.1)
] refl

puts_alike : (x : Wish) (ws : List Wish) → alike x (put_wishes ws []) ≡ alike x (reverse ws)
puts_alike x [] = refl
puts_alike x (w ∷ ws) =
    put_alike x w (put_wishes ws []) (puts_ordered ws) ∙ ap (λ vs. vs ++ alike x (w ∷ [])) (puts_alike x ws)
    ∙ sym (filter-append (ties by_alias x) (reverse ws) (w ∷ [])) ∙ ap (alike x) (sym (reverse-append (w ∷ []) ws))

-- what a stable sort of the reversed list gives
pub sorted_puts : (ws sorted : List Wish) → IsSortedBy by_alias sorted → IsStableBy by_alias (reverse ws) sorted → sorted ≡ put_wishes ws []
sorted_puts ws sorted up stable =
    same_order by_alias alias_order sorted (put_wishes ws []) (in_order by_alias alias_order sorted up) (puts_ordered ws) (λ x. stable x ∙ sym (puts_alike x ws))

pub puts_append : (xs ys rest : List Wish) → put_wishes (xs ++ ys) rest ≡ put_wishes xs (put_wishes ys rest)
puts_append [] ys rest = refl
puts_append (x ∷ xs) ys rest = ap (put_wish x) (puts_append xs ys rest)
