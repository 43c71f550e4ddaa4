-- No key stands twice in what is read of a map.
use Rattle.std.proofs.Common.{◌≡◌, ℕ, zero, suc, ◌<◌, Bool, true, false, cond, List, [], ◌∷◌, length, get_or, map, refl, sym, ap, ◌∙◌, subst, inl, inr, arith}
use Rattle.std.specs.Prelude.{◌&&◌, not, Option, Some, None, Ok, Err}
use Rattle.std.specs.List.{AllByRecursion}
use Rattle.std.specs.Str.{bytes_eq}
use Rattle.std.proofs.lemmas.Bool.{cases_Bool}
use Rattle.std.proofs.lemmas.Slice.Eq.{bytes_eq-Decides}
use Rattle.pn_text.proofs.Bools.{and_left, and_right, neither, not_true}
use Rattle.pn_yaml.specs.Data.{Data, scalar, list, Items, no_items, item, Members, no_members, member, is_among, are_apart, items_apart, members_apart}
use Rattle.pn_yaml.specs.Data.{map as map_data}
use Rattle.pn_lock_shape.specs.Bare.{bare, bare_items, bare_members, tree, tree_members}
use Rattle.pn_yaml.specs.declared.node.Node.{Node}
use Rattle.pn_lock_shape.specs.Keys.{Once}
use Rattle.pn_lock_shape.specs.Shapes.{Outcome, ◌>>=◌, at, and_then, each, get}

abbrev pub keys_of : Members → List (List ℕ)
keys_of no_members = []
keys_of (member k d ms) = k ∷ keys_of ms

-- ---- quotes don't matter

mutual
  pub apart_bare : (d : Data) → are_apart (bare d) ≡ are_apart d
  apart_bare (scalar text plain) = refl
  apart_bare (list ds) = items_bare ds
  apart_bare (map_data ms) = members_bare [] ms

  items_bare : (ds : Items) → items_apart (bare_items ds) ≡ items_apart ds
  items_bare no_items = refl
  items_bare (item d ds) = ap (λ o. o && items_apart (bare_items ds)) (apart_bare d) ∙ ap (λ o. are_apart d && o) (items_bare ds)

  pub members_bare : (seen : List (List ℕ)) (ms : Members) → members_apart seen (bare_members ms) ≡ members_apart seen ms
  members_bare seen no_members = refl
  members_bare seen (member k d ms) =
      ap (λ o. not (is_among k seen) && (o && members_apart (k ∷ seen) (bare_members ms))) (apart_bare d)
      ∙ ap (λ o. not (is_among k seen) && (are_apart d && o)) (members_bare (k ∷ seen) ms)

-- ---- keys apart

pub other_way : (x y : List ℕ) → bytes_eq x y ≡ false → bytes_eq y x ≡ false
other_way x y h = elim (cases_Bool (bytes_eq y x)) [
  | inl e ↦ absurd (cc (h, ap (bytes_eq x) ((bytes_eq-Decides y x).0 e), (bytes_eq-Decides x x).1 refl))
  | inr e ↦ e
]

-- no key is among those before
fresh : (seen : List (List ℕ)) (ms : Members) → members_apart seen ms ≡ true → AllByRecursion (λ y. is_among y seen ≡ false) (keys_of ms)
fresh seen no_members h = tt
fresh seen (member k d ms) h =
    let inside = and_right (are_apart d) (members_apart (k ∷ seen) ms) (and_right (not (is_among k seen)) (are_apart d && members_apart (k ∷ seen) ms) h) in
    (not_true (is_among k seen) (and_left (not (is_among k seen)) (are_apart d && members_apart (k ∷ seen) ms) h), fewer k seen (keys_of ms) (fresh (k ∷ seen) ms inside))
  where
    fewer : (k : List ℕ) (seen ks : List (List ℕ)) → AllByRecursion (λ y. is_among y (k ∷ seen) ≡ false) ks → AllByRecursion (λ y. is_among y seen ≡ false) ks
    fewer k seen [] h = tt
    fewer k seen (y ∷ ks) h = ((neither (bytes_eq k y) (is_among y seen) h.0).1, fewer k seen ks h.1)

others : (k : List ℕ) (seen ks : List (List ℕ)) → AllByRecursion (λ y. is_among y (k ∷ seen) ≡ false) ks → AllByRecursion (λ y. bytes_eq y k ≡ false) ks
others k seen [] h = tt
others k seen (y ∷ ks) h = (other_way k y (neither (bytes_eq k y) (is_among y seen) h.0).0, others k seen ks h.1)

pub keys_once : (seen : List (List ℕ)) (ms : Members) → members_apart seen ms ≡ true → Once (keys_of ms)
keys_once seen no_members h = tt
keys_once seen (member k d ms) h =
    let inside = and_right (are_apart d) (members_apart (k ∷ seen) ms) (and_right (not (is_among k seen)) (are_apart d && members_apart (k ∷ seen) ms) h) in
    (others k seen (keys_of ms) (fresh (k ∷ seen) ms inside), keys_once (k ∷ seen) ms inside)

-- ---- what is read has the map's keys

ok_one : {A : Type 0} (r : Outcome (List A)) (a b : List A) → r ≡ Ok a → r ≡ Ok b → a ≡ b
ok_one r a b h g = cc (h, g)

put_first : {A : Type 0} (key : A → List ℕ) (x : A) (r : Outcome (List A)) (ks : List (List ℕ)) (k : List ℕ) (xs : List A) → key x ≡ k
    → ((ys : List A) → r ≡ Ok ys → map key ys ≡ ks) → and_then x r ≡ Ok xs → map key xs ≡ k ∷ ks
put_first key x (Ok ys) ks k xs e f h = ap (map key) (sym (ok_one (Ok (x ∷ ys)) (x ∷ ys) xs refl h)) ∙ ap (λ z. z ∷ map key ys) e ∙ ap (λ zs. k ∷ zs) (f ys refl)
put_first key x (Err e) ks k xs g f h = absurd (cc h)

pub each_keys : {A : Type 0} (read : List ℕ → Data → Outcome A) (key : A → List ℕ) → ((k : List ℕ) (d : Data) (x : A) → read k d ≡ Ok x → key x ≡ k) → (ms : Members) (xs : List A)
    → each read ms ≡ Ok xs → map key xs ≡ keys_of ms
each_keys read key own no_members xs h = ap (map key) (sym (ok_one (Ok []) [] xs refl h))
each_keys read key own (member k d ms) xs h =
    (elim (read k d) as (λ r. read k d ≡ r → (at k r >>= λ x. and_then x (each read ms)) ≡ Ok xs → map key xs ≡ k ∷ keys_of ms) [
      | Ok x ↦ λ is g. put_first key x (each read ms) (keys_of ms) k xs (own k d x is) (each_keys read key own ms) g
      | Err e ↦ λ is g. absurd (cc g)
    ]) refl h

-- what is read of a map may be sorted
pub read_once : {A : Type 0} (read : List ℕ → Data → Outcome A) (key : A → List ℕ) → ((k : List ℕ) (d : Data) (x : A) → read k d ≡ Ok x → key x ≡ k) → (ms : Members) (xs : List A)
    → members_apart [] ms ≡ true → each read ms ≡ Ok xs → Once (map key xs)
read_once read key own ms xs apart h = subst Once (sym (each_keys read key own ms xs h)) (keys_once [] ms apart)

apart_of : Option Data → Bool
apart_of None = true
apart_of (Some d) = are_apart d

same : (e d : Data) → Some e ≡ Some d → are_apart e ≡ true → are_apart d ≡ true
unfolding apart_of
same e d f h = sym (ap apart_of f) ∙ h

-- the value of a key has no key twice
pub get_apart : (key : List ℕ) (seen : List (List ℕ)) (ms : Members) (d : Data) → members_apart seen ms ≡ true → get key ms ≡ Some d → are_apart d ≡ true
get_apart key seen no_members d h g = absurd (cc g)
get_apart key seen (member k e ms) d h g =
    let both = and_right (not (is_among k seen)) (are_apart e && members_apart (k ∷ seen) ms) h in
    (elim (bytes_eq k key) as (λ o. cond o (Some e) (get key ms) ≡ Some d → are_apart d ≡ true) [
      | true ↦ λ f. same e d f (and_left (are_apart e) (members_apart (k ∷ seen) ms) both)
      | false ↦ λ f. get_apart key (k ∷ seen) ms d (and_right (are_apart e) (members_apart (k ∷ seen) ms) both) f
    ]) g

-- the value of an entry has no key twice
pub apart_at : (seen : List (List ℕ)) (entries : List (List ℕ × Node)) (i : ℕ) (m : List ℕ × Node) → i < length entries → m ≡ get_or entries i m → members_apart seen (tree_members entries) ≡ true → are_apart (tree m.1) ≡ true
apart_at seen [] i m l e h = absurd (omega (arith, l))
apart_at seen (n ∷ entries) zero m l e h =
    let both = and_right (not (is_among n.0 seen)) (are_apart (tree n.1) && members_apart (n.0 ∷ seen) (tree_members entries)) h in
    subst (λ (x : List ℕ × Node). are_apart (tree x.1) ≡ true) (sym e) (and_left (are_apart (tree n.1)) (members_apart (n.0 ∷ seen) (tree_members entries)) both)
apart_at seen (n ∷ entries) (suc i) m l e h =
    let both = and_right (not (is_among n.0 seen)) (are_apart (tree n.1) && members_apart (n.0 ∷ seen) (tree_members entries)) h in
    apart_at (n.0 ∷ seen) entries i m (omega (arith, l)) e (and_right (are_apart (tree n.1)) (members_apart (n.0 ∷ seen) (tree_members entries)) both)
